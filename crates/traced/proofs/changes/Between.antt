-- What is done between a making and a close, or an entry and an exit, put together from what the calls say.
use Rattle.std.proofs.Common.{◌≡◌, ℕ, Result, Ok, OnOk, ap, ◌∙◌, subst}
use Rattle.traced.proofs.Common.{Memory, ValueSet, Lane, Parent, Ghosts, WorldValue, Exit, Handle, ReplacedOn, EntryGuard, TellsOne, TellsIfGateAdmits, MakesIfGateAdmits, Closes, Enters, Exits, MakesAndCloses, EntersAndExits, Tells}

module _ {S : Type 0} {sub : Ghosts S} {old new : WorldValue S} where
  pub makes_and_closes : {begun ended : WorldValue S} {lane : Lane} {parent : Parent} {site begins ends : ℕ} {values : ValueSet} {handle : Handle} {between : Handle → WorldValue S → WorldValue S → Type 0}
      → MakesIfGateAdmits sub old begun lane begins parent site values (Ok handle) → between handle begun ended → Closes sub ended new ends handle → MakesAndCloses sub lane parent site values begins ends between old new
  makes_and_closes {begun} {ended} {handle = handle} makes meanwhile closes = record {
    handle = handle;
    begun = begun;
    ended = ended;
    makes = makes;
    meanwhile = meanwhile;
    closes = closes.did;
  }

  -- the guard is of the span that was entered
  pub enters_and_exits : {world left_world : WorldValue S} {before later lane left_lane : Lane} {handle : Handle} {guard : EntryGuard} {enters exits : ℕ} {between : WorldValue S → Lane → WorldValue S → Lane → Type 0}
      → Enters sub old world before lane enters handle guard → between world lane left_world left_lane → Exits sub left_world new left_lane later exits guard → EntersAndExits sub handle enters exits between old new before later
  enters_and_exits {world} {left_world} {later = later} {lane = lane} {left_lane = left_lane} {exits = exits} entered meanwhile exited = record {
    world = world;
    lane = lane;
    left_world = left_world;
    left_lane = left_lane;
    entered = entered.did;
    none_entered = entered.none;
    meanwhile = meanwhile;
    exited = subst (λ (h : Handle). ReplacedOn (λ id s t. sub.does s (Exit id exits left_lane later) t) left_world new h.held) entered.of exited.did;
    none_exited = λ none. exited.none (ap (λ (h : Handle). h.held) entered.of ∙ none);
  }

  -- an event that is told, if the gate lets its callsite through
  pub tells_if_answered : {lane : Lane} {at site : ℕ} {parent : Parent} {values : ValueSet} {result : Result (Unit {0}) Memory}
      → Tells sub old new lane at parent site values result → result ≡ Ok tt → TellsIfGateAdmits sub old new lane at parent site values
  tells_if_answered {lane} {at} {site} {parent} {values} tells done = record {
    told = λ through. subst (λ (r : Result (Unit {0}) Memory). OnOk r (TellsOne sub old new lane at parent site values)) done (tells.told through);
    refused = λ back. (tells.refused back).1;
  }
