-- What a program's next call asks for, from what its last calls say: rules for `using` of its tactics. Each takes what is at
-- hand as it stands, since a tactic looks no further.
use Rattle.std.proofs.Common.{ℕ, ◌+◌, ◌≤◌, ◌<◌, List, ◌∷◌, Ok}
use Rattle.traced.proofs.Common.{ValueSet, Lane, Parent, Ghosts, WorldValue, Handle, EntryGuard, IsHeld, CanTell, CanAsk, CanClose, CanExit, StandsAlone, StandsWith, RestoresWorld, MakesIfGateAdmits, Closes, Enters, IsUnchanged}
use Rattle.traced.proofs.Rules.{can_tell, can_close}
use Rattle.traced.proofs.KeptLemmas.{turned_ready, may_make, may_make_under, may_tell, may_enter, is_of_lane, may_close, may_ask, held_kept, ready_stays, keeps_late, keeps_both, keeps_quiet, held_stays, next_made, next_entered, keeps_unmade, keeps_refused, ready_late, ready_made, held_made, ready_entered, held_entered, may_exit_kept, ends_unmade, ends_refused, ends_first, ends_closed, ends_exited}

module _ {S : Type 0} {sub : Ghosts S} {sites n : ℕ} where
  -- behind a span that was made
  module _ {old begun : WorldValue S} {lane : Lane} {others : List Lane} {at site : ℕ} {parent : Parent} {values : ValueSet} {handle : Handle} (ready : StandsAlone sub n sites old (lane ∷ others)) (makes : MakesIfGateAdmits sub old begun lane at parent site values (Ok handle)) where
    pub ask_made : CanAsk begun handle
    ask_made = may_ask (held_made ready makes)

    pub with_made : {m : ℕ} → n + 1 ≤ m → StandsWith sub m sites begun (lane ∷ others) handle
    with_made within = record { ready = ready_made ready makes within; held = held_made ready makes }

    pub close_made : {m : ℕ} {ended : WorldValue S} {lanes left : List Lane} → RestoresWorld sub m sites begun lanes ended left → CanClose sub ended handle
    close_made {m} {ended} {left = left} keeps = can_close sub m 0 sites ended left handle keeps.ready.stands (held_kept keeps (held_made ready makes))

    -- and calls that change nothing that is read
    module _ {asked : WorldValue S} (stays : IsUnchanged sub begun asked) where
      pub ready_asked : {m : ℕ} → n + 1 ≤ m → StandsAlone sub m sites asked (lane ∷ others)
      ready_asked within = ready_stays (next_made ready makes) stays within

      pub held_asked : IsHeld sub 0 asked handle
      held_asked = held_stays stays (held_made ready makes)

      pub with_asked : {m : ℕ} → n + 1 ≤ m → StandsWith sub m sites asked (lane ∷ others) handle
      with_asked within = record { ready = ready_asked within; held = held_asked }

      pub close_asked : {m : ℕ} {ended : WorldValue S} {lanes left : List Lane} → RestoresWorld sub m sites asked lanes ended left → CanClose sub ended handle
      close_asked {m} {ended} {left = left} keeps = can_close sub m 0 sites ended left handle keeps.ready.stands (held_kept keeps held_asked)

  -- behind one that was closed
  pub tell_closed : {old ended new : WorldValue S} {last : Lane} {lanes rest : List Lane} {at site : ℕ} {closing : Handle} → RestoresWorld sub n sites old lanes ended (last ∷ rest) → Closes sub ended new at closing → site < sites → CanTell sub new last site
  tell_closed {new = new} {last = last} {rest = rest} {site = site} keeps closes within = can_tell sub n 0 sites new last rest site (closes.stands n 0 sites (last ∷ rest) keeps.ready.stands) within

  -- behind one that was entered
  module _ {old world : WorldValue S} {before lane : Lane} {others : List Lane} {at : ℕ} {handle : Handle} {guard : EntryGuard} (ready : StandsAlone sub n sites old (before ∷ others)) (enters : Enters sub old world before lane at handle guard) (held : IsHeld sub 0 old handle) where
    pub tell_entered : {site : ℕ} → site < sites → CanTell sub world lane site
    tell_entered within = may_tell (next_entered enters held ready) within

    pub with_entered : {m : ℕ} → n + 1 ≤ m → StandsWith sub m sites world (lane ∷ others) handle
    with_entered within = record { ready = ready_entered enters held ready within; held = held_entered enters held }

    pub exit_entered : {inner : WorldValue S} → IsUnchanged sub world inner → CanExit sub inner lane guard
    exit_entered stays = may_exit_kept enters held (keeps_quiet (next_entered enters held ready) stays)

  -- behind what was done on the lane before
  pub with_turned : {m : ℕ} {old new : WorldValue S} {lanes rest : List Lane} {lane other : Lane} {handle : Handle} → RestoresWorld sub n sites old lanes new (lane ∷ other ∷ rest) → IsHeld sub 0 old handle → n ≤ m → StandsWith sub m sites new (other ∷ lane ∷ rest) handle
  with_turned keeps held within = record { ready = ready_late (turned_ready keeps.ready) within; held = held_kept keeps held }

pub ruleset asking = (ask_made, with_made, close_made, with_asked, ready_asked, held_asked, close_asked, with_entered, with_turned, tell_closed, tell_entered, exit_entered, turned_ready, may_make, may_make_under, may_tell, may_enter, is_of_lane, may_close, held_kept, keeps_late, keeps_both, keeps_unmade, keeps_refused, ready_late, ready_made, held_made, ready_entered, held_entered, may_exit_kept, ends_unmade, ends_refused, ends_first, ends_closed, ends_exited)
