-- What functions of a program leave behind, call by call.
use Rattle.std.proofs.Common.{◌≡◌, ℕ, ◌+◌, ◌≤◌, ◌<◌, ◌^◌, List, [], ◌∷◌, length, Result, Ok, Err, refl, sym, ◌∙◌, subst, arith, IfSome}
use Rattle.std.specs.Prelude.{IsErr, is_ok}
use Rattle.traced.proofs.Common.{Memory, ValueSet, Lane, Parent, Ghosts, WorldValue, dispatch_on, Handle, IsOf, as_parent, KeepsPlainData, EntryGuard, IsHeld, CanMake, CanTell, CanAsk, CanClose, CanEnter, CanExit, MakesAndCloses, EntersAndExits, TellsIfGateAdmits, StandsAlone, HaveSameIds, RestoresWorld, RestoresAndDid, MakesIfGateAdmits, Closes, Enters, Refuses, Exits, IsUnchanged, Tells}
use Rattle.trace_base.specs.declared.span.Parent.TheVariants as parent
use Rattle.traced.proofs.changes.Between.{makes_and_closes, enters_and_exits, tells_if_answered}
use Rattle.traced.proofs.Moves.{later, stays_stands, stays_as_before}
use Rattle.traced.proofs.Rules.{can_make, can_make_under, can_tell, can_close, can_enter, can_exit, can_ask_held, of_lane, alike_stands}
use Rattle.traced.proofs.changes.Steps.{turned, inside_if_entered, held_after, made_after, entered_after, inside_after, again}

-- what fails isn't Ok
pub failed : {E : Type 0} {done : Type 0} (result : Result (Unit {0}) E) → IsErr result → result ≡ Ok tt → done
failed (Ok x) fails is = absurd (cc fails)
failed (Err e) fails is = absurd (cc is)

-- what is Ok beside what is Ok
both_ok : {E F : Type 0} (result : Result (Unit {0}) E) (first : Result (Unit {0}) F) → is_ok result ≡ is_ok first → result ≡ Ok tt → first ≡ Ok tt
both_ok result (Ok x) same is = refl
both_ok (Ok x) (Err f) same is = absurd (cc same)
both_ok (Err e) (Err f) same is = absurd (cc is)

pub same_ids : (lanes : List Lane) → HaveSameIds lanes lanes
same_ids [] = refl
same_ids (lane ∷ lanes) = (refl, same_ids lanes)

ids_again : (lanes mid left : List Lane) → HaveSameIds lanes mid → HaveSameIds mid left → HaveSameIds lanes left
ids_again [] mid left first last = subst (λ (m : List Lane). HaveSameIds m left) first last
ids_again (lane ∷ lanes) [] left first last = absurd first
ids_again (lane ∷ lanes) (m ∷ mid) [] first last = last
ids_again (lane ∷ lanes) (m ∷ mid) (l ∷ left) first last = (last.0 ∙ first.0, ids_again lanes mid left first.1 last.1)

-- handles that are held
module _ {S : Type 0} {sub : Ghosts S} where
  pub may_ask : {world : WorldValue S} {handle : Handle} → IsHeld sub 0 world handle → CanAsk world handle
  may_ask {world} {handle} held = can_ask_held sub 0 world handle held

  pub held_stays : {old new : WorldValue S} {handle : Handle} → IsUnchanged sub old new → IsHeld sub 0 old handle → IsHeld sub 0 new handle
  held_stays {old} {new} {handle} stays held = held_after sub 0 old new handle (stays_as_before sub 0 old new stays) held

  pub held_made : {n sites : ℕ} {old new : WorldValue S} {lane : Lane} {others : List Lane} {at site : ℕ} {parent : Parent} {values : ValueSet} {handle : Handle} → StandsAlone sub n sites old (lane ∷ others) → MakesIfGateAdmits sub old new lane at parent site values (Ok handle) → IsHeld sub 0 new handle
  held_made ready makes = (makes.newest 0 ready.stands.served.0.serves).held

  pub held_entered : {old new : WorldValue S} {before left : Lane} {at : ℕ} {handle : Handle} {guard : EntryGuard} → Enters sub old new before left at handle guard → IsHeld sub 0 old handle → IsHeld sub 0 new handle
  held_entered {new = new} enters held = subst (IsHeld sub 0 new) enters.of (enters.entered 0 held).held

module _ {S : Type 0} {sub : Ghosts S} {sites : ℕ} where
  -- the first two lanes turned round
  pub turned_ready : {n : ℕ} {world : WorldValue S} {lane other : Lane} {others : List Lane} → StandsAlone sub n sites world (lane ∷ other ∷ others) → StandsAlone sub n sites world (other ∷ lane ∷ others)
  turned_ready ready = record { stands = turned ready.stands; alone = ready.alone }

  turned_keeps : {n : ℕ} {old new : WorldValue S} {lane other last next : Lane} {others left : List Lane} → RestoresWorld sub n sites old (lane ∷ other ∷ others) new (last ∷ next ∷ left) → RestoresWorld sub n sites old (other ∷ lane ∷ others) new (next ∷ last ∷ left)
  turned_keeps keeps = record { ready = turned_ready keeps.ready; ids = (keeps.ids.1.0, (keeps.ids.0, keeps.ids.1.1)); restores = keeps.restores }

  pub turned_ends : {E : Type 0} {n : ℕ} {old new : WorldValue S} {lane other last next : Lane} {others left : List Lane} {result : Result (Unit {0}) E} {done : Type 0} → RestoresAndDid sub n sites old (lane ∷ other ∷ others) new (last ∷ next ∷ left) result done → RestoresAndDid sub n sites old (other ∷ lane ∷ others) new (next ∷ last ∷ left) result done
  turned_ends ends = record { keeps = turned_keeps ends.keeps; did = ends.did }

  -- what calls ask for
  module _ {n : ℕ} {world : WorldValue S} {lane : Lane} {others : List Lane} (ready : StandsAlone sub n sites world (lane ∷ others)) where
    pub may_make : {site : ℕ} → n < 2 ^ 63 → site < sites → CanMake sub world lane parent.Current site
    may_make {site} early within = can_make sub n 0 sites world lane others site ready.stands early within

    pub may_make_under : {site : ℕ} {handle : Handle} → n < 2 ^ 63 → site < sites → IsHeld sub 0 world handle → CanMake sub world lane (as_parent handle.held) site
    may_make_under {site} {handle} early within held = can_make_under sub n 0 sites world lane others site handle ready.stands early within held

    pub may_tell : {site : ℕ} → site < sites → CanTell sub world lane site
    may_tell {site} within = can_tell sub n 0 sites world lane others site ready.stands within

    pub may_enter : {handle : Handle} → n < 2 ^ 63 → IsHeld sub 0 world handle → CanEnter sub world handle
    may_enter {handle} early held = can_enter sub n 0 sites world (lane ∷ others) handle ready.stands early held

    pub is_of_lane : {handle : Handle} → IsHeld sub 0 world handle → IfSome (dispatch_on lane.default world.global) (IsOf handle.held)
    is_of_lane {handle} held = of_lane sub 0 world lane handle held (record { serves = ready.stands.served.0.serves })

    pub may_close : {handle : Handle} → IsHeld sub 0 world handle → CanClose sub world handle
    may_close {handle} held = can_close sub n 0 sites world (lane ∷ others) handle ready.stands held

  -- where it stands ready, the only subscriber is there
  pub alone_there : {n dispatch : ℕ} {world : WorldValue S} {lanes : List Lane} → StandsAlone sub n sites world lanes → dispatch ≡ 0 → dispatch < length world.subscribers
  alone_there ready first = (let alone = ready.alone in omega (arith, alone, first))

  -- another filter is in force
  pub ready_alike : {n dispatch : ℕ} {old new : WorldValue S} {lanes : List Lane} → StandsAlone sub n sites old lanes → KeepsPlainData sub.spans sub.attaches sub.kept sub.is_whole old new dispatch → dispatch ≡ 0 → new.sites ≡ old.sites → new.global ≡ old.global → StandsAlone sub n sites new lanes
  ready_alike {n} {dispatch} {old} {new} {lanes} ready alike is same global = record { stands = alike_stands sub n dispatch 0 sites old new lanes alike is same global ready.stands; alone = alike.count ∙ ready.alone }

  -- a handle is held on
  pub held_kept : {n : ℕ} {old new : WorldValue S} {lanes left : List Lane} {handle : Handle} → RestoresWorld sub n sites old lanes new left → IsHeld sub 0 old handle → IsHeld sub 0 new handle
  held_kept {old = old} {new = new} {handle = handle} keeps held = held_after sub 0 old new handle keeps.restores held

  -- calls that change nothing that is read
  module _ {n m : ℕ} {old new : WorldValue S} {lanes : List Lane} (ready : StandsAlone sub n sites old lanes) (stays : IsUnchanged sub old new) (within : n ≤ m) where
    pub ready_stays : StandsAlone sub m sites new lanes
    ready_stays = record {
      stands = later sub n m 0 sites new lanes within (stays_stands sub n 0 sites old new lanes stays ready.stands);
      alone = (stays.alike 0).count ∙ ready.alone;
    }

    pub keeps_stays : RestoresWorld sub m sites old lanes new lanes
    keeps_stays = record { ready = ready_stays; ids = same_ids lanes; restores = stays_as_before sub 0 old new stays }

  pub ready_late : {n m : ℕ} {world : WorldValue S} {lanes : List Lane} → StandsAlone sub n sites world lanes → n ≤ m → StandsAlone sub m sites world lanes
  ready_late {n} {m} {world} {lanes} ready within = record { stands = later sub n m 0 sites world lanes within ready.stands; alone = ready.alone }

  -- the same, no later, for what follows
  pub keeps_quiet : {n : ℕ} {old new : WorldValue S} {lanes : List Lane} → StandsAlone sub n sites old lanes → IsUnchanged sub old new → RestoresWorld sub n sites old lanes new lanes
  keeps_quiet ready stays = keeps_stays ready stays (omega arith)

  pub next_made : {n : ℕ} {old new : WorldValue S} {lane : Lane} {others : List Lane} {at site : ℕ} {parent : Parent} {values : ValueSet} {result : Result Handle Memory} → StandsAlone sub n sites old (lane ∷ others) → MakesIfGateAdmits sub old new lane at parent site values result → StandsAlone sub (n + 1) sites new (lane ∷ others)
  next_made {n} {old} {new} {lane} {others} ready makes = record { stands = makes.stands n 0 sites (lane ∷ others) ready.stands; alone = makes.count ∙ ready.alone }

  pub next_entered : {n : ℕ} {old new : WorldValue S} {before left : Lane} {others : List Lane} {at : ℕ} {handle : Handle} {guard : EntryGuard} → Enters sub old new before left at handle guard → IsHeld sub 0 old handle → StandsAlone sub n sites old (before ∷ others) → StandsAlone sub (n + 1) sites new (left ∷ others)
  next_entered {n} {others = others} enters held ready = record { stands = enters.stands n 0 sites others held ready.stands; alone = enters.count ∙ ready.alone }

  pub keeps_late : {n m : ℕ} {old new : WorldValue S} {lanes left : List Lane} → RestoresWorld sub n sites old lanes new left → n ≤ m → RestoresWorld sub m sites old lanes new left
  keeps_late keeps within = record { ready = ready_late keeps.ready within; ids = keeps.ids; restores = keeps.restores }

  -- one function after another
  pub keeps_again : {n m : ℕ} {old mid new : WorldValue S} {lanes between left : List Lane} → RestoresWorld sub n sites old lanes mid between → RestoresWorld sub m sites mid between new left → RestoresWorld sub m sites old lanes new left
  keeps_again {old = old} {mid = mid} {new = new} {lanes = lanes} {between = between} {left = left} first last = record {
    ready = last.ready;
    ids = ids_again lanes between left first.ids last.ids;
    restores = again sub 0 old mid new first.restores last.restores;
  }

  pub keeps_both : {n m k : ℕ} {old mid new : WorldValue S} {lanes between left : List Lane} → RestoresWorld sub n sites old lanes mid between → RestoresWorld sub m sites mid between new left → m ≤ k → RestoresWorld sub k sites old lanes new left
  keeps_both first last within = keeps_late (keeps_again first last) within

  -- a span that is made
  module _ {n m : ℕ} {old new : WorldValue S} {lane : Lane} {others : List Lane} {at site : ℕ} {parent : Parent} {values : ValueSet} (ready : StandsAlone sub n sites old (lane ∷ others)) where
    pub ready_made : {result : Result Handle Memory} → MakesIfGateAdmits sub old new lane at parent site values result → n + 1 ≤ m → StandsAlone sub m sites new (lane ∷ others)
    ready_made makes within = record {
      stands = later sub (n + 1) m 0 sites new (lane ∷ others) within (makes.stands n 0 sites (lane ∷ others) ready.stands);
      alone = makes.count ∙ ready.alone;
    }

    -- or isn't, for want of memory
    pub keeps_unmade : {memory : Memory} → MakesIfGateAdmits sub old new lane at parent site values (Err memory) → n + 1 ≤ m → RestoresWorld sub m sites old (lane ∷ others) new (lane ∷ others)
    keeps_unmade makes within = record { ready = ready_made makes within; ids = same_ids (lane ∷ others); restores = makes.memory_restores 0 }

  -- and is closed, behind what is done meanwhile
  pub keeps_closed : {n m : ℕ} {old begun ended new : WorldValue S} {lane : Lane} {others left : List Lane} {at site ends : ℕ} {parent : Parent} {values : ValueSet} {handle : Handle} → StandsAlone sub n sites old (lane ∷ others) → MakesIfGateAdmits sub old begun lane at parent site values (Ok handle)
      → RestoresWorld sub m sites begun (lane ∷ others) ended left → Closes sub ended new ends handle → RestoresWorld sub m sites old (lane ∷ others) new left
  keeps_closed {m = m} {old = old} {begun = begun} {ended = ended} {left = left} {handle = handle} ready makes keeps closes = record {
    ready = record { stands = closes.stands m 0 sites left keeps.ready.stands; alone = closes.count ∙ keeps.ready.alone };
    ids = keeps.ids;
    restores = closes.as_before 0 old (made_after sub 0 old begun ended handle keeps.restores (makes.newest 0 ready.stands.served.0.serves));
  }

  -- a span that is entered
  module _ {old new : WorldValue S} {before left : Lane} {at : ℕ} {handle : Handle} {guard : EntryGuard} (enters : Enters sub old new before left at handle guard) (held : IsHeld sub 0 old handle) where
    pub ready_entered : {n m : ℕ} {others : List Lane} → StandsAlone sub n sites old (before ∷ others) → n + 1 ≤ m → StandsAlone sub m sites new (left ∷ others)
    ready_entered {n} {m} {others} ready within = record {
      stands = later sub (n + 1) m 0 sites new (left ∷ others) within (enters.stands n 0 sites others held ready.stands);
      alone = enters.count ∙ ready.alone;
    }

    pub may_exit_kept : {m : ℕ} {inner : WorldValue S} {last : Lane} {others rest : List Lane} → RestoresWorld sub m sites new (left ∷ others) inner (last ∷ rest) → CanExit sub inner last guard
    may_exit_kept {m} {inner} {last} {others} {rest} keeps =
        can_exit sub m 0 sites inner last rest guard keeps.ready.stands (inside_after sub 0 new inner guard keeps.restores (inside_if_entered sub old new before left handle guard 0 at enters held)) (keeps.ids.0 ∙ enters.lane_id ∙ sym enters.on)

    pub keeps_exited : {m exits : ℕ} {inner now : WorldValue S} {last free : Lane} {others rest : List Lane} → RestoresWorld sub m sites new (left ∷ others) inner (last ∷ rest) → Exits sub inner now last free exits guard → RestoresWorld sub m sites old (before ∷ others) now (free ∷ rest)
    keeps_exited {m} {exits} {inner} {now} {last} {free} {others} {rest} keeps exited =
        let inside = inside_after sub 0 new inner guard keeps.restores (inside_if_entered sub old new before left handle guard 0 at enters held) in
        record {
          ready = record { stands = exited.stands m 0 sites rest inside.held keeps.ready.stands; alone = exited.count ∙ keeps.ready.alone };
          ids = (exited.lane_id ∙ keeps.ids.0 ∙ enters.lane_id, keeps.ids.1);
          restores = exited.as_before 0 old (entered_after sub 0 old new inner guard keeps.restores (enters.entered 0 held));
        }

  -- or isn't
  pub keeps_refused : {n m : ℕ} {old new : WorldValue S} {before left : Lane} {others : List Lane} {handle : Handle} → StandsAlone sub n sites old (before ∷ others) → Refuses sub old new before left handle → n ≤ m → RestoresWorld sub m sites old (before ∷ others) new (left ∷ others)
  keeps_refused {n} {m} {old} {new} {before} {left} {others} ready refuses within = record {
    ready = record { stands = later sub n m 0 sites new (left ∷ others) within (refuses.stands n 0 sites others ready.stands); alone = refuses.count ∙ ready.alone };
    ids = (refuses.lane_room.id, same_ids others);
    restores = refuses.as_before 0;
  }

  -- functions with results: one that fails, as a span isn't made, or not entered, or what was done before failed
  pub ends_failed : {E : Type 0} {m : ℕ} {old new : WorldValue S} {lanes left : List Lane} {result : Result (Unit {0}) E} {done : Type 0} → RestoresWorld sub m sites old lanes new left → IsErr result → RestoresAndDid sub m sites old lanes new left result done
  ends_failed {result = result} keeps fails = record { keeps = keeps; did = failed result fails }

  pub ends_unmade : {E : Type 0} {n m : ℕ} {old new : WorldValue S} {lane : Lane} {others : List Lane} {at site : ℕ} {parent : Parent} {values : ValueSet} {memory : Memory} {result : Result (Unit {0}) E} {done : Type 0} → StandsAlone sub n sites old (lane ∷ others) → MakesIfGateAdmits sub old new lane at parent site values (Err memory) → IsErr result → n + 1 ≤ m
      → RestoresAndDid sub m sites old (lane ∷ others) new (lane ∷ others) result done
  ends_unmade ready makes fails within = ends_failed (keeps_unmade ready makes within) fails

  pub ends_refused : {E : Type 0} {n m : ℕ} {old new : WorldValue S} {before left : Lane} {others : List Lane} {handle : Handle} {result : Result (Unit {0}) E} {done : Type 0} → StandsAlone sub n sites old (before ∷ others) → Refuses sub old new before left handle → IsErr result → n ≤ m → RestoresAndDid sub m sites old (before ∷ others) new (left ∷ others) result done
  ends_refused ready refuses fails within = ends_failed (keeps_refused ready refuses within) fails

  pub ends_first : {E F : Type 0} {n m : ℕ} {old new : WorldValue S} {lanes left : List Lane} {first : Result (Unit {0}) F} {result : Result (Unit {0}) E} {did done : Type 0} → RestoresAndDid sub n sites old lanes new left first did → IsErr result → n ≤ m → RestoresAndDid sub m sites old lanes new left result done
  ends_first first fails within = ends_failed (keeps_late first.keeps within) fails

  -- one that did all that it does
  pub ends_done : {E : Type 0} {n m : ℕ} {old new : WorldValue S} {lanes left : List Lane} {result : Result (Unit {0}) E} {done : Type 0} → RestoresWorld sub n sites old lanes new left → n ≤ m → done → RestoresAndDid sub m sites old lanes new left result done
  ends_done keeps within done = record { keeps = keeps_late keeps within; did = λ ok. done }

  -- one of a span, which is made and closed
  pub ends_closed : {E : Type 0} {n m : ℕ} {old begun ended new : WorldValue S} {lane : Lane} {others left : List Lane} {at site ends : ℕ} {parent : Parent} {values : ValueSet} {handle : Handle} {result : Result (Unit {0}) E} {between : Handle → WorldValue S → WorldValue S → Type 0}
      → StandsAlone sub n sites old (lane ∷ others) → MakesIfGateAdmits sub old begun lane at parent site values (Ok handle) → RestoresAndDid sub m sites begun (lane ∷ others) ended left result (between handle begun ended) → Closes sub ended new ends handle
      → RestoresAndDid sub m sites old (lane ∷ others) new left result (MakesAndCloses sub lane parent site values at ends between old new)
  ends_closed ready makes inner closes = record {
    keeps = keeps_closed ready makes inner.keeps closes;
    did = λ is. makes_and_closes makes (inner.did is) closes;
  }

  -- one of an entry
  pub ends_exited : {E : Type 0} {m enters exits : ℕ} {old world inner new : WorldValue S} {before lane last left : Lane} {others rest : List Lane} {handle : Handle} {guard : EntryGuard} {result : Result (Unit {0}) E} {between : WorldValue S → Lane → WorldValue S → Lane → Type 0}
      → Enters sub old world before lane enters handle guard → IsHeld sub 0 old handle → RestoresAndDid sub m sites world (lane ∷ others) inner (last ∷ rest) result (between world lane inner last) → Exits sub inner new last left exits guard
      → RestoresAndDid sub m sites old (before ∷ others) new (left ∷ rest) result (EntersAndExits sub handle enters exits between old new before left)
  ends_exited entered held inner exited = record {
    keeps = keeps_exited entered held inner.keeps exited;
    did = λ is. enters_and_exits entered (inner.did is) exited;
  }

  -- one of an event
  pub ends_told : {n : ℕ} {old new : WorldValue S} {lane : Lane} {lanes : List Lane} {at site : ℕ} {parent : Parent} {values : ValueSet} {result : Result (Unit {0}) Memory} → StandsAlone sub n sites old lanes → Tells sub old new lane at parent site values result
      → RestoresAndDid sub n sites old lanes new lanes result (TellsIfGateAdmits sub old new lane at parent site values)
  ends_told ready tells = record { keeps = keeps_quiet ready tells.stays; did = tells_if_answered tells }

  pub ends_late : {E : Type 0} {n m : ℕ} {old new : WorldValue S} {lanes left : List Lane} {result : Result (Unit {0}) E} {done : Type 0} → RestoresAndDid sub n sites old lanes new left result done → n ≤ m → RestoresAndDid sub m sites old lanes new left result done
  ends_late ends within = record { keeps = keeps_late ends.keeps within; did = ends.did }

  -- one behind another
  pub ends_again : {E : Type 0} {n m : ℕ} {old mid new : WorldValue S} {lanes between left : List Lane} {result : Result (Unit {0}) E} {done : Type 0} → RestoresWorld sub n sites old lanes mid between → RestoresAndDid sub m sites mid between new left result done → RestoresAndDid sub m sites old lanes new left result done
  ends_again first last = record { keeps = keeps_again first last.keeps; did = last.did }

  -- one that did what follows from it, and one whose result is another's
  pub ends_so : {E : Type 0} {m : ℕ} {old new : WorldValue S} {lanes left : List Lane} {result : Result (Unit {0}) E} {does done : Type 0} → RestoresAndDid sub m sites old lanes new left result does → (does → done) → RestoresAndDid sub m sites old lanes new left result done
  ends_so ends follows = record { keeps = ends.keeps; did = λ is. follows (ends.did is) }

  pub ends_as : {E F : Type 0} {m : ℕ} {old new : WorldValue S} {lanes left : List Lane} {first : Result (Unit {0}) E} {result : Result (Unit {0}) F} {done : Type 0} → RestoresAndDid sub m sites old lanes new left first done → (result ≡ Ok tt → first ≡ Ok tt) → RestoresAndDid sub m sites old lanes new left result done
  ends_as ends is = record { keeps = ends.keeps; did = λ ok. ends.did (is ok) }

  -- one of a span whose layer is asked before what is done inside
  pub ends_asked : {E : Type 0} {n k m : ℕ} {old begun asked ended new : WorldValue S} {lane : Lane} {others left : List Lane} {at site ends : ℕ} {parent : Parent} {values : ValueSet} {handle : Handle} {result : Result (Unit {0}) E} {between : Handle → WorldValue S → WorldValue S → Type 0} {inner : Type 0}
      → StandsAlone sub n sites old (lane ∷ others) → MakesIfGateAdmits sub old begun lane at parent site values (Ok handle) → IsUnchanged sub begun asked → RestoresAndDid sub k sites asked (lane ∷ others) ended left result inner → Closes sub ended new ends handle → k ≤ m → (inner → between handle begun ended)
      → RestoresAndDid sub m sites old (lane ∷ others) new left result (MakesAndCloses sub lane parent site values at ends between old new)
  ends_asked ready makes stays inner closes within follows = ends_closed ready makes (ends_so (ends_again (keeps_quiet (next_made ready makes) stays) (ends_late inner within)) follows) closes

  -- one of an event behind what was done
  pub ends_then_told : {n m : ℕ} {old mid new : WorldValue S} {lane : Lane} {lanes left : List Lane} {at site : ℕ} {parent : Parent} {values : ValueSet} {result : Result (Unit {0}) Memory} {done : Type 0} → RestoresWorld sub n sites old lanes mid left → Tells sub mid new lane at parent site values result → n ≤ m
      → (TellsIfGateAdmits sub mid new lane at parent site values → done) → RestoresAndDid sub m sites old lanes new left result done
  ends_then_told keeps tells within follows = ends_so (ends_again keeps (ends_late (ends_told keeps.ready tells) within)) follows

  -- one of an event inside an entry
  pub ends_told_inside : {E : Type 0} {n m enters exits at site : ℕ} {old world inner new : WorldValue S} {before lane left : Lane} {others : List Lane} {handle : Handle} {guard : EntryGuard} {values : ValueSet} {parent : Parent} {told : Result (Unit {0}) Memory} {result : Result (Unit {0}) E}
      → StandsAlone sub n sites old (before ∷ others) → Enters sub old world before lane enters handle guard → IsHeld sub 0 old handle → Tells sub world inner lane at parent site values told → Exits sub inner new lane left exits guard → n + 1 ≤ m → is_ok result ≡ is_ok told
      → RestoresAndDid sub m sites old (before ∷ others) new (left ∷ others) result (EntersAndExits sub handle enters exits (λ in_world in_lane out_world out_lane. (out_lane ≡ in_lane) × TellsIfGateAdmits sub in_world out_world in_lane at parent site values) old new before left)
  ends_told_inside {told = told} {result = result} ready entered held tells exited within same = ends_as (ends_exited entered held (ends_so (ends_late (ends_told (next_entered entered held ready) tells) within) (λ did. (refl, did))) exited) (both_ok result told same)

  -- one behind another, at work on the first lane and on the second
  pub ends_turned : {E : Type 0} {n m : ℕ} {old mid new : WorldValue S} {lanes rest left : List Lane} {lane other last next : Lane} {result : Result (Unit {0}) E} {does done : Type 0} → RestoresWorld sub n sites old lanes mid (lane ∷ other ∷ rest) → RestoresAndDid sub m sites mid (other ∷ lane ∷ rest) new (next ∷ last ∷ left) result does → (does → done)
      → RestoresAndDid sub m sites old lanes new (last ∷ next ∷ left) result done
  ends_turned keeps ends follows = ends_so (ends_again keeps (turned_ends ends)) follows
