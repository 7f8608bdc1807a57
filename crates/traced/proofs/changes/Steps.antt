-- What is held, made and entered after calls that leave all as before.
use Rattle.std.proofs.Common.{ℕ, List, ◌∷◌, sym}
use Rattle.traced.proofs.Common.{Lane, Ghosts, WorldValue, Handle, EntryGuard, StandsReady, IsHeld, IsAsBefore, HasMade, HasEntered, IsInside, Enters}
use Rattle.traced.proofs.changes.Restored.{on, opened, stays_newest, stays_entered, stays_open}

-- calls on the next lane
pub turned : {S : Type 0} {sub : Ghosts S} {n dispatch sites : ℕ} {world : WorldValue S} {lane other : Lane} {others : List Lane} → StandsReady sub n dispatch sites world (lane ∷ other ∷ others) → StandsReady sub n dispatch sites world (other ∷ lane ∷ others)
turned stands = record {
  there = stands.there;
  whole = stands.whole;
  few = stands.few;
  declared = stands.declared;
  served = (stands.served.2.0, ((λ e. stands.served.1.0 (sym e)), stands.served.2.1), (stands.served.0, stands.served.1.1, stands.served.2.2));
}

module _ {S : Type 0} (sub : Ghosts S) where
  -- inside a span that was entered
  pub inside_if_entered : (old new : WorldValue S) (before left : Lane) (handle : Handle) (guard : EntryGuard) (dispatch at : ℕ) → Enters sub old new before left at handle guard → IsHeld sub dispatch old handle → IsInside sub dispatch new guard
  inside_if_entered old new before left handle guard dispatch at enters held =
      let entered = enters.entered dispatch held in
      record { held = entered.held; open_still = opened guard.span.held guard.lane _ _ entered.entered_once }

  -- calls that leave all as before
  module _ (dispatch : ℕ) where
    pub again : (start old new : WorldValue S) → IsAsBefore sub dispatch start old → IsAsBefore sub dispatch old new → IsAsBefore sub dispatch start new
    again start old new first last = record { known = λ held known. last.known held (first.known held known); as_before = on _ _ _ first.as_before last.as_before }

    pub held_after : (old new : WorldValue S) (handle : Handle) → IsAsBefore sub dispatch old new → IsHeld sub dispatch old handle → IsHeld sub dispatch new handle
    held_after old new handle same held = record { known = same.known handle.held held.known; of_dispatch = held.of_dispatch }

    pub made_after : (start old new : WorldValue S) (handle : Handle) → IsAsBefore sub dispatch old new → HasMade sub dispatch start old handle → HasMade sub dispatch start new handle
    made_after start old new handle same made = record {
      known = λ held known. same.known held (made.known held known);
      held = held_after old new handle same made.held;
      is_new = made.is_new;
      newest = stays_newest handle.held _ _ _ made.newest same.as_before;
    }

    pub entered_after : (start old new : WorldValue S) (guard : EntryGuard) → IsAsBefore sub dispatch old new → HasEntered sub dispatch start old guard → HasEntered sub dispatch start new guard
    entered_after start old new guard same entered = record {
      known = λ held known. same.known held (entered.known held known);
      held = held_after old new guard.span same entered.held;
      live = entered.live;
      entered_once = stays_entered guard.span.held guard.lane _ _ _ entered.entered_once same.as_before;
    }

    pub inside_after : (old new : WorldValue S) (guard : EntryGuard) → IsAsBefore sub dispatch old new → IsInside sub dispatch old guard → IsInside sub dispatch new guard
    inside_after old new guard same inside = record {
      held = held_after old new guard.span same inside.held;
      open_still = stays_open guard.span.held guard.lane _ _ inside.open_still same.as_before;
    }
