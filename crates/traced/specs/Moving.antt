-- What closes, entries and exits make of a world that stands.
use Rattle.std.specs.Prelude.{◌≡◌, ◌+◌, ℕ, List, ◌∷◌, length, Some, None}
use Rattle.trace_base.specs.declared.lane.Lane.{Lane}
use Rattle.trace_base.specs.declared.subscriber.Subscriber.{Ghosts}
use Rattle.trace_base.specs.Calls.{Enter, Exit}
use Rattle.trace_base.specs.Gate.{WorldValue}
use Rattle.span_handles.specs.Worlds.{Chain}
use Rattle.span_handles.specs.Handles.{Handle, ReplacedOn}
use Rattle.span_handles.specs.Entries.{EntryGuard, KeepsLaneButRoom}
use Rattle.traced.specs.Standing.{StandsReady, IsHeld}
use Rattle.traced.specs.AsBefore.{IsAsBefore, HasMade, HasEntered}

-- A handle was closed at a moment. If its span is all that was made since some earlier moment, all is as it was then.
pub record Closes {S : Type 0} (sub : Ghosts S) (old new : WorldValue S) (at : ℕ) (handle : Handle) : Type 0 where
  pub did : ReplacedOn (λ id s t. Chain sub.spans sub.does at (Some id) s t) old new handle.held
  pub global : new.global ≡ old.global
  pub count : length new.subscribers ≡ length old.subscribers
  pub stands : (most dispatch sites : ℕ) (lanes : List Lane) → StandsReady sub most dispatch sites old lanes → StandsReady sub most dispatch sites new lanes
  pub as_before : (dispatch : ℕ) (start : WorldValue S) → HasMade sub dispatch start old handle → IsAsBefore sub dispatch start new

-- A span was entered on a lane at a moment, and nothing happened where the handle is disabled. The world stands with an
-- entry more.
pub record Enters {S : Type 0} (sub : Ghosts S) (old new : WorldValue S) (before left : Lane) (at : ℕ) (handle : Handle) (guard : EntryGuard) : Type 0 where
  pub did : ReplacedOn (λ id s t. sub.does s (Enter id at before left) t) old new handle.held
  pub none : handle.held ≡ None → left ≡ before
  pub lane_id : left.id ≡ before.id
  pub count : length new.subscribers ≡ length old.subscribers
  pub of : guard.span ≡ handle
  pub on : guard.lane ≡ before.id
  pub stands : (most dispatch sites : ℕ) (others : List Lane) → IsHeld sub dispatch old handle → StandsReady sub most dispatch sites old (before ∷ others) → StandsReady sub (most + 1) dispatch sites new (left ∷ others)
  pub entered : (dispatch : ℕ) → IsHeld sub dispatch old handle → HasEntered sub dispatch old new guard

-- An entry was refused, and nothing changed but room: that of the subscriber, and that for contexts.
pub record Refuses {S : Type 0} (sub : Ghosts S) (old new : WorldValue S) (before left : Lane) (handle : Handle) : Type 0 where
  pub room : ReplacedOn (λ id s t. sub.same_but_room s t) old new handle.held
  pub lane_room : KeepsLaneButRoom before left
  pub count : length new.subscribers ≡ length old.subscribers
  pub stands : (most dispatch sites : ℕ) (others : List Lane) → StandsReady sub most dispatch sites old (before ∷ others) → StandsReady sub most dispatch sites new (left ∷ others)
  pub as_before : (dispatch : ℕ) → IsAsBefore sub dispatch old new

-- An entry was exited at a moment, and nothing happened where the handle is disabled. If it is all that was made since some
-- earlier moment, all is as it was then.
pub record Exits {S : Type 0} (sub : Ghosts S) (old new : WorldValue S) (before left : Lane) (at : ℕ) (guard : EntryGuard) : Type 0 where
  pub did : ReplacedOn (λ id s t. sub.does s (Exit id at before left) t) old new guard.span.held
  pub none : guard.span.held ≡ None → left ≡ before
  pub lane_id : left.id ≡ before.id
  pub count : length new.subscribers ≡ length old.subscribers
  pub stands : (most dispatch sites : ℕ) (others : List Lane) → IsHeld sub dispatch old guard.span → StandsReady sub most dispatch sites old (before ∷ others) → StandsReady sub most dispatch sites new (left ∷ others)
  pub as_before : (dispatch : ℕ) (start : WorldValue S) → HasEntered sub dispatch start old guard → IsAsBefore sub dispatch start new
