-- What a function of a program leaves behind, where one subscriber serves all its lanes.
use Rattle.std.specs.Prelude.{◌≡◌, ℕ, List, [], ◌∷◌, length, Result, Ok}
use Rattle.trace_base.specs.declared.lane.Lane.{Lane}
use Rattle.trace_base.specs.declared.subscriber.Subscriber.{Ghosts}
use Rattle.trace_base.specs.Gate.{WorldValue}
use Rattle.span_handles.specs.Handles.{Handle}
use Rattle.traced.specs.Standing.{StandsReady, IsHeld}
use Rattle.traced.specs.AsBefore.{IsAsBefore}

-- the only subscriber of a world stands ready, and serves some lanes
pub record StandsAlone {S : Type 0} (sub : Ghosts S) (most sites : ℕ) (world : WorldValue S) (lanes : List Lane) : Type 0 where
  pub stands : StandsReady sub most 0 sites world lanes
  pub alone : length world.subscribers ≡ 1

-- the same, and a handle of that subscriber is held
pub record StandsWith {S : Type 0} (sub : Ghosts S) (most sites : ℕ) (world : WorldValue S) (lanes : List Lane) (handle : Handle) : Type 0 where
  pub ready : StandsAlone sub most sites world lanes
  pub held : IsHeld sub 0 world handle

-- as many lanes, each with the id that it had
abbrev pub HaveSameIds : List Lane → List Lane → Type 0
HaveSameIds [] left = left ≡ []
HaveSameIds (lane ∷ lanes) [] = ⊥
HaveSameIds (lane ∷ lanes) (last ∷ left) = (last.id ≡ lane.id) × HaveSameIds lanes left

-- Calls can be made still. What was made since is closed, and what was entered is exited.
pub record RestoresWorld {S : Type 0} (sub : Ghosts S) (most sites : ℕ) (old : WorldValue S) (lanes : List Lane) (new : WorldValue S) (left : List Lane) : Type 0 where
  pub ready : StandsAlone sub most sites new left
  pub ids : HaveSameIds lanes left
  pub restores : IsAsBefore sub 0 old new

-- the same of a function with a result, and what it did if that is Ok
pub record RestoresAndDid {S E : Type 0} (sub : Ghosts S) (most sites : ℕ) (old : WorldValue S) (lanes : List Lane) (new : WorldValue S) (left : List Lane) (result : Result (Unit {0}) E) (done : Type 0) : Type 0 where
  pub keeps : RestoresWorld sub most sites old lanes new left
  pub did : result ≡ Ok tt → done
