-- A world whose calls can be made: what stands between any two calls of a program that is traced.
use Rattle.std.specs.Prelude.{◌≡◌, ◌<◌, ◌≤◌, ℕ, List, [], ◌∷◌, length, Option, Some}
use Rattle.trace_base.specs.declared.lane.Lane.{Lane}
use Rattle.trace_base.specs.declared.span.Parent.{Parent}
use Rattle.trace_base.specs.declared.subscriber.Subscriber.{Ghosts}
use Rattle.trace_base.specs.Conditions.{HasFewHolds, MayExit}
use Rattle.trace_base.specs.lanes.Contexts.{AreAttached}
use Rattle.trace_base.specs.Gate.{WorldValue, IsInWorld, dispatch_on}
use Rattle.trace_base.specs.Spans.{Spans, span_at}
use Rattle.span_registry.specs.Registering.{no_spans}
use Rattle.span_handles.specs.Worlds.{Has, spans_in, kept_in}
use Rattle.span_handles.specs.Handles.{Handle, IsKnown, HasOn, HasIf, IsOf, MayMakeIf}
use Rattle.span_handles.specs.Entries.{EntryGuard, IsThere, IsAttachedOn}

-- at most so many spans, and so many holds of each
pub record AreAtMost (most : ℕ) (x : Spans) : Type 0 where
  pub spans : length x.made ≤ most
  pub holds : (id : ℕ) → (span_at x.made id).holds ≤ most

-- the subscriber serves a lane, and what it keeps attached to the lane still is
pub record IsServed (global : Option ℕ) (kept : ℕ → ℕ → ℕ) (dispatch : ℕ) (lane : Lane) : Type 0 where
  pub serves : dispatch_on lane.default global ≡ Some dispatch
  pub attached : AreAttached kept lane

-- the lane's id is none of theirs
abbrev pub HasDistinctId : Lane → List Lane → Type 0
HasDistinctId lane [] = Unit {0}
HasDistinctId lane (other ∷ others) = (other.id ≡ lane.id → ⊥) × HasDistinctId lane others

-- the subscriber serves some lanes, all with ids of their own
abbrev pub AreServed : Option ℕ → (ℕ → ℕ → ℕ) → ℕ → List Lane → Type 0
AreServed global kept dispatch [] = Unit {0}
AreServed global kept dispatch (lane ∷ lanes) = IsServed global kept dispatch lane × HasDistinctId lane lanes × AreServed global kept dispatch lanes

-- A subscriber is there and whole and serves these lanes; it has at most so many spans, and holds of each, and there are at
-- least so many callsites.
pub record StandsReady {S : Type 0} (sub : Ghosts S) (most dispatch sites : ℕ) (world : WorldValue S) (lanes : List Lane) : Type 0 where
  pub there : dispatch < length world.subscribers
  pub whole : Has sub.is_whole world dispatch
  pub few : AreAtMost most (spans_in sub.spans world dispatch)
  pub declared : sites ≤ length world.sites
  pub served : AreServed world.global (kept_in sub.kept world dispatch) dispatch lanes

-- the subscriber serves a lane
pub record ServesLane {S : Type 0} (dispatch : ℕ) (world : WorldValue S) (lane : Lane) : Type 0 where
  pub serves : dispatch_on lane.default world.global ≡ Some dispatch

-- a handle of the subscriber, which knows it
pub record IsHeld {S : Type 0} (sub : Ghosts S) (dispatch : ℕ) (world : WorldValue S) (handle : Handle) : Type 0 where
  pub known : IsKnown sub.spans world handle.held
  pub of_dispatch : IsOf handle.held dispatch

-- the subscriber of a lane may be asked for a span under a parent
pub record CanMake {S : Type 0} (sub : Ghosts S) (world : WorldValue S) (lane : Lane) (parent : Parent) (site : ℕ) : Type 0 where
  pub in_world : IsInWorld world lane.default
  pub site_there : site < length world.sites
  pub may : MayMakeIf sub.spans sub.is_whole world lane.id parent (dispatch_on lane.default world.global)

-- the subscriber of a handle, if it is enabled, may be asked to close it, and to enter its span
pub record CanClose {S : Type 0} (sub : Ghosts S) (world : WorldValue S) (handle : Handle) : Type 0 where
  pub known : IsKnown sub.spans world handle.held
  pub whole : HasOn (λ s id. sub.is_whole s) world handle.held

pub record CanEnter {S : Type 0} (sub : Ghosts S) (world : WorldValue S) (handle : Handle) : Type 0 where
  pub known : IsKnown sub.spans world handle.held
  pub whole : HasOn (λ s id. sub.is_whole s) world handle.held
  pub few_holds : HasOn (λ s id. HasFewHolds (sub.spans s).made id) world handle.held

-- the subscriber of a lane may be told of an event
pub record CanTell {S : Type 0} (sub : Ghosts S) (world : WorldValue S) (lane : Lane) (site : ℕ) : Type 0 where
  pub in_world : IsInWorld world lane.default
  pub there : IsInWorld world (dispatch_on lane.default world.global)
  pub site_there : site < length world.sites
  pub whole : HasIf sub.is_whole world (dispatch_on lane.default world.global)

-- the subscriber of a handle, if it is enabled, is there to be asked
pub record CanAsk {S : Type 0} (world : WorldValue S) (handle : Handle) : Type 0 where
  pub there : IsThere world handle.held

-- the lane is the one of a guard, and the guard's entry may be exited on it
pub record CanExit {S : Type 0} (sub : Ghosts S) (world : WorldValue S) (lane : Lane) (guard : EntryGuard) : Type 0 where
  pub on : lane.id ≡ guard.lane
  pub there : IsThere world guard.span.held
  pub whole : HasOn (λ s id. sub.is_whole s) world guard.span.held
  pub may : HasOn (λ s id. MayExit (sub.spans s) id lane.id) world guard.span.held
  pub still : IsAttachedOn sub.kept lane world guard.span.held

-- some lanes have this subscriber, and ids of their own
abbrev pub AreAssigned : Option ℕ → ℕ → List Lane → Type 0
AreAssigned global dispatch [] = Unit {0}
AreAssigned global dispatch (lane ∷ lanes) = (dispatch_on lane.default global ≡ Some dispatch) × HasDistinctId lane lanes × AreAssigned global dispatch lanes

-- a stack that knows no span, and keeps nothing attached
pub record IsUnused {S : Type 0} (sub : Ghosts S) (stack : S) : Type 0 where
  pub whole : sub.is_whole stack
  pub spans : sub.spans stack ≡ no_spans
  pub kept : (lane number : ℕ) → sub.kept stack lane number ≡ 0
