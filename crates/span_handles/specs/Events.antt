-- What telling an event makes of a world.
use Rattle.std.specs.Prelude.{◌≡◌, ℕ, Option, Some, None, slice_get}
use Rattle.trace_base.specs.declared.callsite.Callsite.{Callsite}
use Rattle.trace_base.specs.declared.field.ValueSet.{ValueSet}
use Rattle.trace_base.specs.declared.lane.Lane.{Lane}
use Rattle.trace_base.specs.declared.span.Parent.{Parent}
use Rattle.trace_base.specs.Gate.{WorldValue}
use Rattle.trace_base.specs.Calls.{SubscriberCall, Event}
use Rattle.span_handles.specs.Worlds.{Replaced}

-- an event was told to a subscriber with its parent
pub record TellsEvent {S : Type 0} (does : S → SubscriberCall → S → Type 0) (old new : WorldValue S) (lane : Lane) (at : ℕ) (parent : Parent) (site : ℕ) (values : ValueSet) (dispatch : ℕ) : Type 0 where
  pub callsite : Callsite
  pub is : slice_get old.sites site ≡ Some callsite
  pub told : Replaced (λ s t. does s (Event lane at parent site callsite values) t) old new dispatch

-- the same of the subscriber that serves a lane; without one nothing happens
abbrev pub TellsEventIf : {S : Type 0} → (S → SubscriberCall → S → Type 0) → WorldValue S → WorldValue S → Lane → ℕ → Parent → ℕ → ValueSet → Option ℕ → Type 0
TellsEventIf does old new lane at parent site values None = new ≡ old
TellsEventIf does old new lane at parent site values (Some dispatch) = TellsEvent does old new lane at parent site values dispatch
