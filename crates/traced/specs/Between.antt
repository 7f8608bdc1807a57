-- What is done between a span's making and its close, and between its entry and its exit, with the moments of both.
use Rattle.std.specs.Prelude.{◌≡◌, ℕ, Some, None, Ok}
use Rattle.trace_base.specs.declared.field.ValueSet.{ValueSet}
use Rattle.trace_base.specs.declared.lane.Lane.{Lane}
use Rattle.trace_base.specs.declared.span.Parent.{Parent}
use Rattle.trace_base.specs.declared.subscriber.Subscriber.{Ghosts}
use Rattle.trace_base.specs.Gate.{WorldValue}
use Rattle.trace_base.specs.Calls.{Enter, Exit}
use Rattle.span_handles.specs.Worlds.{Chain}
use Rattle.span_handles.specs.Handles.{Handle, ReplacedOn}
use Rattle.traced.specs.Making.{MakesIfGateAdmits}

-- a span is made under a parent at a moment, if the gate lets its callsite through, and its handle is closed at another
pub record MakesAndCloses {S : Type 0} (sub : Ghosts S) (lane : Lane) (parent : Parent) (site : ℕ) (values : ValueSet) (begins ends : ℕ) (between : Handle → WorldValue S → WorldValue S → Type 0) (old new : WorldValue S) : Type 0 where
  pub handle : Handle
  pub begun : WorldValue S
  pub ended : WorldValue S
  pub makes : MakesIfGateAdmits sub old begun lane begins parent site values (Ok handle)
  pub meanwhile : between handle begun ended
  pub closes : ReplacedOn (λ id s t. Chain sub.spans sub.does ends (Some id) s t) ended new handle.held

-- a span is entered on a lane at a moment, and exited there at another; where the handle is disabled, neither happens
pub record EntersAndExits {S : Type 0} (sub : Ghosts S) (handle : Handle) (enters exits : ℕ) (between : WorldValue S → Lane → WorldValue S → Lane → Type 0) (old new : WorldValue S) (before later : Lane) : Type 0 where
  pub world : WorldValue S
  pub lane : Lane
  pub left_world : WorldValue S
  pub left_lane : Lane
  pub entered : ReplacedOn (λ id s t. sub.does s (Enter id enters before lane) t) old world handle.held
  pub none_entered : handle.held ≡ None → lane ≡ before
  pub meanwhile : between world lane left_world left_lane
  pub exited : ReplacedOn (λ id s t. sub.does s (Exit id exits left_lane later) t) left_world new handle.held
  pub none_exited : handle.held ≡ None → later ≡ left_lane
