-- What the calls promise that make a span and a handle of it.
use Rattle.std.specs.Prelude.{◌≡◌, ℕ, length, Option, None, Result, IfOk, IsOk, OnErr}
use Rattle.otel_base.specs.declared.memory.Memory.{Memory}
use Rattle.trace_base.specs.declared.callsite.Callsite.{Callsite}
use Rattle.trace_base.specs.declared.field.ValueSet.{ValueSet}
use Rattle.trace_base.specs.declared.lane.Lane.{Lane}
use Rattle.trace_base.specs.declared.span.Parent.{Parent}
use Rattle.trace_base.specs.Gate.{WorldValue}
use Rattle.trace_base.specs.Spans.{Spans}
use Rattle.trace_base.specs.Calls.{SubscriberCall, NewSpan}
use Rattle.span_handles.specs.Handles.{Handle, handle_of, IsKnown, MakesIf, ReplacedIf}
use Rattle.span_handles.specs.Knowing.{KeepsHandles}

-- A span is made by one call of a subscriber, and its handle is known, as are all that were known. Without a subscriber the
-- handle is disabled. For want of memory nothing but room changed.
pub record MakesHandle {S : Type 0} (spans : S → Spans) (does : S → SubscriberCall → S → Type 0) (same : S → S → Type 0) (old new : WorldValue S) (lane : Lane) (at : ℕ) (parent : Parent) (site : ℕ) (values : ValueSet) (dispatch : Option ℕ) (result : Result Handle Memory) : Type 0 where
  pub ok : IfOk result (MakesIf spans does old new lane at parent site values dispatch)
  pub known : IfOk result (λ handle. IsKnown spans new handle.held)
  pub keeps : KeepsHandles spans old new
  pub unserved : dispatch ≡ None → IsOk result
  pub memory_leaves : OnErr result (ReplacedIf same old new dispatch)

-- A subscriber that was looked up made a span at a callsite, and the handle is one of that.
pub record MakesBy {S : Type 0} (spans : S → Spans) (does : S → SubscriberCall → S → Type 0) (old new : S) (lane : Lane) (at : ℕ) (parent : Parent) (site : ℕ) (callsite : Callsite) (values : ValueSet) (dispatch : ℕ) (handle : Handle) : Type 0 where
  pub handle_is : handle ≡ handle_of dispatch (length (spans old).made) site
  pub made : does old (NewSpan lane at parent site callsite values) new
