-- What the call that tells an event promises.
use Rattle.std.specs.Prelude.{◌≡◌, ℕ, Result, true, false, IsOk, OnOk, OnErr}
use Rattle.otel_base.specs.declared.memory.Memory.{Memory}
use Rattle.trace_base.specs.declared.field.ValueSet.{ValueSet}
use Rattle.trace_base.specs.declared.lane.Lane.{Lane}
use Rattle.trace_base.specs.declared.span.Parent.{Parent}
use Rattle.trace_base.specs.declared.subscriber.Subscriber.{Ghosts}
use Rattle.trace_base.specs.Gate.{WorldValue, dispatch_on}
use Rattle.span_handles.specs.Handles.{ReplacedIf}
use Rattle.traced.specs.Gating.{GateAnswers, TellsOne}
use Rattle.traced.specs.Staying.{IsUnchanged}

-- An event is told under a parent where the gate lets its callsite through, else nothing happens. Nothing that is read changes,
-- and without memory nothing but room.
pub record Tells {S : Type 0} (sub : Ghosts S) (old new : WorldValue S) (lane : Lane) (at : ℕ) (parent : Parent) (site : ℕ) (values : ValueSet) (result : Result (Unit {0}) Memory) : Type 0 where
  pub told : GateAnswers sub old lane site true → OnOk result (TellsOne sub old new lane at parent site values)
  pub refused : GateAnswers sub old lane site false → IsOk result × (new ≡ old)
  pub memory_leaves : OnErr result (ReplacedIf sub.same_but_room old new (dispatch_on lane.default old.global))
  pub stays : IsUnchanged sub old new
