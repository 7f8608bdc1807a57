-- What the calls that make spans promise alike.
use Rattle.std.specs.Prelude.{◌≡◌, ◌+◌, ℕ, List, length, Some, Result, Ok, true, false, IfOk, OnErr}
use Rattle.otel_base.specs.declared.memory.Memory.{Memory}
use Rattle.trace_base.specs.declared.field.ValueSet.{ValueSet}
use Rattle.trace_base.specs.declared.lane.Lane.{Lane}
use Rattle.trace_base.specs.declared.span.Parent.{Parent}
use Rattle.trace_base.specs.declared.subscriber.Subscriber.{Ghosts}
use Rattle.trace_base.specs.Gate.{WorldValue, dispatch_on}
use Rattle.span_handles.specs.Handles.{Handle, no_handle, ReplacedIf}
use Rattle.traced.specs.Standing.{StandsReady, CanClose}
use Rattle.traced.specs.AsBefore.{IsAsBefore, HasMade}
use Rattle.traced.specs.Gating.{GateAnswers, MakesOne}

-- A span is made under a parent where the gate lets its callsite through, else nothing happens. The world stands with a span
-- more, and the handle can be closed. Without memory nothing changes but room.
pub record MakesIfGateAdmits {S : Type 0} (sub : Ghosts S) (old new : WorldValue S) (lane : Lane) (at : ℕ) (parent : Parent) (site : ℕ) (values : ValueSet) (result : Result Handle Memory) : Type 0 where
  pub made : GateAnswers sub old lane site true → IfOk result (MakesOne sub old new lane at parent site values)
  pub refused : GateAnswers sub old lane site false → (result ≡ Ok no_handle) × (new ≡ old)
  pub stands : (most dispatch sites : ℕ) (lanes : List Lane) → StandsReady sub most dispatch sites old lanes → StandsReady sub (most + 1) dispatch sites new lanes
  pub global : new.global ≡ old.global
  pub count : length new.subscribers ≡ length old.subscribers
  pub closes : IfOk result (CanClose sub new)
  pub newest : (dispatch : ℕ) → dispatch_on lane.default old.global ≡ Some dispatch → IfOk result (HasMade sub dispatch old new)
  pub memory_leaves : OnErr result (ReplacedIf sub.same_but_room old new (dispatch_on lane.default old.global))
  pub memory_restores : OnErr result ((dispatch : ℕ) → IsAsBefore sub dispatch old new)
