-- The last item is the current one.
use Rattle.std.proofs.Common.{arith, length, ◌-◌}
use Rattle.otel_base.specs.Stack.{empty_context}
use Rattle.otel_base.proofs.Numbered.{last_is_current}
use Rattle.otel_base.proofs.stack.ContextStack.current.Goals as goal

pub returns-in-Some : goal.returns-in-Some
returns-in-Some c = rw (← c.self.view_is, ← c.as_slice.ensures.value) (last_is_current empty_context c.as_slice.result.now (length c.as_slice.result.now - 1) c.in-Some.item.now (omega (arith, c.in-Some.ensures.item.3.0)) c.in-Some.ensures.item.1)
