-- The steps that were passed.
use Rattle.std.proofs.Common.{◌≡◌, take}
use Rattle.trace_tasks.proofs.copies.copied_steps.Given as goal

abbrev pub invariant-loop-step : goal.invariant-loop-step
invariant-loop-step l = l.copy ≡ take l.step-index l.steps
