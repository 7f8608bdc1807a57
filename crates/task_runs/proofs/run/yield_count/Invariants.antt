-- The yields so far, and those that are left.
use Rattle.std.proofs.Common.{◌≡◌, ◌+◌, ◌≤◌, drop}
use Rattle.trace_tasks.specs.Flat.{yield_count}
use Rattle.task_runs.proofs.run.yield_count.Given as goal

abbrev pub invariant-loop-step : goal.invariant-loop-step
invariant-loop-step l = record { sum : l.count + yield_count (drop l.step-index l.steps) ≡ yield_count l.fn.steps; few : l.count ≤ l.step-index }
