-- The polls so far, and those that are left.
use Rattle.std.proofs.Common.{◌≡◌, ◌+◌, drop, length}
use Rattle.std.specs.Prelude.{sum_by}
use Rattle.trace_tasks.specs.Flat.{yield_count}
use Rattle.task_runs.proofs.run.poll_count.Given as goal

abbrev pub invariant-loop-task : goal.invariant-loop-task
invariant-loop-task l = l.polls + (sum_by (λ t. yield_count t.steps) (drop l.task-index l.tasks) + length (drop l.task-index l.tasks))
    ≡ sum_by (λ t. yield_count t.steps) l.fn.tasks + length l.fn.tasks
