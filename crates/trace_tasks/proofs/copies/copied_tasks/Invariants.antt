-- The tasks that were passed.
use Rattle.std.proofs.Common.{◌≡◌, take}
use Rattle.trace_tasks.proofs.copies.copied_tasks.Given as goal

abbrev pub invariant-loop-task : goal.invariant-loop-task
invariant-loop-task l = l.copy ≡ take l.task-index l.tasks
