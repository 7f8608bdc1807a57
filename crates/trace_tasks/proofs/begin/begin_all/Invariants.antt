-- The tasks that were passed are begun.
use Rattle.std.proofs.Common.{◌≡◌, ◌++◌, List, length}
use Rattle.trace_tasks.proofs.Common.{Task, AllHaveCallsites, AreBegun}
use Rattle.trace_tasks.proofs.begin.begin_all.Given as goal

abbrev pub invariant-loop-task : goal.invariant-loop-task
invariant-loop-task g l = (done : List Task) × (done ++ l.task-iterator.rest.items ≡ l.fn.tasks) × AllHaveCallsites (length l.fn.world.sites) l.task-iterator.rest.items
    × AreBegun g.S.Subscriber.spans g.S.Subscriber.hint g.S.Subscriber.enables g.S.Subscriber.kept g.S.Subscriber.is_whole g.S.Subscriber.does g.S.OtelPart.touches done l.lane l.fn.world l.world l.queue.items
