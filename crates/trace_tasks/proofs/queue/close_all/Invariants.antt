-- The handles that are left are known, and their closes lead on.
use Rattle.std.proofs.Common.{length}
use Rattle.trace_tasks.proofs.Common.{HasAll, AllKnownAndApart, AllStand}
use Rattle.trace_tasks.proofs.queues.LeftHandlesLemmas.{Closing}
use Rattle.trace_tasks.proofs.queue.close_all.Given as goal

abbrev pub invariant-loop-task : goal.invariant-loop-task
invariant-loop-task g l = record {
  known : AllKnownAndApart g.S.Subscriber.spans l.world l.queue.items;
  whole : HasAll g.S.Subscriber.is_whole l.world;
  closing : (handles : _) (ts : _) → AllStand handles ts l.fn.queue.items
      → Closing g.S.Subscriber.spans g.S.Subscriber.hint g.S.Subscriber.enables g.S.Subscriber.does g.S.OtelPart.touches l.fn.at l.fn.queue.items l.queue.items l.fn.world l.world handles ts;
}

abbrev pub decreases-loop-task : goal.decreases-loop-task
decreases-loop-task g l = length l.queue.items
