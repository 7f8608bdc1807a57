-- The tasks that are left take further turns.
use Rattle.trace_tasks.proofs.Common.{Keeps, polls_in}
use Rattle.trace_tasks.proofs.queues.TurnsLemmas.{Taking}
use Rattle.trace_tasks.proofs.queue.poll_all.Given as goal

abbrev pub invariant-loop-polls : goal.invariant-loop-polls
invariant-loop-polls g l = record {
  taking : Taking g.S.Subscriber.spans g.S.Subscriber.hint g.S.Subscriber.enables g.S.Subscriber.kept g.S.Subscriber.is_whole g.S.Subscriber.does g.S.OtelPart.touches
      l.fn.queue.items l.queue.items l.fn.world l.world l.fn.lane l.lane l.polls;
  context : Keeps l.fn.cx l.cx;
}

abbrev pub decreases-loop-polls : goal.decreases-loop-polls
decreases-loop-polls g l = polls_in l.queue.items
