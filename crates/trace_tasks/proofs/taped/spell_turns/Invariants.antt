-- The tasks that are left take further turns, and what was spelled is handed on.
use Rattle.std.proofs.Common.{◌≡◌, []}
use Rattle.trace_tasks.proofs.Common.{Keeps, polls_in}
use Rattle.trace_tasks.proofs.tapes.HandingOnLemmas.{HandedSoFar}
use Rattle.trace_tasks.proofs.taped.spell_turns.Given as goal

abbrev pub invariant-loop-batch : goal.invariant-loop-batch
invariant-loop-batch g l = record {
  handed : HandedSoFar g.K.RequestSink.takes l.fn.dispatch l.fn.world.sites l.fn.queue.items l.queue.items l.fn.world l.world l.fn.lane l.lane l.polls l.fn.sink l.sink;
  empty : l.batch.items ≡ [];
  context : Keeps l.fn.cx l.cx;
}

abbrev pub decreases-loop-batch : goal.decreases-loop-batch
decreases-loop-batch g l = polls_in l.queue.items
