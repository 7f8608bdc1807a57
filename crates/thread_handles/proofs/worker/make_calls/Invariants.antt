-- What is left of the list is what is left to ask.
use Rattle.std.proofs.Common.{◌≡◌, ◌+◌, [], length}
use Rattle.thread_script.specs.Plans.{MomentsInRange, last_moment}
use Rattle.thread_handles.specs.Works.{AllAtWork}
use Rattle.thread_handles.proofs.worker.make_calls.Given as goal

abbrev pub invariant-loop-op : goal.invariant-loop-op
invariant-loop-op g l = record {
  opening : g.G.EventGate.opening l.gate ≡ l.plan.filter;
  levels : (l.levels.reload ≡ 0) × (l.levels.list ≡ []);
  len : length l.handles ≡ length l.fn.handles;
  timed : MomentsInRange l.ops.items;
  working : AllAtWork l.plan (l.worker + 1) (last_moment l.fn.ops.items) l.fn.ops.items l.ops.items l.fn.handles l.handles;
}

abbrev pub decreases-loop-op : goal.decreases-loop-op
decreases-loop-op g l = length l.ops.items
