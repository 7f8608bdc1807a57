use Rattle.std.proofs.Common.{◌≡◌, ℕ, ◌+◌, ◌<◌, ◌≤◌, length, drop, vec_len, slice_index_or}
use Rattle.trace_threads.specs.Handles.{SharedHandle}
use Rattle.thread_handles.specs.declared.job.Job.{Job}
use Rattle.thread_work.specs.Spans.{GotOne}
use Rattle.thread_work.proofs.spans.give_next.Given as goal

abbrev pub invariant-loop-w : goal.invariant-loop-w
invariant-loop-w g l = record {
  items : l.handles.items ≡ drop l.w l.fn.handles.items;
  left : vec_len l.handles + l.w ≡ length l.fn.jobs;
  len : length l.jobs ≡ length l.fn.jobs;
  got : (j : ℕ) (d : Job g.row.G.Denot) (x : SharedHandle) → j < l.w → GotOne (slice_index_or l.fn.handles.items j x) (slice_index_or l.fn.jobs j d) (slice_index_or l.jobs j d);
  rest : (j : ℕ) (d : Job g.row.G.Denot) → l.w ≤ j → j < length l.fn.jobs → slice_index_or l.jobs j d ≡ slice_index_or l.fn.jobs j d;
}
