-- So many workers' releases were joined.
use Rattle.std.proofs.Common.{◌≡◌, ℕ, ◌<◌, ◌≤◌, length, drop, slice_index_or}
use Rattle.trace_threads.specs.declared.handle.Released.{Released}
use Rattle.thread_handles.specs.declared.job.Job.{Job}
use Rattle.thread_handles.specs.Gathers.{MetAll}
use Rattle.thread_handles.specs.Columns.{column}
use Rattle.thread_handles.proofs.gather.gather_next.Given as goal

abbrev pub invariant-loop-w : goal.invariant-loop-w
invariant-loop-w g l = record {
  len : length l.jobs ≡ length l.fn.jobs;
  span : l.met.pass.span ≡ l.fn.first.pass.span;
  joined : (u : Released) → MetAll l.met (drop l.w (column l.fn.first 0 l.fn.jobs)) u → MetAll l.fn.first (column l.fn.first 0 l.fn.jobs) u;
  taken : (j : ℕ) (d : Job g.row.G.Denot) → j < l.w → (slice_index_or l.jobs j d).left.items ≡ drop 1 (slice_index_or l.fn.jobs j d).left.items;
  rest : (j : ℕ) (d : Job g.row.G.Denot) → l.w ≤ j → j < length l.fn.jobs → slice_index_or l.jobs j d ≡ slice_index_or l.fn.jobs j d;
}
