-- So many handles have learnt, and the rest are as they were.
use Rattle.std.proofs.Common.{◌≡◌, ℕ, ◌<◌, ◌≤◌, length, slice_index_or}
use Rattle.trace_threads.specs.Handles.{SharedHandle}
use Rattle.thread_handles.specs.Shares.{HasLearnt}
use Rattle.thread_handles.proofs.clones.teach.Given as goal

abbrev pub invariant-loop-i : goal.invariant-loop-i
invariant-loop-i l = record {
  pass : (l.pass.span ≡ l.fn.pass.span) × (l.pass.view.seen ≡ l.fn.pass.view.seen) × (l.pass.view.origin ≡ l.fn.pass.view.origin);
  len : length l.handles ≡ length l.fn.handles;
  learnt : (i : ℕ) (d : SharedHandle) → i < l.i → HasLearnt l.fn.pass (slice_index_or l.fn.handles i d) (slice_index_or l.handles i d);
  rest : (i : ℕ) (d : SharedHandle) → l.i ≤ i → i < length l.fn.handles → slice_index_or l.handles i d ≡ slice_index_or l.fn.handles i d;
}
