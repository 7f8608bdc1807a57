-- So many handles were released, and the rest are left.
use Rattle.std.proofs.Common.{◌≡◌, ℕ, ◌+◌, ◌<◌, drop, vec_len, vec_capacity, slice_index_or}
use Rattle.trace_threads.specs.declared.handle.Released.{Released}
use Rattle.trace_threads.specs.Handles.{SharedHandle, open_count_of}
use Rattle.thread_script.specs.declared.script.SharedLine.{SharedLine}
use Rattle.thread_script.specs.Plans.{release_moment}
use Rattle.thread_handles.specs.Works.{WasReleased}
use Rattle.thread_handles.proofs.worker.end_all.Given as goal

abbrev pub invariant-loop-s : goal.invariant-loop-s
invariant-loop-s g l = record {
  items : l.handles.items ≡ drop l.s l.fn.handles.items;
  len : vec_len l.handles + l.s ≡ vec_len l.fn.handles;
  count : vec_len l.left ≡ l.s;
  room : vec_capacity l.left ≡ vec_capacity l.fn.left;
  released : (s : ℕ) (d : SharedHandle) (e : Released) (x : SharedLine) → s < l.s → open_count_of (slice_index_or l.fn.handles.items s d) ≡ 0 → WasReleased (slice_index_or l.fn.handles.items s d) (slice_index_or l.left.items s e) (release_moment (slice_index_or l.plan.shared s x).at l.last);
}
