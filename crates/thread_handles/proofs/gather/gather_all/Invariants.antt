-- So many spans were ended.
use Rattle.std.proofs.Common.{◌≡◌, ℕ, ◌+◌, ◌<◌, length, drop, vec_len, vec_capacity, slice_index_or}
use Rattle.trace_threads.specs.declared.handle.Released.{Released}
use Rattle.thread_handles.specs.declared.gather.Ended.{Ended}
use Rattle.thread_handles.specs.Columns.{WereTaken, IsJoined}
use Rattle.thread_handles.proofs.gather.gather_all.Given as goal

abbrev pub invariant-loop : goal.invariant-loop
invariant-loop g l = record {
  items : l.firsts.items ≡ drop l.counter l.fn.firsts.items;
  left : vec_len l.firsts + l.counter ≡ vec_len l.fn.firsts;
  len : length l.jobs ≡ length l.fn.jobs;
  taken : WereTaken l.counter l.fn.jobs l.jobs;
  count : vec_len l.ended ≡ l.counter;
  room : vec_capacity l.ended ≡ vec_capacity l.fn.ended;
  joined : (s : ℕ) (d : Released) (x : Ended) → s < l.counter → IsJoined (slice_index_or l.fn.firsts.items s d) s l.fn.jobs (slice_index_or l.ended.items s x);
}
