-- So many spans were made.
use Rattle.std.proofs.Common.{◌≡◌, vec_len, vec_capacity}
use Rattle.thread_run.specs.Spans.{AreMadeUpTo}
use Rattle.thread_run.proofs.spans.make_each.Given as goal

abbrev pub invariant-loop-place : goal.invariant-loop-place
invariant-loop-place l = record {
  made : AreMadeUpTo l.fn.script l.place l.handles.items;
  count : vec_len l.handles ≡ l.place;
  room : vec_capacity l.handles ≡ vec_capacity l.fn.handles;
}
