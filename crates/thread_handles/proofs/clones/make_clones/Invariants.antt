-- So many handles were made.
use Rattle.std.proofs.Common.{◌≡◌, vec_len, vec_capacity}
use Rattle.thread_handles.specs.Shares.{AreCloned}
use Rattle.thread_handles.proofs.clones.make_clones.Given as goal

abbrev pub invariant-loop : goal.invariant-loop
invariant-loop g l = record {
  cloned : AreCloned l.fn.first l.first l.handles.items;
  len : vec_len l.handles ≡ l.counter;
  room : vec_capacity l.handles ≡ vec_capacity l.fn.handles;
}
