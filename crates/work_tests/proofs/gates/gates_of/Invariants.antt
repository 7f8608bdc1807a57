-- So many gates of the text were made.
use Rattle.std.proofs.Common.{◌≡◌, length, vec_len, vec_capacity, All}
use Rattle.work_tests.proofs.gates.gates_of.Given as goal

abbrev pub invariant-loop-asked : goal.invariant-loop-asked
invariant-loop-asked l = record {
  len : vec_len l.gates ≡ l.asked-index;
  room : vec_capacity l.gates ≡ length l.fn.counts;
  texts : All (λ g. g.text ≡ l.fn.text) l.gates.items;
}
