-- So many were made.
use Rattle.std.proofs.Common.{◌≡◌, vec_len, vec_capacity}
use Rattle.work_tests.proofs.gates.zero_counts.Given as goal

abbrev pub invariant-loop : goal.invariant-loop
invariant-loop l = record {
  len : vec_len l.counts ≡ l.counter;
  room : vec_capacity l.counts ≡ l.fn.count;
}
