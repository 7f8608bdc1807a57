-- Each list so far is of its lane.
use Rattle.std.proofs.Common.{◌≡◌, ◌<◌, ℕ, [], All, length, get_or}
use Rattle.batch_tests.proofs.lists.lists.Given as goal

abbrev pub invariant-loop-count : goal.invariant-loop-count
invariant-loop-count l = record {
  len : length l.all.items ≡ l.count-index;
  own : (k : ℕ) → k < length l.all.items → All (λ i. i.lane ≡ k) (get_or l.all.items k []);
}
