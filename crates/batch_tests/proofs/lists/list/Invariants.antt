-- All items so far are of the lane.
use Rattle.std.proofs.Common.{◌≡◌, All}
use Rattle.batch_tests.proofs.lists.list.Given as goal

abbrev pub invariant-loop-place : goal.invariant-loop-place
invariant-loop-place l = All (λ i. i.lane ≡ l.lane) l.items
