-- As many spans were made as turns were taken.
use Rattle.std.proofs.Common.{◌≡◌, length}
use Rattle.base_tests.proofs.spans.registries.slots_after_thousand.Given as goal

abbrev pub invariant-loop-at : goal.invariant-loop-at
invariant-loop-at l = length l.registry.spans.made ≡ l.at
