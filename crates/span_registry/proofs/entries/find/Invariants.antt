-- None of the lanes that were passed has the id.
use Rattle.std.proofs.Common.{◌≡◌, ℕ, ◌<◌, get_or}
use Rattle.span_registry.proofs.Common.{no_lane}
use Rattle.span_registry.proofs.entries.find.Given as goal

abbrev pub invariant-loop-at : goal.invariant-loop-at
invariant-loop-at l = (k : ℕ) → k < l.at → (get_or l.lanes k no_lane).lane ≡ l.lane → ⊥
