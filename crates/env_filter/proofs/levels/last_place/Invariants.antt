-- None of those that were passed is the span.
use Rattle.std.proofs.Common.{◌≡◌, ℕ, ◌<◌, ◌≤◌, length, get_or}
use Rattle.env_filter.proofs.levels.last_place.Given as goal

abbrev pub invariant-loop-above : goal.invariant-loop-above
invariant-loop-above l = record { within : l.above ≤ length l.ids; passed : (k : ℕ) → l.above ≤ k → k < length l.ids → get_or l.ids k 0 ≡ l.id → ⊥ }

abbrev pub decreases-loop-above : goal.decreases-loop-above
decreases-loop-above l = l.above
