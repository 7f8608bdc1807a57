-- None of the entries that were passed is of the span on the lane.
use Rattle.std.proofs.Common.{◌≡◌, ◌≤◌, length, drop, false}
use Rattle.otel_layer.proofs.Common.{list_any, is_token}
use Rattle.otel_layer.proofs.layer.tokens.last_place.Given as goal

abbrev pub invariant-loop-at : goal.invariant-loop-at
invariant-loop-at l = record { within : l.at ≤ length l.tokens; none : list_any (is_token l.lane l.id) (drop l.at l.tokens) ≡ false }

abbrev pub decreases-loop-at : goal.decreases-loop-at
decreases-loop-at l = l.at
