-- None of the values that were passed is of the span.
use Rattle.std.proofs.Common.{◌≡◌, ◌≤◌, length, drop, false}
use Rattle.std.specs.List.{list_any}
use Rattle.otel_state.specs.Stack.{is_pair_of}
use Rattle.otel_state.proofs.stack.last_place.Given as goal

abbrev pub invariant-loop-at : goal.invariant-loop-at
invariant-loop-at g l = record { within : l.at ≤ length l.items; none : list_any (is_pair_of l.id) (drop l.at l.items) ≡ false }

abbrev pub decreases-loop-at : goal.decreases-loop-at
decreases-loop-at g l = l.at
