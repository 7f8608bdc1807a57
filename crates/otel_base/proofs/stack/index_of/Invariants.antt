-- The item stands before those that were passed.
use Rattle.std.proofs.Common.{◌≡◌, ◌≤◌, length, take, true}
use Rattle.otel_base.specs.Stack.{has_number}
use Rattle.otel_base.proofs.stack.index_of.Given as goal

abbrev pub invariant-loop-above : goal.invariant-loop-above
invariant-loop-above l = (has_number l.number (take l.above l.items) ≡ true) × (l.above ≤ length l.items)

abbrev pub decreases-loop-above : goal.decreases-loop-above
decreases-loop-above l = l.above
