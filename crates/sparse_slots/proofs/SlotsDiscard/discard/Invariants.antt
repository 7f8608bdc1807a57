-- The values that are left.
use Rattle.std.proofs.Common.{length}
use Rattle.sparse_slots.proofs.SlotsDiscard.discard.Given as goal

abbrev pub decreases-loop-value : goal.decreases-loop-value
decreases-loop-value g l = length l.left.items
