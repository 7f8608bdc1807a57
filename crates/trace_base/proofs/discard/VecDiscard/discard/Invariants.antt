-- Each turn takes an item out.
use Rattle.trace_base.proofs.discard.VecDiscard.discard.Given as goal

abbrev pub decreases-loop-item : goal.decreases-loop-item
decreases-loop-item g l = goal.left-loop-item g l
