-- What was visited and what waits, the last one first.
use Rattle.std.proofs.Common.{◌-◌, length, reverse}
use Rattle.trace_tree.proofs.Visits.{Visits}
use Rattle.trace_tree.proofs.walk.walk.Given as goal

abbrev pub invariant-loop-node : goal.invariant-loop-node
invariant-loop-node l = Visits l.finished l.nodes.items (reverse l.stack.items)

abbrev pub decreases-loop-node : goal.decreases-loop-node
decreases-loop-node l = length l.finished - length l.nodes.items
