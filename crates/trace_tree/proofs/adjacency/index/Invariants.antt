-- The places so far.
use Rattle.trace_tree.specs.Walking.{IsIndex}
use Rattle.trace_tree.proofs.adjacency.index.Given as goal

abbrev pub invariant-loop-place : goal.invariant-loop-place
invariant-loop-place l = IsIndex l.finished l.place l.index
