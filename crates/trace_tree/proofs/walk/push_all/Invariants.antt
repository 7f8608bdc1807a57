-- What was put onto the stack, and what is still to be put there.
use Rattle.std.proofs.Common.{◌≡◌, ◌++◌, ◌-◌, length, map, reverse, take}
use Rattle.trace_tree.specs.Walking.{node_with}
use Rattle.trace_tree.proofs.walk.push_all.Given as goal

abbrev pub invariant-loop-i : goal.invariant-loop-i
invariant-loop-i l = l.stack.items ++ reverse (map (node_with l.depth) (take (length l.places - l.i) l.places)) ≡ l.initial.stack.items ++ reverse (map (node_with l.depth) l.places)
