-- The lines of the nodes so far are written.
use Rattle.std.proofs.Common.{◌≡◌, ◌++◌, take}
use Rattle.std.specs.List.{flat_map}
use Rattle.tree_lines.specs.Texts.{node_line}
use Rattle.tree_lines.proofs.text.add_nodes.Given as goal

abbrev pub invariant-loop-node : goal.invariant-loop-node
invariant-loop-node l = l.out.items ≡ l.initial.out.items ++ flat_map (node_line l.spans) (take l.node-index l.nodes)
