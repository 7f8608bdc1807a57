-- the items that were moved, in front of those that are left
use Rattle.trace_lines.proofs.Common.{into_iter_items, items_view, ◌≡◌}
use Rattle.trace_lines.proofs.readings.ValuesLemmas.{in_front}
use Rattle.trace_lines.proofs.read.syntax.value.trees_of.Given as goal

abbrev pub invariant-loop-tree : goal.invariant-loop-tree
invariant-loop-tree l = in_front l.values.items (items_view (into_iter_items l.tree-iterator)) ≡ items_view l.fn.trees.items
