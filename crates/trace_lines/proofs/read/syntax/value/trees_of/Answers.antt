use Rattle.std.proofs.lemmas.Grind.{common_steps}
use Rattle.trace_lines.proofs.Common.{Some, [], ap, arith, into_iter_items, items_view, sym, ◌∙◌, ◌≡◌}
use Rattle.trace_lines.proofs.readings.ValuesLemmas.{in_front, all_in_front}
use Rattle.trace_lines.proofs.read.syntax.value.trees_of.Goals as goal

pub returns : goal.returns
returns c =
    let none : into_iter_items c.loop-tree.tree-iterator ≡ [] = grind (arith, common_steps) in
    ap Some (sym c.loop-tree.invariant ∙ ap (λ trees. in_front c.loop-tree.values.items (items_view trees)) none ∙ all_in_front c.loop-tree.values.items)
