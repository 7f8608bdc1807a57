-- what is written, and the rest, are all
use Rattle.trace_lines.proofs.Common.{AddsText, List, drop, false, items, items_text, ℕ, ◌++◌, ◌∷◌, ◌≡◌}
use Rattle.trace_lines.specs.text.Writes.{bracket_unless}
use Rattle.trace_lines.proofs.write.array.add_array.Given as goal

abbrev pub invariant-loop-item : goal.invariant-loop-item
invariant-loop-item g l =
    (w : List ℕ) × AddsText l.initial.out.items l.out.items w
    × ((w ++ bracket_unless l.later) ++ items_text l.later (items g.T.WriteItem.item_data (drop l.item-index l.items)) ≡ 91 ∷ items_text false (items g.T.WriteItem.item_data l.items))
