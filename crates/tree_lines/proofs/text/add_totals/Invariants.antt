-- The lines of the totals so far are written.
use Rattle.std.proofs.Common.{◌≡◌, ◌++◌, take}
use Rattle.std.specs.List.{flat_map}
use Rattle.tree_lines.specs.Texts.{total_text}
use Rattle.tree_lines.proofs.text.add_totals.Given as goal

abbrev pub invariant-loop-total : goal.invariant-loop-total
invariant-loop-total l = l.out.items ≡ l.initial.out.items ++ flat_map total_text (take l.total-index l.totals)
