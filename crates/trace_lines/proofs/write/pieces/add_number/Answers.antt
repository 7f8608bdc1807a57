use Rattle.trace_lines.proofs.Common.{AddsText, List, OnOk, subst, ℕ, ◌++◌}
use Rattle.trace_lines.proofs.write.pieces.add_number.Goals as goal

pub returns : goal.returns
returns c =
    subst (λ (text : List ℕ). OnOk c.add_two.result (AddsText c.args.out.now.items c.add_two.new.out.items (c.args.front.now ++ text))) c.format.ensures.text c.add_two.ensures
