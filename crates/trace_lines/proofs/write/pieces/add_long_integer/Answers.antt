use Rattle.trace_lines.proofs.Common.{AddsText, List, OnOk, rules, signed_decimal, subst, ℕ, ◌++◌, ◌≡◌}
use Rattle.trace_lines.proofs.write.pieces.add_long_integer.Goals as goal

pub returns : goal.returns
returns c =
    let digits : c.format.result.now ≡ signed_decimal c.args.number = search rules in
    subst (λ (text : List ℕ). OnOk c.add_two.result (AddsText c.args.out.now.items c.add_two.new.out.items (c.args.front.now ++ text))) digits c.add_two.ensures
