use Rattle.trace_lines.proofs.Common.{List, ap, arith, decimal, get_or, length, rules, take_rest, ℕ, ◌++◌, ◌+◌, ◌<◌, ◌∙◌, ◌≡◌}
use Rattle.trace_lines.proofs.texts.DigitsLemmas.{begun}
use Rattle.trace_lines.proofs.read.syntax.scan.number.Goals as goal

pub returns-then-value-eq0-clause-text : goal.returns-then-value-eq0-clause-text
returns-then-value-eq0-clause-text c =
    let text = c.args.text.now in
    let zero : get_or text 0 0 ≡ 48 + 0 = grind arith in
    let some : 0 < length text = search rules in
    begun text 0 (omega arith) some zero ∙ ap (λ (l : List ℕ). decimal 0 ++ l) (search (rules, take_rest))
