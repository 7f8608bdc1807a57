use Rattle.std.proofs.Common.{ℕ, List, ◌∷◌, ◌∙◌, ap}
use Rattle.trace_lines.proofs.read.syntax.flat.expect_bracket.Goals as goal

pub returns : goal.returns
returns c = c.in_ok-end.ensures ∙ ap (λ (l : List ℕ). c.args.bracket ∷ l) c.in_ok-expect_end.ensures
