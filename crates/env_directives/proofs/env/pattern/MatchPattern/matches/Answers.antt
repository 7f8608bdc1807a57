use Rattle.std.proofs.Common.{ℕ, List, is_some, ap, ◌∙◌, subst, arith}
use Rattle.env_directives.proofs.Common.{find_str, regex_pattern, Regex, IsCompiled}
use Rattle.env_directives.proofs.forms.PatternsLemmas.{found_as_matched}
use Rattle.env_directives.proofs.env.pattern.MatchPattern.matches.Goals as goal

pub returns : goal.returns
returns c =
    c.is_match.ensures.found ∙ ap (λ p. is_some (find_str p c.args.text.now 0)) (c.in_ok-matcher.ensures.pattern ∙ ap (λ (r : Regex). regex_pattern r) c.deref.ensures)
    ∙ found_as_matched _ c.args.text.now c.self.inside.regex.value (λ k. omega (arith, c.type_inv.text k))
    (subst (λ (p : List ℕ). IsCompiled p c.self.inside.regex.value) c.self.view_is c.self.invariant)
