use Rattle.std.proofs.Common.{List, ℕ, ◌++◌, decimal, ap, subst, ◌∙◌}
use Rattle.task_lines.specs.Compact.{BeginsSteps}
use Rattle.task_lines.proofs.quick.site_and_steps.Goals as goal

pub returns-clause-text : goal.returns-clause-text
returns-clause-text c =
    let n = c.in_ok-site.ensures in (
      c.in_ok-list.list.now,
      c.in_ok-digits.ensures ∙ ap (λ (t : List ℕ). c.args.front.now ++ t) (n.text ∙ ap (λ (t : List ℕ). decimal c.in_ok-site.site ++ t) c.in_ok-list.ensures),
      subst (λ (t : List ℕ). BeginsSteps c.in_ok-list.list.now c.in_ok-steps.steps t) c.in_ok-expect_bracket.ensures c.in_ok-steps.ensures,
    )
