use Rattle.env_directives.proofs.Common.{starts_with, starts_text}
use Rattle.std.proofs.Common.{◌∙◌, ap, eqb}
use Rattle.env_directives.proofs.directive.begins_with.Goals as goal

pub returns-in-Some : goal.returns-in-Some
returns-in-Some c =
    rw c.in-Some.is (starts_text _ _ _ c.starts_with.ensures.cases ∙ ap (starts_with eqb c.args.text.now) c.as_str.ensures)
