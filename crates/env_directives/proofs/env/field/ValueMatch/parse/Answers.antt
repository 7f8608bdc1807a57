use Rattle.std.proofs.Common.{sym, ◌∙◌}
use Rattle.env_directives.proofs.forms.KeptPatternsLemmas.{plain_patterned}
use Rattle.env_directives.proofs.env.field.ValueMatch.parse.Goals as goal

pub returns-in-Some-clause-pattern : goal.returns-in-Some-clause-pattern
returns-in-Some-clause-pattern c = plain_patterned c.args.text.now c.in-Some.value (sym c.in-Some.is ∙ c.plain_value.ensures)
