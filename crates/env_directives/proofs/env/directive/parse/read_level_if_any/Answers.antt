use Rattle.std.proofs.Common.{sym, ◌∙◌}
use Rattle.env_directives.proofs.cuts.BehindLemmas.{no_level}
use Rattle.env_directives.proofs.env.directive.parse.read_level_if_any.Goals as goal

pub returns-in-None : goal.returns-in-None
returns-in-None c = no_level c.args.directive c.args.rest.now c.in-None.ensures.cases (sym c.if-is_empty.false ∙ c.is_empty.ensures)
