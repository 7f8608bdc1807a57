use Rattle.env_directives.proofs.forms.KeptPatternsLemmas.{close_patterned}
use Rattle.env_directives.proofs.env.directive.parse.read_fielded.Goals as goal

pub returns-clause-patterns : goal.returns-clause-patterns
returns-clause-patterns c = close_patterned _ c.in_ok-fields.rest.now c.read_close.result c.in_ok-fields.ensures.patterns c.read_close.ensures
