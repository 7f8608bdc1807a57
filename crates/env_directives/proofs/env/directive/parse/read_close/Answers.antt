use Rattle.env_directives.proofs.cuts.BehindLemmas.{no_bracket}
use Rattle.env_directives.proofs.env.directive.parse.read_close.Goals as goal

pub returns-in-None : goal.returns-in-None
returns-in-None c = no_bracket c.args.directive c.args.rest.now c.in-None.ensures.cases
