use Rattle.env_directives.proofs.tables.TiesLemmas.{directive_tie, tied_directives}
use Rattle.env_directives.proofs.laws.ties.Goals as goal

pub returns : goal.returns
returns c = λ a b. (directive_tie a b, tied_directives a b)
