use Rattle.env_directives.proofs.tables.PrefixesLemmas.{decides}
use Rattle.env_directives.proofs.laws.prefixes.Goals as goal

pub returns : goal.returns
returns c = decides
