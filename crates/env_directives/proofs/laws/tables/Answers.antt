use Rattle.env_directives.proofs.tables.TablesLemmas.{kept, one_table}
use Rattle.env_directives.proofs.laws.tables.Goals as goal

pub returns-clause-kept : goal.returns-clause-kept
returns-clause-kept g c = kept g.met.T.Ord.total g.T.Match.level_of

pub returns-clause-one : goal.returns-clause-one
returns-clause-one g c = one_table g.met.T.Ord.total g.T.Match.level_of
