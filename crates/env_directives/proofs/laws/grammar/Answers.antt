use Rattle.env_directives.proofs.forms.ReadingsLemmas.{read_exactly, refused_exactly}
use Rattle.env_directives.proofs.laws.grammar.Goals as goal

pub returns-clause-directive : goal.returns-clause-directive
returns-clause-directive c = read_exactly

pub returns-clause-fault : goal.returns-clause-fault
returns-clause-fault c = refused_exactly
