use Rattle.span_laws.proofs.levels.TextsLemmas.{read_exactly, refused_exactly}
use Rattle.span_laws.proofs.texts.texts.Goals as goal

pub returns-clause-read : goal.returns-clause-read
returns-clause-read c = read_exactly

pub returns-clause-refused : goal.returns-clause-refused
returns-clause-refused c = refused_exactly
