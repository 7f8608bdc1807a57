use Rattle.trace_laws.proofs.SumsLemmas.{made_counts}
use Rattle.trace_laws.proofs.laws.sums.Goals as goal

pub returns : goal.returns
returns c = λ rounds h few valid is. made_counts rounds few valid h is
