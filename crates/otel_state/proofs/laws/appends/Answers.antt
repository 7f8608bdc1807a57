-- The lemma itself.
use Rattle.otel_state.proofs.SumLemmas.{appended}
use Rattle.otel_state.proofs.laws.appends.Goals as goal

pub returns : goal.returns
returns c = appended
