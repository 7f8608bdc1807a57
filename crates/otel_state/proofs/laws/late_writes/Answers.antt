-- The lemma itself.
use Rattle.otel_state.proofs.StartLemmas.{late_is_nothing}
use Rattle.otel_state.proofs.laws.late_writes.Goals as goal

pub returns : goal.returns
returns c = late_is_nothing
