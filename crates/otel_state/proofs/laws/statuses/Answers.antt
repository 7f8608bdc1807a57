-- The lemma itself.
use Rattle.otel_state.proofs.StatusOrderLemmas.{never_falls}
use Rattle.otel_state.proofs.laws.statuses.Goals as goal

pub returns : goal.returns
returns c = never_falls
