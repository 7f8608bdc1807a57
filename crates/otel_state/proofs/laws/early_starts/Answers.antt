-- The lemma itself.
use Rattle.otel_state.proofs.StartLemmas.{early_is_late}
use Rattle.otel_state.proofs.laws.early_starts.Goals as goal

pub returns : goal.returns
returns c = early_is_late
