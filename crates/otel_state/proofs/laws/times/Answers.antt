-- The lemma itself.
use Rattle.otel_state.proofs.AddingUp.{tells_times}
use Rattle.otel_state.proofs.laws.times.Goals as goal

pub returns : goal.returns
returns c = tells_times
