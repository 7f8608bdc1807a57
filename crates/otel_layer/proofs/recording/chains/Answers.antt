-- By what a close makes of the stack.
use Rattle.otel_layer.proofs.RecordingCallsLemmas.{stack_chain}
use Rattle.otel_layer.proofs.recording.chains.Goals as goal

pub returns : goal.returns
returns c = λ old new dispatch at id r. stack_chain at old new dispatch id r
