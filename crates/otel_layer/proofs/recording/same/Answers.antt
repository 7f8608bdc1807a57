-- By what room leaves.
use Rattle.otel_layer.proofs.RecordingCallsLemmas.{same_recording}
use Rattle.otel_layer.proofs.recording.same.Goals as goal

pub returns : goal.returns
returns c = λ old new dispatch r. same_recording old new dispatch r
