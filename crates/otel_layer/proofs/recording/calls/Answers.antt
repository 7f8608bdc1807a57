-- By what a call makes of the stack.
use Rattle.otel_layer.proofs.RecordingCallsLemmas.{call_recording, layered_recording}
use Rattle.otel_layer.proofs.Common.{layer_recording}
use Rattle.otel_layer.proofs.recording.calls.Goals as goal

pub returns : goal.returns
returns c = λ old new dispatch call r. call_recording _ _ layer_recording layered_recording old new dispatch call r
