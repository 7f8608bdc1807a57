-- The layer is the outer part, and is asked first.
use Rattle.otel_layer.proofs.RecordingCallsLemmas.{asks_recording}
use Rattle.otel_layer.proofs.recording.asks.Goals as goal

pub returns : goal.returns
returns c = λ old new dispatch call r. asks_recording old new dispatch call r
