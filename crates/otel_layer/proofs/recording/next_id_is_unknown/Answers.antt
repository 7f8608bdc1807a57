-- What a layer knows was made before.
use Rattle.otel_layer.proofs.RecordingCallsLemmas.{next_untold}
use Rattle.otel_layer.proofs.recording.next_id_is_unknown.Goals as goal

pub returns : goal.returns
returns c = λ world dispatch s there whole. next_untold world dispatch s there whole.in_step
