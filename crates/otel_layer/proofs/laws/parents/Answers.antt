-- What is told of the op says what it answered.
use Rattle.otel_layer.proofs.ParentSetLemmas.{sets_told}
use Rattle.otel_layer.proofs.laws.parents.Goals as goal

pub returns : goal.returns
returns g c = λ s t id at context answer spans span_data held did is found. sets_told _ spans span_data _ id at context answer held is found (g.met.S.OtelPart.tells s _ t did)
