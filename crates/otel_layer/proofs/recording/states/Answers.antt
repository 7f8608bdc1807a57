-- By induction on the spans.
use Rattle.otel_layer.proofs.FoundSpanLemmas.{told_at_op, told_at_start, told_at_made, told_at_removed, closes_span}
use Rattle.otel_layer.proofs.recording.states.Goals as goal

pub returns : goal.returns
returns c = record { op = told_at_op; start = told_at_start; made = told_at_made; removed = told_at_removed; closes = closes_span }
