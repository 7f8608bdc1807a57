use Rattle.otel_metrics.specs.Measures.{measures}
use Rattle.span_laws.proofs.Common.{Bool, ap, event_op, event_ops, if_enabled, ops_effect, ops_on}
use Rattle.span_script.specs.declared.reply.Reply.TheVariants as reply
use Rattle.span_laws.proofs.filters.refused_events.Goals as goal

pub returns : goal.returns
returns c = λ stands site values reached no. ap (λ (b : Bool). record (ops_effect stands (reply.Enabled b) (if_enabled b (ops_on reached (event_ops stands.setup.counting site (event_op site values stands.setup.layer stands.at))))) { measures = if_enabled b (measures site values) }) no
