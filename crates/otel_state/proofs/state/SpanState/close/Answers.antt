-- What a state has come to gives the content of its ops.
use Rattle.std.proofs.Common.{◌∙◌}
use Rattle.otel_state.proofs.SumLemmas.{content_is}
use Rattle.otel_state.proofs.state.SpanState.close.Goals as goal

pub returns-clause-content : goal.returns-clause-content
returns-clause-content c = λ making ops stands order. c.into_record.ensures ∙ content_is making ops _ _ stands order
