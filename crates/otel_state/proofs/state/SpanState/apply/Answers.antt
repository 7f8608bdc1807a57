-- The answer goes by the start alone.
use Rattle.std.proofs.Common.{◌∙◌}
use Rattle.otel_state.proofs.SumLemmas.{reply_is}
use Rattle.otel_state.proofs.state.SpanState.apply.Goals as goal

pub returns-clause-listed : goal.returns-clause-listed
returns-clause-listed c = λ making ops stands. c.answer-answer.ensures ∙ reply_is c.args.self.now.span_data c.args.op making ops stands
