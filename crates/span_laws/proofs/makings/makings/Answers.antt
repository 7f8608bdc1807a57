use Rattle.span_laws.proofs.spans.RequestedSpansLemmas.{if_admitted, made_by}
use Rattle.span_laws.proofs.makings.makings.Goals as goal

pub returns-clause-admitted : goal.returns-clause-admitted
returns-clause-admitted c = if_admitted

pub returns-clause-told : goal.returns-clause-told
returns-clause-told c = made_by
