use Rattle.span_laws.proofs.records.RecordsLemmas.{none_open, spans, add_up}
use Rattle.span_laws.proofs.times.times.Goals as goal

pub returns-clause-none_open : goal.returns-clause-none_open
returns-clause-none_open c = none_open

pub returns-clause-spans : goal.returns-clause-spans
returns-clause-spans c = spans

pub returns-clause-add_up : goal.returns-clause-add_up
returns-clause-add_up c = add_up
