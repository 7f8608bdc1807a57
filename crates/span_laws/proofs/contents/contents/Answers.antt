use Rattle.span_laws.proofs.records.RecordsLemmas.{as_many_as_closed, as_many_as_close}
use Rattle.span_laws.proofs.records.MadeRecordsLemmas.{contents}
use Rattle.span_laws.proofs.contents.contents.Goals as goal

pub returns-clause-as_many_as_closed : goal.returns-clause-as_many_as_closed
returns-clause-as_many_as_closed c = as_many_as_closed

pub returns-clause-as_many_as_close : goal.returns-clause-as_many_as_close
returns-clause-as_many_as_close c = as_many_as_close

pub returns-clause-contents : goal.returns-clause-contents
returns-clause-contents c = contents
