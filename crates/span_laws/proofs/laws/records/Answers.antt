-- By what stands of each legal history.
use Rattle.span_laws.proofs.spans.AllSpansLemmas.{closed_and_open}
use Rattle.span_laws.proofs.records.HistoriesLemmas.{closed_once, closed_when_ended, only_made_closed}
use Rattle.span_laws.proofs.laws.records.Goals as goal

pub returns-clause-recorded_once : goal.returns-clause-recorded_once
returns-clause-recorded_once c = closed_once

pub returns-clause-recorded_when_ended : goal.returns-clause-recorded_when_ended
returns-clause-recorded_when_ended c = closed_when_ended

pub returns-clause-only_made_recorded : goal.returns-clause-only_made_recorded
returns-clause-only_made_recorded c = only_made_closed

pub returns-clause-records_and_open : goal.returns-clause-records_and_open
returns-clause-records_and_open c = closed_and_open
