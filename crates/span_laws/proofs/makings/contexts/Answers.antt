use Rattle.span_laws.proofs.records.OwnContextsLemmas.{is_under, sees_own}
use Rattle.span_laws.proofs.makings.contexts.Goals as goal

pub returns-clause-under : goal.returns-clause-under
returns-clause-under c = is_under

pub returns-clause-seen : goal.returns-clause-seen
returns-clause-seen c = sees_own
