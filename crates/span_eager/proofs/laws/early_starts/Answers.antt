-- The lemmas themselves.
use Rattle.span_eager.proofs.SameOutcomes.{each_early_is_late, early_is_late}
use Rattle.span_eager.proofs.laws.early_starts.Goals as goal

pub returns-clause-each : goal.returns-clause-each
returns-clause-each c = each_early_is_late

pub returns-clause-outcome : goal.returns-clause-outcome
returns-clause-outcome c = early_is_late
