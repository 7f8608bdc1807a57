use Rattle.trace_records.proofs.ScriptsLaws.{legal}
use Rattle.trace_records.proofs.laws.scripts.Goals as goal

pub returns-clause-history : goal.returns-clause-history
returns-clause-history c = λ most lines s is. (legal most lines s is).history

pub returns-clause-lanes : goal.returns-clause-lanes
returns-clause-lanes c = λ most lines s is. (legal most lines s is).lanes

pub returns-clause-within : goal.returns-clause-within
returns-clause-within c = λ most lines s is. (legal most lines s is).within
