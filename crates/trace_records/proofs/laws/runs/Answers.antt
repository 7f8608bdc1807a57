use Rattle.trace_records.proofs.ScriptsLaws.{accepts_same}
use Rattle.trace_records.proofs.LanesLaws.{few_lanes, any_lanes}
use Rattle.trace_records.proofs.EndsLaws.{ends_with}
use Rattle.trace_records.proofs.laws.runs.Goals as goal

pub returns-clause-accepted : goal.returns-clause-accepted
returns-clause-accepted c = accepts_same

pub returns-clause-last : goal.returns-clause-last
returns-clause-last c = ends_with

pub returns-clause-few : goal.returns-clause-few
returns-clause-few c = λ most lines s. (few_lanes most lines s, any_lanes most lines s)
