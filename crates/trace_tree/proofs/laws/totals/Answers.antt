use Rattle.trace_tree.proofs.WrongAnswers.{refuses_twice, refuses_descent, refuses_double}
use Rattle.trace_tree.proofs.laws.totals.Goals as goal

pub returns-clause-once : goal.returns-clause-once
returns-clause-once c = refuses_twice

pub returns-clause-ascending : goal.returns-clause-ascending
returns-clause-ascending c = refuses_descent

pub returns-clause-counts : goal.returns-clause-counts
returns-clause-counts c = refuses_double
