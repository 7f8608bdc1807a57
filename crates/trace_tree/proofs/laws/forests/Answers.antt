use Rattle.trace_tree.proofs.WrongAnswers.{refuses_drop, refuses_order}
use Rattle.trace_tree.proofs.laws.forests.Goals as goal

pub returns-clause-whole : goal.returns-clause-whole
returns-clause-whole c = refuses_drop

pub returns-clause-ordered : goal.returns-clause-ordered
returns-clause-ordered c = refuses_order
