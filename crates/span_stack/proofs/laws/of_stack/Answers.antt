-- What holds over any subscriber, at the stack.
use Rattle.span_stack.proofs.laws.of_stack.Goals as goal

pub returns : goal.returns
returns c = c.steps.ensures
