-- All laws, at the stack.
use Rattle.trace_pipeline.proofs.laws.of_stack.Goals as goal

pub returns : goal.returns
returns c = c.of_any.ensures
