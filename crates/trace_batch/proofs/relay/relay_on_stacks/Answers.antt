-- The rule holds of an empty queue.
use Rattle.trace_batch.proofs.Steps.{begins}
use Rattle.trace_batch.proofs.relay.relay_on_stacks.Goals as goal

pub ruled-requires-clause-rule : goal.ruled-requires-clause-rule
ruled-requires-clause-rule g c = begins
