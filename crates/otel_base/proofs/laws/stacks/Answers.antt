use Rattle.otel_base.proofs.ContextLeftLemmas.{attaches_less_detaches}
use Rattle.otel_base.proofs.laws.stacks.Goals as goal

pub returns : goal.returns
returns c = attaches_less_detaches
