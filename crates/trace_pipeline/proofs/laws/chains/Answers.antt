-- The law, by what the stack's own say.
use Rattle.trace_pipeline.proofs.Common.{stack_same}
use Rattle.trace_pipeline.proofs.laws.chains.Goals as goal

pub returns : goal.returns
returns c = record {
  shown = c.of_stack.ensures.chains;
  viewed = λ o n d a i r. (c.chains.ensures.recording o n d a i r, c.chains.ensures.filter o n d a i r, stack_same o n d (c.chains.ensures.counting_filter o n d a i r) (c.chains.ensures.measures o n d a i r));
}
