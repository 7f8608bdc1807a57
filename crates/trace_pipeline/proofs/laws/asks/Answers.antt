-- The law, by what the stack's own say.
use Rattle.trace_pipeline.proofs.Common.{stack_same}
use Rattle.trace_pipeline.proofs.laws.asks.Goals as goal

pub returns : goal.returns
returns c = record {
  shown = c.of_stack.ensures.asks;
  viewed = λ o n d k r. (c.asks.ensures.recording o n d k r, c.asks.ensures.filter o n d k r, stack_same o n d (c.asks.ensures.counting_filter o n d k r) (c.asks.ensures.measures o n d k r));
}
