-- The law, by what the stack's own say.
use Rattle.trace_pipeline.proofs.Common.{stack_same}
use Rattle.trace_pipeline.proofs.laws.same.Goals as goal

pub returns : goal.returns
returns c = record {
  shown = c.of_stack.ensures.alike;
  viewed = λ o n d r. (c.same.ensures.recording o n d r, c.same.ensures.filter o n d r, stack_same o n d (c.same.ensures.counting_filter o n d r) (c.same.ensures.measures o n d r));
}
