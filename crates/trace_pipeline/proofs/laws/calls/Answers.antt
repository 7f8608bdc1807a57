-- The law, by what the stack's own say.
use Rattle.trace_pipeline.proofs.laws.calls.Goals as goal

pub returns : goal.returns
returns c = record {
  shown = c.of_stack.ensures.calls;
  viewed = λ o n d k r. (c.calls.ensures.recording o n d k r, c.calls.ensures.filter o n d k r, record { counting_filter = c.calls.ensures.counting_filter o n d k r; measures = c.calls.ensures.measures o n d k r });
}
