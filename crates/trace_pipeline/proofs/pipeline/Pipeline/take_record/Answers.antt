-- The oldest record.
use Rattle.std.proofs.Common.{ap, ◌∙◌}
use Rattle.trace_pipeline.proofs.Common.{StackWorld, PipelineState, without_oldest_record, state_taken, kept_taken, oldest_by, parts_of}
use Rattle.trace_pipeline.proofs.pipeline.Pipeline.take_record.Goals as goal

pub invariant_of-self : goal.invariant_of-self
invariant_of-self c = kept_taken _ _ _ _ _ (parts_of c.self.inside) c.take_record.new.world (c.takes_record.ensures.others c.self.inside.world c.take_record.new.world c.self.inside.dispatch c.take_record.ensures.rest) (ap (λ (w : StackWorld). w.sites) c.take_record.ensures.rest.others) (ap (λ (w : StackWorld). w.cached) c.take_record.ensures.rest.others) (c.takes_record.ensures.filter c.self.inside.world c.take_record.new.world c.self.inside.dispatch c.take_record.ensures.rest) (c.takes_record.ensures.counting_filter c.self.inside.world c.take_record.new.world c.self.inside.dispatch c.take_record.ensures.rest) _ (c.takes_record.ensures.recording c.self.inside.world c.take_record.new.world c.self.inside.dispatch c.take_record.ensures.rest) _ (c.takes_record.ensures.measures c.self.inside.world c.take_record.new.world c.self.inside.dispatch c.take_record.ensures.rest) c.self.invariant

pub returns-clause-oldest : goal.returns-clause-oldest
returns-clause-oldest c = oldest_by (λ (k : PipelineState). k.recording.finished) _ _ _ c.take_record.result c.self.view_is (ap (λ (k : PipelineState). k.recording.finished) (state_taken _ _ _ _ _ (parts_of c.self.inside) c.take_record.new.world (c.takes_record.ensures.others c.self.inside.world c.take_record.new.world c.self.inside.dispatch c.take_record.ensures.rest) (ap (λ (w : StackWorld). w.sites) c.take_record.ensures.rest.others) (ap (λ (w : StackWorld). w.cached) c.take_record.ensures.rest.others) (c.takes_record.ensures.filter c.self.inside.world c.take_record.new.world c.self.inside.dispatch c.take_record.ensures.rest) (c.takes_record.ensures.counting_filter c.self.inside.world c.take_record.new.world c.self.inside.dispatch c.take_record.ensures.rest) _ (c.takes_record.ensures.recording c.self.inside.world c.take_record.new.world c.self.inside.dispatch c.take_record.ensures.rest) _ (c.takes_record.ensures.measures c.self.inside.world c.take_record.new.world c.self.inside.dispatch c.take_record.ensures.rest))) c.take_record.ensures.oldest

pub returns-clause-rest : goal.returns-clause-rest
returns-clause-rest c = state_taken _ _ _ _ _ (parts_of c.self.inside) c.take_record.new.world (c.takes_record.ensures.others c.self.inside.world c.take_record.new.world c.self.inside.dispatch c.take_record.ensures.rest) (ap (λ (w : StackWorld). w.sites) c.take_record.ensures.rest.others) (ap (λ (w : StackWorld). w.cached) c.take_record.ensures.rest.others) (c.takes_record.ensures.filter c.self.inside.world c.take_record.new.world c.self.inside.dispatch c.take_record.ensures.rest) (c.takes_record.ensures.counting_filter c.self.inside.world c.take_record.new.world c.self.inside.dispatch c.take_record.ensures.rest) _ (c.takes_record.ensures.recording c.self.inside.world c.take_record.new.world c.self.inside.dispatch c.take_record.ensures.rest) _ (c.takes_record.ensures.measures c.self.inside.world c.take_record.new.world c.self.inside.dispatch c.take_record.ensures.rest) ∙ ap without_oldest_record c.self.view_is
