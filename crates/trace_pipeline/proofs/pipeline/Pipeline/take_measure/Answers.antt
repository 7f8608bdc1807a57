-- The oldest measure.
use Rattle.std.proofs.Common.{ap, ◌∙◌}
use Rattle.trace_pipeline.proofs.Common.{StackWorld, PipelineState, without_oldest_measure, state_taken, kept_taken, oldest_by, parts_of}
use Rattle.trace_pipeline.proofs.pipeline.Pipeline.take_measure.Goals as goal

pub invariant_of-self : goal.invariant_of-self
invariant_of-self c = kept_taken _ _ _ _ _ (parts_of c.self.inside) c.take_measure.new.world (c.takes_measure.ensures.others c.self.inside.world c.take_measure.new.world c.self.inside.dispatch c.take_measure.ensures.rest) (ap (λ (w : StackWorld). w.sites) c.take_measure.ensures.rest.others) (ap (λ (w : StackWorld). w.cached) c.take_measure.ensures.rest.others) (c.takes_measure.ensures.filter c.self.inside.world c.take_measure.new.world c.self.inside.dispatch c.take_measure.ensures.rest) (c.takes_measure.ensures.counting_filter c.self.inside.world c.take_measure.new.world c.self.inside.dispatch c.take_measure.ensures.rest) _ (c.takes_measure.ensures.recording c.self.inside.world c.take_measure.new.world c.self.inside.dispatch c.take_measure.ensures.rest) _ (c.takes_measure.ensures.measures c.self.inside.world c.take_measure.new.world c.self.inside.dispatch c.take_measure.ensures.rest) c.self.invariant

pub returns-clause-oldest : goal.returns-clause-oldest
returns-clause-oldest c = oldest_by (λ (k : PipelineState). k.measures) _ _ _ c.take_measure.result c.self.view_is (ap (λ (k : PipelineState). k.measures) (state_taken _ _ _ _ _ (parts_of c.self.inside) c.take_measure.new.world (c.takes_measure.ensures.others c.self.inside.world c.take_measure.new.world c.self.inside.dispatch c.take_measure.ensures.rest) (ap (λ (w : StackWorld). w.sites) c.take_measure.ensures.rest.others) (ap (λ (w : StackWorld). w.cached) c.take_measure.ensures.rest.others) (c.takes_measure.ensures.filter c.self.inside.world c.take_measure.new.world c.self.inside.dispatch c.take_measure.ensures.rest) (c.takes_measure.ensures.counting_filter c.self.inside.world c.take_measure.new.world c.self.inside.dispatch c.take_measure.ensures.rest) _ (c.takes_measure.ensures.recording c.self.inside.world c.take_measure.new.world c.self.inside.dispatch c.take_measure.ensures.rest) _ (c.takes_measure.ensures.measures c.self.inside.world c.take_measure.new.world c.self.inside.dispatch c.take_measure.ensures.rest))) c.take_measure.ensures.oldest

pub returns-clause-rest : goal.returns-clause-rest
returns-clause-rest c = state_taken _ _ _ _ _ (parts_of c.self.inside) c.take_measure.new.world (c.takes_measure.ensures.others c.self.inside.world c.take_measure.new.world c.self.inside.dispatch c.take_measure.ensures.rest) (ap (λ (w : StackWorld). w.sites) c.take_measure.ensures.rest.others) (ap (λ (w : StackWorld). w.cached) c.take_measure.ensures.rest.others) (c.takes_measure.ensures.filter c.self.inside.world c.take_measure.new.world c.self.inside.dispatch c.take_measure.ensures.rest) (c.takes_measure.ensures.counting_filter c.self.inside.world c.take_measure.new.world c.self.inside.dispatch c.take_measure.ensures.rest) _ (c.takes_measure.ensures.recording c.self.inside.world c.take_measure.new.world c.self.inside.dispatch c.take_measure.ensures.rest) _ (c.takes_measure.ensures.measures c.self.inside.world c.take_measure.new.world c.self.inside.dispatch c.take_measure.ensures.rest) ∙ ap without_oldest_measure c.self.view_is
