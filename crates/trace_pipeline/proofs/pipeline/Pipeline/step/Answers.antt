-- The step.
use Rattle.std.proofs.Common.{rules, refl}
use Rattle.trace_pipeline.proofs.Common.{tables, effect_is, steps_ok, steps_refused}
use Rattle.trace_pipeline.proofs.pipeline.Pipeline.step.Goals as goal

pub returns-clause-ok : goal.returns-clause-ok
returns-clause-ok c = λ h stands. steps_ok c.call.result _ _ h c.args.self.now c.call.new.self
    (effect_is _ _ c.self.view_is c.self.inside.lanes.items refl c.self.inside.moment refl (tables c.args.self.now.setup h) stands.fits c.args.request (search rules) (search rules)) (c.call.ensures.ok (tables c.args.self.now.setup h) stands)

pub returns-clause-refused : goal.returns-clause-refused
returns-clause-refused c = λ h stands. steps_refused c.call.result _ _
    (effect_is _ _ c.self.view_is c.self.inside.lanes.items refl c.self.inside.moment refl (tables c.args.self.now.setup h) stands.fits c.args.request (search rules) (search rules)) (c.call.ensures.refused (tables c.args.self.now.setup h) stands)
