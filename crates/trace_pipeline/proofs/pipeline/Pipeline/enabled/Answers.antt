-- Asking the gate.
use Rattle.std.proofs.Common.{rules, false, refl}
use Rattle.trace_pipeline.proofs.Common.{stack_interest, stack_shows, is_current, within_view, has_own, own_serves, own_lane, own_there, serves_enabled, keeps_enabled, by_view, parts_of}
use Rattle.span_script.specs.declared.request.Call.TheVariants as call
use Rattle.trace_pipeline.proofs.pipeline.Pipeline.enabled.Goals as goal

pub admits-enabled-requires-clause-current : goal.admits-enabled-requires-clause-current
admits-enabled-requires-clause-current c = is_current _ _ (parts_of c.self.inside) _ _ stack_interest stack_shows c.self.invariant

pub invariant_of-self : goal.invariant_of-self
invariant_of-self c = keeps_enabled _ _ (λ x. false) _ _ (parts_of c.self.inside) c.args.at c.args.place c.index.result.now (within_view _ _ c.self.inside.lanes.items c.args.place c.self.view_is refl c.requires) (search rules) c.in-Some.id c.args.site c.in-Some.ensures.some.0 c.in-Some.ensures.some.1 c.admits-enabled.result (λ f callsite in_force at. c.admits-enabled.ensures.served c.self.inside.dispatch f callsite (own_serves _ _ c.self.inside.world.global (own_lane _ _ _ _ (parts_of c.self.inside) c.self.invariant c.args.place c.index.result.now (within_view _ _ c.self.inside.lanes.items c.args.place c.self.view_is refl c.requires) (search rules))) in_force at) c.self.invariant

pub returns : goal.returns
returns c = by_view c.args.at c.args.place (call.Enabled c.args.site) _ _ _ _ c.self.view_is (λ t stands. serves_enabled _ _ (λ x. false) (λ x lane number. 0) (λ x. Unit {0}) (parts_of c.self.inside) c.args.at c.args.place c.index.result.now (within_view _ _ c.self.inside.lanes.items c.args.place c.self.view_is refl c.requires) (search rules) c.in-Some.id c.args.site c.in-Some.ensures.some.0 c.in-Some.ensures.some.1 c.admits-enabled.result (λ f callsite in_force at. c.admits-enabled.ensures.served c.self.inside.dispatch f callsite (own_serves _ _ c.self.inside.world.global (own_lane _ _ _ _ (parts_of c.self.inside) c.self.invariant c.args.place c.index.result.now (within_view _ _ c.self.inside.lanes.items c.args.place c.self.view_is refl c.requires) (search rules))) in_force at) t stands)

pub admits-enabled-requires-clause-in_world : goal.admits-enabled-requires-clause-in_world
admits-enabled-requires-clause-in_world c = own_there c.self.inside.world _ _ (own_lane _ _ _ _ (parts_of c.self.inside) c.self.invariant c.args.place c.index.result.now (within_view _ _ c.self.inside.lanes.items c.args.place c.self.view_is refl c.requires) (search rules)) c.self.invariant.there

pub admits-enabled-requires-clause-whole : goal.admits-enabled-requires-clause-whole
admits-enabled-requires-clause-whole c = has_own _ c.self.inside.world _ _ (own_lane _ _ _ _ (parts_of c.self.inside) c.self.invariant c.args.place c.index.result.now (within_view _ _ c.self.inside.lanes.items c.args.place c.self.view_is refl c.requires) (search rules)) c.self.invariant.whole
