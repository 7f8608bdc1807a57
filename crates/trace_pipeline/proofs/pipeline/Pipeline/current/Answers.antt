-- The current span.
use Rattle.std.proofs.Common.{rules, refl}
use Rattle.trace_base.specs.declared.span.Parent.TheVariants as parent
use Rattle.span_script.specs.declared.request.RequestParent.TheVariants as request_parent
use Rattle.span_script.specs.declared.request.Call.TheVariants as call
use Rattle.trace_pipeline.proofs.Common.{within_view, has_own, own_lane, own_there, make_may, by_view, serves_current, keeps_current, parts_of}
use Rattle.trace_pipeline.proofs.pipeline.Pipeline.current.Goals as goal

pub invariant_of-self-2 : goal.invariant_of-self-2
invariant_of-self-2 c = keeps_current _ _ _ _ _ (parts_of c.self.inside) c.current-span.new.world _ c.calls.ensures c.push_reserved.new.self.items c.args.at c.args.place c.len-number.result (search rules)
    c.index-on.result.now (within_view _ _ c.self.inside.lanes.items c.args.place c.self.view_is refl c.requires) (search rules) c.self.invariant c.current-span.result c.is_some-enabled.result (search rules) (search rules) c.current-span.ensures.value

pub returns : goal.returns
returns c = by_view c.args.at c.args.place call.Current _ _ _ _ c.self.view_is (λ t stands. serves_current _ _ _ _ _ (parts_of c.self.inside) c.current-span.new.world _ c.calls.ensures c.push_reserved.new.self.items c.args.at c.args.place c.len-number.result (search rules)
    c.index-on.result.now (within_view _ _ c.self.inside.lanes.items c.args.place c.self.view_is refl c.requires) (search rules) c.self.invariant c.current-span.result c.is_some-enabled.result (search rules) (search rules) c.current-span.ensures.value t stands)

pub current-span-requires-clause-own : goal.current-span-requires-clause-own
current-span-requires-clause-own c = own_there c.self.inside.world _ _ (own_lane _ _ _ _ (parts_of c.self.inside) c.self.invariant c.args.place c.index-on.result.now (within_view _ _ c.self.inside.lanes.items c.args.place c.self.view_is refl c.requires) (search rules)) c.self.invariant.there

pub current-span-requires-clause-whole : goal.current-span-requires-clause-whole
current-span-requires-clause-whole c = has_own _ c.self.inside.world _ _ (own_lane _ _ _ _ (parts_of c.self.inside) c.self.invariant c.args.place c.index-on.result.now (within_view _ _ c.self.inside.lanes.items c.args.place c.self.view_is refl c.requires) (search rules)) c.self.invariant.whole

pub current-span-requires-clause-few_holds : goal.current-span-requires-clause-few_holds
current-span-requires-clause-few_holds c = has_own _ c.self.inside.world _ _ (own_lane _ _ _ _ (parts_of c.self.inside) c.self.invariant c.args.place c.index-on.result.now (within_view _ _ c.self.inside.lanes.items c.args.place c.self.view_is refl c.requires) (search rules)) (make_may _ _ _ _ (parts_of c.self.inside) c.self.invariant request_parent.Contextual parent.Current refl c.index-on.result.now.id (search rules) (search rules)).few_holds
