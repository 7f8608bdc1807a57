-- A handle that is exchanged.
use Rattle.std.proofs.Common.{rules, ◌≡◌, refl, ◌∙◌}
use Rattle.trace_base.specs.declared.span.Parent.TheVariants as parent
use Rattle.span_script.specs.declared.request.RequestParent.TheVariants as request_parent
use Rattle.span_script.specs.declared.request.Call.TheVariants as call
use Rattle.trace_pipeline.proofs.Common.{within_view, has_own, own_lane, own_there, make_may, refuses_unknown, by_view, by_view_refused, serves_refusal, refuses_in_use, serves_exchanged, keeps_exchanged, set_none, parts_of}
use Rattle.trace_pipeline.proofs.NamedHandlesLemmas.{named_there}
use Rattle.trace_pipeline.proofs.pipeline.Pipeline.or_current.Goals as goal

pub invariant_of-self-in_default : goal.invariant_of-self-in_default
invariant_of-self-in_default c =
    let same : c.reserve.new.self.items ≡ c.self.inside.handles.items = (search rules) in
    rw (c.take.ensures.spent ∙ set_none c.reserve.new.self.items c.args.handle (search rules) ∙ same) c.self.invariant

pub returns-in_default : goal.returns-in_default
returns-in_default c =
    let same : c.reserve.new.self.items ≡ c.self.inside.handles.items = (search rules) in
    serves_refusal _ _ _ _ _ (λ t stands. refuses_unknown _ _ c.self.view_is c.self.inside.handles.items refl c.args.handle (search rules) t stands.fits _) (rw (c.take.ensures.spent ∙ set_none c.reserve.new.self.items c.args.handle (search rules) ∙ same) c.self.view_is) refl

pub returns-then-is_borrowed : goal.returns-then-is_borrowed
returns-then-is_borrowed c =
    let named = named_there _ _ _ _ (parts_of c.self.inside) c.self.invariant c.args.handle (search rules) in
    serves_refusal _ _ _ _ _ (λ t stands. by_view_refused c.args.at c.args.place (call.OrCurrent c.args.handle) _ _ _ c.self.view_is (λ t stands. refuses_in_use _ c.self.inside.handles.items refl c.args.handle named.0 named.1 (search rules) c.args.at c.args.place t stands) t stands) (search rules) refl

pub invariant_of-self-2 : goal.invariant_of-self-2
invariant_of-self-2 c = keeps_exchanged _ _ _ _ _ (parts_of c.self.inside) c.or_current-span.new.world _ c.calls.ensures c.push_reserved.new.self.items c.args.at c.args.place c.len-number.result (search rules)
    c.index-on.result.now (within_view _ _ c.self.inside.lanes.items c.args.place c.self.view_is refl c.requires) (search rules) c.self.invariant c.args.handle c.in-Some.span c.or_current-span.result (search rules) (search rules) c.is_some-enabled.result (search rules) (search rules) c.or_current-span.ensures.enabled c.or_current-span.ensures.disabled

pub returns : goal.returns
returns c = by_view c.args.at c.args.place (call.OrCurrent c.args.handle) _ _ _ _ c.self.view_is (λ t stands. serves_exchanged _ _ _ _ _ (parts_of c.self.inside) c.or_current-span.new.world _ c.calls.ensures c.push_reserved.new.self.items c.args.at c.args.place c.len-number.result (search rules)
    c.index-on.result.now (within_view _ _ c.self.inside.lanes.items c.args.place c.self.view_is refl c.requires) (search rules) c.self.invariant c.args.handle c.in-Some.span c.or_current-span.result (search rules) (search rules) c.is_some-enabled.result (search rules) (search rules) c.or_current-span.ensures.enabled c.or_current-span.ensures.disabled t stands)

pub or_current-span-requires-clause-own : goal.or_current-span-requires-clause-own
or_current-span-requires-clause-own c = own_there c.self.inside.world _ _ (own_lane _ _ _ _ (parts_of c.self.inside) c.self.invariant c.args.place c.index-on.result.now (within_view _ _ c.self.inside.lanes.items c.args.place c.self.view_is refl c.requires) (search rules)) c.self.invariant.there

pub or_current-span-requires-clause-whole : goal.or_current-span-requires-clause-whole
or_current-span-requires-clause-whole c = has_own _ c.self.inside.world _ _ (own_lane _ _ _ _ (parts_of c.self.inside) c.self.invariant c.args.place c.index-on.result.now (within_view _ _ c.self.inside.lanes.items c.args.place c.self.view_is refl c.requires) (search rules)) c.self.invariant.whole

pub or_current-span-requires-clause-few_holds : goal.or_current-span-requires-clause-few_holds
or_current-span-requires-clause-few_holds c = has_own _ c.self.inside.world _ _ (own_lane _ _ _ _ (parts_of c.self.inside) c.self.invariant c.args.place c.index-on.result.now (within_view _ _ c.self.inside.lanes.items c.args.place c.self.view_is refl c.requires) (search rules)) (make_may _ _ _ _ (parts_of c.self.inside) c.self.invariant request_parent.Contextual parent.Current refl c.index-on.result.now.id (search rules) (search rules)).few_holds
