-- The making.
use Rattle.std.proofs.Common.{rules, ◌≡◌, Err, refl}
use Rattle.span_script.specs.declared.request.Call.TheVariants as call
use Rattle.trace_pipeline.proofs.Common.{stack_interest, stack_shows, is_current, within_view, by_view, by_view_error, refuses_new, make_may_named, made_alike, serves_new, keeps_new, parts_of}
use Rattle.trace_pipeline.proofs.pipeline.Pipeline.make.Goals as goal

pub make_at-requires-clause-may : goal.make_at-requires-clause-may
make_at-requires-clause-may c = make_may_named _ _ _ _ (parts_of c.self.inside) c.self.invariant c.args.parent _ c.parent_for-parent.ensures _ (search rules) (search rules)

pub invariant_of-self-in_err-span : goal.invariant_of-self-in_err-span
invariant_of-self-in_err-span c = (made_alike _ _ _ _ _ _ c.same.ensures (parts_of c.self.inside) c.make_at.new.world c.reserve.new.self.items (search rules) c.in_err-span.ensures.leaves).1 c.self.invariant

pub returns-in_err-span : goal.returns-in_err-span
returns-in_err-span c =
    let given = c.in_err-span.field-0.0 in
    let is : c.from_residual-in_err-span.result ≡ Err given = (search rules) in
    rw is (by_view_error c.args.at c.args.place (call.New c.args.site c.args.parent c.args.fields) _ given _ _ c.self.view_is refl
    (λ t stands memory. refuses_new _ t stands.fits c.args.at c.args.place c.args.site c.args.parent c.parent_for-parent.result c.parent_for-parent.ensures c.args.fields given (c.in_err-span.ensures.refused memory))
    (made_alike _ _ _ _ _ _ c.same.ensures (parts_of c.self.inside) c.make_at.new.world c.reserve.new.self.items (search rules) c.in_err-span.ensures.leaves).0)

pub invariant_of-self-2 : goal.invariant_of-self-2
invariant_of-self-2 c = keeps_new _ _ _ _ _ (parts_of c.self.inside) c.make_at.new.world _ c.calls.ensures c.push_reserved.new.self.items c.args.at c.args.place c.len-number.result (search rules) c.self.invariant
    c.args.parent c.parent_for-parent.result c.parent_for-parent.ensures c.args.site c.args.fields (c.in_ok-span.span, c.in_ok-span.enabled) (search rules) c.index-on.result.now (within_view _ _ c.self.inside.lanes.items c.args.place c.self.view_is refl c.requires) (search rules)
    (λ f callsite in_force there. c.gate_answers_by_filter.ensures c.self.inside.world c.self.inside.dispatch c.index-on.result.now.id c.args.site c.in_ok-span.enabled c.in_ok-span.ensures.gate (is_current _ _ (parts_of c.self.inside) _ _ stack_interest stack_shows c.self.invariant) c.self.invariant.whole f callsite in_force there) c.in_ok-span.ensures.ok

pub returns : goal.returns
returns c = by_view c.args.at c.args.place (call.New c.args.site c.args.parent c.args.fields) _ _ _ _ c.self.view_is (λ t stands. serves_new _ _ _ _ _ (parts_of c.self.inside) c.make_at.new.world _ c.calls.ensures c.push_reserved.new.self.items c.args.at c.args.place c.len-number.result (search rules) c.self.invariant
    c.args.parent c.parent_for-parent.result c.parent_for-parent.ensures c.args.site c.args.fields (c.in_ok-span.span, c.in_ok-span.enabled) (search rules) c.index-on.result.now (within_view _ _ c.self.inside.lanes.items c.args.place c.self.view_is refl c.requires) (search rules)
    (λ f callsite in_force there. c.gate_answers_by_filter.ensures c.self.inside.world c.self.inside.dispatch c.index-on.result.now.id c.args.site c.in_ok-span.enabled c.in_ok-span.ensures.gate (is_current _ _ (parts_of c.self.inside) _ _ stack_interest stack_shows c.self.invariant) c.self.invariant.whole f callsite in_force there) c.in_ok-span.ensures.ok t stands)
