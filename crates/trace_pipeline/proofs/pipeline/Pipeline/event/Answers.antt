-- The event.
use Rattle.std.proofs.Common.{rules, ◌≡◌, Err, refl}
use Rattle.span_script.specs.declared.request.Call.TheVariants as call
use Rattle.span_script.proofs.events.EventsLemmas.{serves_told, keeps_told}
use Rattle.trace_pipeline.proofs.Common.{stack_interest, stack_shows, is_current, within_view, by_view, by_view_error, refuses_event, made_alike, tell_live, parts_of}
use Rattle.trace_pipeline.proofs.pipeline.Pipeline.event.Goals as goal

pub tell_at-requires-clause-live : goal.tell_at-requires-clause-live
tell_at-requires-clause-live c = tell_live _ _ _ _ (parts_of c.self.inside) c.self.invariant c.args.parent _ c.parent_for-parent.ensures

pub invariant_of-self : goal.invariant_of-self
invariant_of-self c = (made_alike _ _ _ _ _ _ c.same.ensures (parts_of c.self.inside) c.tell_at.new.world c.self.inside.handles.items refl c.in_err-enabled.ensures.leaves).1 c.self.invariant

pub returns-in_err-enabled : goal.returns-in_err-enabled
returns-in_err-enabled c =
    let given = c.in_err-enabled.field-0.0 in
    let is : c.from_residual.result ≡ Err given = (search rules) in
    rw is (by_view_error c.args.at c.args.place (call.Event c.args.site c.args.parent c.args.fields) _ given _ _ c.self.view_is refl
    (λ t stands memory. refuses_event _ t stands.fits c.args.at c.args.place c.args.site c.args.parent c.parent_for-parent.result c.parent_for-parent.ensures c.args.fields given (c.in_err-enabled.ensures.refused memory))
    (made_alike _ _ _ _ _ _ c.same.ensures (parts_of c.self.inside) c.tell_at.new.world c.self.inside.handles.items refl c.in_err-enabled.ensures.leaves).0)

pub invariant_of-self-2 : goal.invariant_of-self-2
invariant_of-self-2 c = keeps_told _ _ _ _ _ (parts_of c.self.inside) c.tell_at.new.world _ c.calls.ensures c.args.at c.args.place
    c.args.parent c.parent_for-parent.result c.parent_for-parent.ensures c.args.site c.args.fields c.index-on.result.now (within_view _ _ c.self.inside.lanes.items c.args.place c.self.view_is refl c.requires) (search rules) c.in_ok-enabled.enabled
    (λ f callsite in_force there. c.gate_answers_by_filter.ensures c.self.inside.world c.self.inside.dispatch c.index-on.result.now.id c.args.site c.in_ok-enabled.enabled c.in_ok-enabled.ensures.gate (is_current _ _ (parts_of c.self.inside) _ _ stack_interest stack_shows c.self.invariant) c.self.invariant.whole f callsite in_force there) c.in_ok-enabled.ensures.ok c.new_filter_admits_by_statics.ensures c.self.invariant

pub returns : goal.returns
returns c = by_view c.args.at c.args.place (call.Event c.args.site c.args.parent c.args.fields) _ _ _ _ c.self.view_is (λ t stands. serves_told _ _ _ _ _ (parts_of c.self.inside) c.tell_at.new.world _ c.calls.ensures c.args.at c.args.place
    c.args.parent c.parent_for-parent.result c.parent_for-parent.ensures c.args.site c.args.fields c.index-on.result.now (within_view _ _ c.self.inside.lanes.items c.args.place c.self.view_is refl c.requires) (search rules) c.in_ok-enabled.enabled
    (λ f callsite in_force there. c.gate_answers_by_filter.ensures c.self.inside.world c.self.inside.dispatch c.index-on.result.now.id c.args.site c.in_ok-enabled.enabled c.in_ok-enabled.ensures.gate (is_current _ _ (parts_of c.self.inside) _ _ stack_interest stack_shows c.self.invariant) c.self.invariant.whole f callsite in_force there) c.in_ok-enabled.ensures.ok c.new_filter_admits_by_statics.ensures t stands)
