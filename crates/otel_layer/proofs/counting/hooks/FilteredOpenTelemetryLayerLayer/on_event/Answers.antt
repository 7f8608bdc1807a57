-- The op is the one that was prepared, at the hook's moment. Without a filter the layer inside is told.
use Rattle.std.proofs.Common.{ap, subst, sym, ◌∙◌, refl, Some}
use Rattle.otel_layer.proofs.Common.{OnEvent, ForEvent, event_op, counted_events_effect, Step, DoesHook, IsReadyOtel, with_moment, step_from_prepared}
use Rattle.otel_layer.proofs.HookStepsLemmas.{room_retimed}
use Rattle.otel_layer.proofs.CountedEventsLemmas.{counted_is}
use Rattle.otel_layer.specs.Counting.{events_effect}
use Rattle.otel_layer.proofs.counting.hooks.FilteredOpenTelemetryLayerLayer.on_event.Goals as goal

pub count_op-requires : goal.count_op-requires
count_op-requires g c =
    let s = c.args.self.now.inner in
    let ready = subst (λ r. IsReadyOtel s (ForEvent (Some c.in-Some-reached.id) c.args.callsite.now c.args.values.now) r) c.in-PreparedOp.is (subst (λ o. IsReadyOtel s (ForEvent o c.args.callsite.now c.args.values.now) c.args.prepared) c.in-Some-reached.is c.requires.ready) in
    room_retimed c.in-Some-reached.id c.args.at c.in-PreparedOp.op.value c.set_moment.new.op s.rooms (c.set_moment.ensures ∙ ap (with_moment c.args.at) c.into_inner-op.ensures) ready.1

pub returns-in-PreparedOp : goal.returns-in-PreparedOp
returns-in-PreparedOp g c =
    let s = c.args.self.now.inner in
    let callsite = c.args.callsite.now in
    let values = c.args.values.now in
    let events = counted_events_effect (g.F.Filter.enables c.in-Some.filter) in
    let ready = subst (λ r. IsReadyOtel s (ForEvent (Some c.in-Some-reached.id) callsite values) r) c.in-PreparedOp.is (subst (λ o. IsReadyOtel s (ForEvent o callsite values) c.args.prepared) c.in-Some-reached.is c.requires.ready) in
    let op = c.set_moment.ensures ∙ ap (with_moment c.args.at) (c.into_inner-op.ensures ∙ ready.0) in (
      subst (λ f. DoesHook g.T.Tracer.does (events_effect g.F.Filter.enables f) s.core (OnEvent c.args.reached c.args.lane.now c.args.at callsite values) c.count_op.new.self.core) (sym c.in-Some.is)
          (step_from_prepared g.T.Tracer.does events s.core (OnEvent c.args.reached c.args.lane.now c.args.at callsite values) _
          (subst (λ o. Step g.T.Tracer.does events s.core (OnEvent o c.args.lane.now c.args.at callsite values) c.count_op.new.self.core) (sym c.in-Some-reached.is)
          (counted_is s.core _ c.in-Some-reached.id c.args.at _ (event_op callsite values s.core.settings c.args.at) _ _ op c.enabled-is_taken.ensures c.count_op.ensures))),
      refl,
    )

pub returns-in-None : goal.returns-in-None
returns-in-None g c =
    let s = c.args.self.now.inner in
    let events = counted_events_effect (g.F.Filter.enables c.in-Some.filter) in (
      subst (λ f. DoesHook g.T.Tracer.does (events_effect g.F.Filter.enables f) s.core (OnEvent c.args.reached c.args.lane.now c.args.at c.args.callsite.now c.args.values.now) s.core) (sym c.in-Some.is)
          (step_from_prepared g.T.Tracer.does events s.core (OnEvent c.args.reached c.args.lane.now c.args.at c.args.callsite.now c.args.values.now) _
          (subst (λ o. Step g.T.Tracer.does events s.core (OnEvent o c.args.lane.now c.args.at c.args.callsite.now c.args.values.now) s.core) (sym c.in-None.is) refl)),
      refl,
    )

pub returns-in_default : goal.returns-in_default
returns-in_default g c = (
  subst (λ f. DoesHook g.T.Tracer.does (events_effect g.F.Filter.enables f) c.args.self.now.inner.core (OnEvent c.args.reached c.args.lane.now c.args.at c.args.callsite.now c.args.values.now) c.on_event.new.self.core) (sym c.in_default.is) c.on_event.ensures,
  refl,
)
