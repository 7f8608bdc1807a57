-- The op is the one that was prepared, at the hook's moment.
use Rattle.std.proofs.Common.{ap, subst, sym, ◌∙◌, refl, Some}
use Rattle.otel_layer.proofs.Common.{OnEvent, ForEvent, event_op, Step, all_events_effect, IsReadyOtel, with_moment, step_from_prepared}
use Rattle.otel_layer.proofs.HookStepsLemmas.{op_is, room_retimed}
use Rattle.otel_layer.proofs.layer.hooks.OpenTelemetryLayerLayer.on_event.Goals as goal

pub put_op-requires : goal.put_op-requires
put_op-requires g c =
    let s = c.args.self.now in
    let ready = subst (λ r. IsReadyOtel s (ForEvent (Some c.in-Some.id) c.args._callsite.now c.args._values.now) r) c.in-PreparedOp.is (subst (λ o. IsReadyOtel s (ForEvent o c.args._callsite.now c.args._values.now) c.args.prepared) c.in-Some.is c.requires.ready) in
    room_retimed c.in-Some.id c.args.at c.in-PreparedOp.op.value c.set_moment.new.op s.rooms (c.set_moment.ensures ∙ ap (with_moment c.args.at) c.into_inner-op.ensures) ready.1

pub returns-in-PreparedOp : goal.returns-in-PreparedOp
returns-in-PreparedOp g c =
    let s = c.args.self.now in
    let callsite = c.args._callsite.now in
    let values = c.args._values.now in
    let ready = subst (λ r. IsReadyOtel s (ForEvent (Some c.in-Some.id) callsite values) r) c.in-PreparedOp.is (subst (λ o. IsReadyOtel s (ForEvent o callsite values) c.args.prepared) c.in-Some.is c.requires.ready) in
    let op = c.set_moment.ensures ∙ ap (with_moment c.args.at) (c.into_inner-op.ensures ∙ ready.0) in
    step_from_prepared g.T.Tracer.does all_events_effect s.core (OnEvent c.args.reached c.args._lane.now c.args.at callsite values) _
    (subst (λ o. Step g.T.Tracer.does all_events_effect s.core (OnEvent o c.args._lane.now c.args.at callsite values) c.put_op.new.self.core) (sym c.in-Some.is)
    (op_is s.core _ c.in-Some.id c.args.at _ (event_op callsite values s.core.settings c.args.at) op c.put_op.ensures.core))

pub returns-in-None : goal.returns-in-None
returns-in-None g c =
    let s = c.args.self.now in
    step_from_prepared g.T.Tracer.does all_events_effect s.core (OnEvent c.args.reached c.args._lane.now c.args.at c.args._callsite.now c.args._values.now) _
    (subst (λ o. Step g.T.Tracer.does all_events_effect s.core (OnEvent o c.args._lane.now c.args.at c.args._callsite.now c.args._values.now) s.core) (sym c.in-None.is) refl)
