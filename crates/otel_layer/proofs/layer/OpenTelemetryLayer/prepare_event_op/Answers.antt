-- The op is the event's, by settings that a reservation leaves.
use Rattle.std.proofs.Common.{◌≡◌, ℕ, Option, ap, subst, sym, ◌∙◌, IfOk}
use Rattle.otel_layer.proofs.Common.{ForEvent, Op, LayerSettings, event_op, IsReadyOtel, IsReadyOp}
use Rattle.otel_layer.proofs.layer.OpenTelemetryLayer.prepare_event_op.Goals as goal

pub returns-in_ok-op-in-Some-clause-ready : goal.returns-in_ok-op-in-Some-clause-ready
returns-in_ok-op-in-Some-clause-ready g c =
    let s = c.reserve_op.new.self in
    let callsite = c.args.callsite.now in
    let values = c.args.values.now in
    let settings : c.self.inside.settings ≡ s.core.settings = ap (λ t. t.core.settings) c.self.view_is ∙ sym (ap (λ t. t.settings) c.reserve_op.ensures.core) in
    let span_data = c.in_ok-op-in-Some.ensures ∙ ap (λ (t : LayerSettings). event_op callsite values t 0) settings in
    subst (λ (o : Option ℕ). IfOk c.reserve_op.result (IsReadyOtel s (ForEvent o callsite values))) (sym c.in-Some.is)
    (subst (λ (o : Op). IfOk c.reserve_op.result (IsReadyOp s c.in-Some.id o)) span_data c.reserve_op.ensures.ready)
