-- The op is what the fields write, by settings that a reservation leaves.
use Rattle.std.proofs.Common.{◌≡◌, ap, subst, sym, ◌∙◌, IfOk}
use Rattle.otel_layer.proofs.Common.{Op, LayerSettings, IsReadyOp}
use Rattle.otel_state.specs.declared.op.Op.TheVariants as ops
use Rattle.otel_state.specs.fields.SpanFields.{span_update}
use Rattle.otel_layer.proofs.layer.OpenTelemetryLayer.prepare_update.Goals as goal

pub returns-clause-ready : goal.returns-clause-ready
returns-clause-ready g c =
    let s = c.reserve_op.new.self in
    let settings : c.self.inside.settings ≡ s.core.settings = ap (λ t. t.core.settings) c.self.view_is ∙ sym (ap (λ t. t.settings) c.reserve_op.ensures.core) in
    let written = c.in_ok-update.ensures ∙ ap (λ (t : LayerSettings). span_update c.args.callsite.now c.args.values.now t) settings in
    subst (λ (o : Op). IfOk c.reserve_op.result (IsReadyOp s c.args.id o)) (ap (λ u. ops.Update u) written) c.reserve_op.ensures.ready
