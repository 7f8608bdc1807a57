-- The op is the one that was prepared.
use Rattle.std.proofs.Common.{subst, ◌∙◌}
use Rattle.otel_layer.proofs.Common.{OnRecord, ForRecord, all_events_effect, IsReadyOtel, step_from_prepared}
use Rattle.otel_layer.proofs.HookStepsLemmas.{op_is}
use Rattle.otel_layer.proofs.layer.hooks.OpenTelemetryLayerLayer.on_record.Goals as goal

pub returns : goal.returns
returns g c =
    let ready = subst (λ r. IsReadyOtel c.args.self.now (ForRecord c.args.id c.args._callsite.now c.args._values.now) r) c.in-PreparedOp.is c.requires.ready in
    step_from_prepared g.T.Tracer.does all_events_effect c.args.self.now.core (OnRecord c.args.id c.args.at c.args._callsite.now c.args._values.now) _ (op_is c.args.self.now.core _ c.args.id c.args.at _ _ (c.into_inner.ensures ∙ ready.0) c.put_op.ensures.core)
