-- Without activation the op says whether the span is known.
use Rattle.std.proofs.Common.{sym, ap, ◌∙◌, refl, None}
use Rattle.otel_layer.proofs.HookStepsLemmas.{enters_still, op_unknown, if_is, if_isnt}
use Rattle.otel_state.specs.declared.op.Op.TheVariants as ops
use Rattle.otel_layer.specs.Steps.{with_token}
use Rattle.otel_layer.proofs.layer.OpenTelemetryLayer.enter_if_known.Goals as goal

pub returns-then-put_op : goal.returns-then-put_op
returns-then-put_op g c =
    if_is _ _ _ (sym c.put_op.ensures.known ∙ c.if-put_op.true)
    (enters_still g.T.Tracer.does c.args.self.now.core c.add_token.new.self.core c.args.id c.args.at c.args.lane.now (sym (ap (λ s. s.core.settings.activation) c.self.view_is) ∙ c.if-self.false)
    (c.add_token.ensures ∙ ap (λ x. with_token (record { lane = c.args.lane.now.id; id = c.args.id; attached = None }) x) c.put_op.ensures.core))

pub returns-else-put_op : goal.returns-else-put_op
returns-else-put_op g c =
    let not = sym c.put_op.ensures.known ∙ c.if-put_op.false in
    if_isnt _ _ _ not (op_unknown c.args.self.now.core c.put_op.new.self.core c.args.id c.args.at ops.Enter not c.put_op.ensures.core, refl)
