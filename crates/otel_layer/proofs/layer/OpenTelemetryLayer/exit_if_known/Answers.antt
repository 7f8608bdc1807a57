-- The op says whether the span is known.
use Rattle.std.proofs.Common.{sym, subst, ◌∙◌, ◌<◌, refl}
use Rattle.otel_layer.proofs.Common.{AreAttached}
use Rattle.otel_layer.proofs.HookStepsLemmas.{exits, op_unknown, if_is, if_isnt}
use Rattle.otel_state.specs.declared.op.Op.TheVariants as ops
use Rattle.otel_layer.specs.Core.{open_entry_count, kept_in}
use Rattle.otel_layer.proofs.layer.OpenTelemetryLayer.exit_if_known.Goals as goal

pub take_entry_off-requires-clause-still : goal.take_entry_off-requires-clause-still
take_entry_off-requires-clause-still g c = subst (λ x. AreAttached (kept_in x) c.args.lane.now) (sym c.put_op.ensures.core) (c.requires.still (sym c.put_op.ensures.known ∙ c.if-put_op.true))

pub take_entry_off-requires-clause-open : goal.take_entry_off-requires-clause-open
take_entry_off-requires-clause-open g c = subst (λ x. 0 < open_entry_count x.tokens c.args.lane.now.id c.args.id) (sym c.put_op.ensures.core) (c.requires.open (sym c.put_op.ensures.known ∙ c.if-put_op.true))

pub returns-then-put_op : goal.returns-then-put_op
returns-then-put_op g c =
    if_is _ _ _ (sym c.put_op.ensures.known ∙ c.if-put_op.true)
    (exits c.args.self.now.core c.put_op.new.self.core c.take_entry_off.new.self.core c.args.id c.args.at c.args.lane.now c.take_entry_off.new.lane c.put_op.ensures.core c.take_entry_off.ensures)

pub returns-else-put_op : goal.returns-else-put_op
returns-else-put_op g c =
    let not = sym c.put_op.ensures.known ∙ c.if-put_op.false in
    if_isnt _ _ _ not (op_unknown c.args.self.now.core c.put_op.new.self.core c.args.id c.args.at ops.Exit not c.put_op.ensures.core, refl)
