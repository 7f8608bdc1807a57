use Rattle.std.proofs.Common.{Err, arith, sym, ap, length, ◌∙◌}
use Rattle.span_script.specs.declared.reply.What.TheVariants.{Field}
use Rattle.span_script.proofs.fields.FieldsLemmas.{all_given, not_given}
use Rattle.thread_lines.specs.Steps.{need}
use Rattle.thread_lines.proofs.worker_ops.all_values.Goals as goal

pub returns-then-as_slice-given : goal.returns-then-as_slice-given
returns-then-as_slice-given c =
    let given = ap length c.as_slice-given.ensures in
    let values = ap length c.as_slice.ensures in
    ap (need Field) (sym (not_given c.args.callsite.now c.args.fields c.in_ok-values.values c.in_ok-values.ensures (omega (arith, given, values, c.if-as_slice-given.true))))
    ∙ ap Err (sym c.unknown_name.ensures)

pub returns : goal.returns
returns c =
    let given = ap length c.as_slice-given.ensures in
    let values = ap length c.as_slice.ensures in
    ap (need Field) (sym (all_given c.args.callsite.now c.args.fields c.in_ok-values.values c.in_ok-values.ensures (λ fewer. omega (arith, given, values, fewer, c.if-as_slice-given.false))))
