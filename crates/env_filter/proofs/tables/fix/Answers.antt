-- One field more is fixed.
use Rattle.std.proofs.Common.{arith}
use Rattle.env_filter.proofs.kept.FieldsLemmas.{fixed_more}
use Rattle.env_filter.proofs.tables.fix.Goals as goal

pub loop-at-preserved : goal.loop-at-preserved
loop-at-preserved c =
    fixed_more c.args.fields.now.items c.loop-at.fields.items c.loop-at.at c.fix_field.new.field c.index_mut.result.now c.loop-at.invariant (omega (arith, c.loop-at-test.true, c.len-at-end.ensures)) c.index_mut.ensures.value c.fix_field.ensures
