use Rattle.trace_lines.proofs.Common.{escape_byte, refl}
use Rattle.trace_lines.proofs.texts.AddsLemmas.{then, retold}
use Rattle.trace_lines.proofs.write.record.LinkWriteItem.add_item.Goals as goal

pub returns : goal.returns
unfolding escape_byte
returns c =
    retold _ _ _ _ (then _ _ _ _ _ c.in_ok-add.ensures (then _ _ _ _ _ c.in_ok-add_array.ensures (then _ _ _ _ _ c.in_ok-add_id.ensures (then _ _ _ _ _ c.in_ok-add_long_id.ensures c.in_ok-add-2.ensures))))
    (rw (c.as_slice.ensures) refl)
