use Rattle.trace_lines.proofs.Common.{escape_byte, refl}
use Rattle.trace_lines.proofs.texts.AddsLemmas.{then, retold}
use Rattle.trace_lines.proofs.write.record.OtelEventWriteItem.add_item.Goals as goal

pub returns : goal.returns
unfolding escape_byte
returns c =
    retold _ _ _ _ (then _ _ _ _ _ c.in_ok-add.ensures (then _ _ _ _ _ c.in_ok-add_array.ensures (then _ _ _ _ _ c.in_ok-add_text.ensures (then _ _ _ _ _ c.in_ok-add_number.ensures c.in_ok-add-2.ensures))))
    (rw (c.as_slice.ensures, c.as_str.ensures) refl)
