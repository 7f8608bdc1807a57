use Rattle.std.proofs.Common.{refl}
use Rattle.trace_lines.proofs.texts.AddsLemmas.{then, retold}
use Rattle.trace_lines.proofs.write.attribute.KeyValueWriteItem.add_item.Goals as goal

pub returns : goal.returns
returns c =
    retold _ _ _ _ (then _ _ _ _ _ c.in_ok-add.ensures (then _ _ _ _ _ c.in_ok-add_text.ensures (then _ _ _ _ _ c.in_ok-add_value.ensures c.in_ok-add-2.ensures)))
    (rw (c.as_str.ensures) refl)
