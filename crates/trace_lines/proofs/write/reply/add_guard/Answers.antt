use Rattle.trace_lines.proofs.Common.{escape_byte, refl}
use Rattle.trace_lines.proofs.texts.AddsLemmas.{then, retold}
use Rattle.trace_lines.proofs.write.reply.add_guard.Goals as goal

pub returns : goal.returns
unfolding escape_byte
returns c =
    retold _ _ _ _ (then _ _ _ _ _ c.in_ok-add_number.ensures (then _ _ _ _ _ c.in_ok-add_number-2.ensures c.in_ok-add.ensures))
    (refl)
