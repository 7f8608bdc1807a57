use Rattle.std.proofs.Common.{refl}
use Rattle.trace_lines.proofs.texts.AddsLemmas.{retold}
use Rattle.trace_lines.proofs.write.hex.add_id.Goals as goal

pub returns : goal.returns
returns c =
    retold _ _ _ _ (c.in_ok-add_plain.ensures)
    (rw c.digits_of-digits.ensures.value refl)
