use Rattle.std.proofs.Common.{refl}
use Rattle.trace_lines.proofs.texts.AddsLemmas.{retold}
use Rattle.trace_lines.proofs.write.hex.add_long_id.Goals as goal

pub returns : goal.returns
returns c =
    retold _ _ _ _ (c.in_ok-add_plain.ensures)
    (rw c.digits_of_long-digits.ensures.value refl)
