-- The pieces, one after another, are the object of the end line.
use Rattle.std.proofs.Common.{refl}
use Rattle.json.specs.Print.{escape_byte}
use Rattle.trace_lines.proofs.texts.AddsLemmas.{then, retold}
use Rattle.batch_lines.proofs.line.add_counts.Goals as goal

pub returns : goal.returns
unfolding escape_byte
returns c =
    retold _ _ _ _ (then _ _ _ _ _ c.in_ok-add_number.ensures (then _ _ _ _ _ c.in_ok-add_number-2.ensures (then _ _ _ _ _ c.in_ok-add_number-3.ensures c.in_ok-add.ensures)))
    (refl)
