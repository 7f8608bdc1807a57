use Rattle.std.proofs.Common.{refl}
use Rattle.trace_lines.proofs.texts.AddsLemmas.{then, retold}
use Rattle.thread_run.proofs.text.add_entry.Goals as goal

pub returns : goal.returns
returns c =
    retold _ _ _ _ (then _ _ _ _ _ c.in_ok-add.ensures (then _ _ _ _ _ c.in_ok-add_number.ensures (then _ _ _ _ _ c.in_ok-add_deed.ensures c.in_ok-add-2.ensures))) refl
