use Rattle.trace_lines.proofs.Common.{line_of, record_text, refl}
use Rattle.trace_lines.proofs.texts.AddsLemmas.{then, retold}
use Rattle.trace_lines.proofs.write.add_record_line.Goals as goal

pub returns : goal.returns
unfolding record_text line_of
returns c = retold _ _ _ _ (then _ _ _ _ _ c.in_ok-add_record.ensures c.in_ok-add.ensures) refl
