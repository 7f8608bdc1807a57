use Rattle.trace_lines.proofs.Common.{line_of, measure_text, refl}
use Rattle.trace_lines.proofs.texts.AddsLemmas.{then, retold}
use Rattle.trace_lines.proofs.write.add_measure_line.Goals as goal

pub returns : goal.returns
unfolding measure_text line_of
returns c = retold _ _ _ _ (then _ _ _ _ _ c.in_ok-add_measure.ensures c.in_ok-add.ensures) refl
