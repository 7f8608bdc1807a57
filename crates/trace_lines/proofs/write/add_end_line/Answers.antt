use Rattle.trace_lines.proofs.Common.{end_text, line_of, refl}
use Rattle.trace_lines.proofs.texts.AddsLemmas.{then, retold}
use Rattle.trace_lines.proofs.write.add_end_line.Goals as goal

pub returns : goal.returns
unfolding end_text line_of
returns c = retold _ _ _ _ (then _ _ _ _ _ c.in_ok-add_end.ensures c.in_ok-add.ensures) refl
