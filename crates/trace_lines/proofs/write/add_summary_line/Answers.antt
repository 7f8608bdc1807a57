use Rattle.trace_lines.proofs.Common.{line_of, refl, summary_text}
use Rattle.trace_lines.proofs.texts.AddsLemmas.{then, retold}
use Rattle.trace_lines.proofs.write.add_summary_line.Goals as goal

pub returns : goal.returns
unfolding summary_text line_of
returns c = retold _ _ _ _ (then _ _ _ _ _ c.in_ok-add_summary.ensures c.in_ok-add.ensures) refl
