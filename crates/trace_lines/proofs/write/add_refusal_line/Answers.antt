use Rattle.trace_lines.proofs.Common.{line_of, refl, refusal_text}
use Rattle.trace_lines.proofs.texts.AddsLemmas.{then, retold}
use Rattle.trace_lines.proofs.write.add_refusal_line.Goals as goal

pub returns : goal.returns
unfolding refusal_text line_of
returns c = retold _ _ _ _ (then _ _ _ _ _ c.in_ok-add_refusal.ensures c.in_ok-add.ensures) refl
