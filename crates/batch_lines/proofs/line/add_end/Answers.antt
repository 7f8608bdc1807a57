-- The object, and a line feed.
use Rattle.std.proofs.Common.{refl}
use Rattle.trace_lines.specs.reading.Object.{line_of}
use Rattle.trace_lines.proofs.texts.AddsLemmas.{then, retold}
use Rattle.batch_lines.specs.Texts.{batches_end_text}
use Rattle.batch_lines.proofs.line.add_end.Goals as goal

pub returns : goal.returns
unfolding batches_end_text line_of
returns c = retold _ _ _ _ (then _ _ _ _ _ c.in_ok-add_counts.ensures c.in_ok-add.ensures) refl
