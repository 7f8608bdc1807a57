use Rattle.std.proofs.Common.{refl, ◌∙◌}
use Rattle.trace_lines.proofs.texts.CutsLemmas.{between_part, between_start}
use Rattle.trace_lines.proofs.read.syntax.cut.between.Goals as goal

pub range-requires-clause-start_boundary : goal.range-requires-clause-start_boundary
range-requires-clause-start_boundary c = λ _. between_start c.args.whole.now c.requires.0 c.args.words.now c.args.rest.now _ c.utf8.whole c.requires.1 refl

pub returns : goal.returns
returns c = c.range.ensures.value ∙ between_part c.args.whole.now c.requires.0 c.args.words.now c.args.rest.now _ _ c.requires.1 refl refl
