use Rattle.std.proofs.Common.{refl, ◌∙◌}
use Rattle.trace_lines.proofs.texts.CutsLemmas.{behind_boundary, behind_part}
use Rattle.trace_lines.proofs.read.syntax.cut.behind_ascii.Goals as goal

pub range_from-requires : goal.range_from-requires
range_from-requires c = λ _. behind_boundary c.args.whole.now c.requires.0 c.args.rest.now c.requires.1 _ c.utf8.whole c.requires.3 c.requires.2 refl

pub returns : goal.returns
returns c = c.range_from.ensures.value ∙ behind_part c.args.whole.now c.requires.0 c.args.rest.now c.requires.1 _ c.requires.3 refl
