-- What is told is told of live spans.
use Rattle.span_laws.proofs.levels.LiveSpansLemmas.{part_answer}
use Rattle.span_laws.proofs.live.answers.Goals as goal

pub returns : goal.returns
returns c = λ x call r t says keeps. part_answer x r call t says keeps
