use Rattle.trace_eager.proofs.AnswersLemmas.{text_of_answers}
use Rattle.trace_eager.proofs.laws.texts.Goals as goal

pub returns : goal.returns
returns c = text_of_answers
