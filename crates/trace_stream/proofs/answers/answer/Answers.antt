use Rattle.std.proofs.Common.{◌++◌, subst, IfErr}
use Rattle.trace_stream.proofs.Common.{HasRefusalLine, AnswersLine}
use Rattle.trace_stream.proofs.AnswersLemmas.{unserved, answered, put_behind}
use Rattle.trace_stream.proofs.answers.answer.Goals as goal

pub refuse-requires : goal.refuse-requires
refuse-requires c = subst (λ r. IfErr r HasRefusalLine) c.in-Err.is c.in_ok-answered.ensures.told

pub returns-in_ok-answer-in-Ok : goal.returns-in_ok-answer-in-Ok
returns-in_ok-answer-in-Ok c put before count runs next other =
    answered c.args.signal put before count c.args.lines c.args.pipeline.now c.answer_line.new.pipeline c.answer.new.pipeline c.args.written.now c.answer.new.self c.args.line.now
    c.in-Ok.answered runs next other
    (subst (AnswersLine c.args.line.now runs.history c.args.pipeline.now c.answer_line.new.pipeline) c.in-Ok.is (c.in_ok-answered.ensures.answers runs.history runs.stands))
    c.in_ok-answer-in-Ok.ensures

pub returns-in_ok-refuse-in-Err : goal.returns-in_ok-refuse-in-Err
returns-in_ok-refuse-in-Err c put before count runs next other =
    unserved c.args.signal before count c.args.lines c.args.pipeline.now (put ++ c.args.written.now.text.items) c.args.written.now.count c.args.line.now _ c.in-Err.told runs next other
    (subst (AnswersLine c.args.line.now runs.history c.args.pipeline.now c.answer_line.new.pipeline) c.in-Err.is (c.in_ok-answered.ensures.answers runs.history runs.stands)).0
    (put_behind put _ _ _ c.in_ok-refuse-in-Err.ensures.text)
