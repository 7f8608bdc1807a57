use Rattle.std.proofs.Common.{rules, ap, sym, refl, subst, ◌∙◌, Err}
use Rattle.trace_records.proofs.Common.{HasRefusalLine}
use Rattle.trace_records.proofs.LinesLemmas.{not_request, not_served, answers, told_step}
use Rattle.trace_records.proofs.line.answer_line.Goals as goal

pub returns-in-Err-BadLine-clause-answers : goal.returns-in-Err-BadLine-clause-answers
returns-in-Err-BadLine-clause-answers c h stands = (not_request _ _ c.args.line.now _ (search rules), λ is. cc)

pub returns-in-Ok-step-clause-answers : goal.returns-in-Ok-step-clause-answers
returns-in-Ok-step-clause-answers c h stands =
    answers c.args.line.now h c.args.pipeline.now c.step.new.self c.in-Ok.request _ c.in-Ok.ensures.ok refl (c.in-Ok-step.ensures.ok h stands)

pub returns-in_ok-told-in-Err-clause-answers : goal.returns-in_ok-told-in-Err-clause-answers
returns-in_ok-told-in-Err-clause-answers c h stands =
    let told = c.in_ok-told-in-Err.ensures in (
      not_served _ _ c.args.line.now c.in-Ok.request c.in-Err.refusal c.in-Ok.ensures.ok (c.in-Err.ensures.refused h stands told.other) ∙ ap Err (sym told.same),
      subst HasRefusalLine (sym told.same) (told_step c.in-Err.refusal told.other),
    )

pub returns-in_ok-told-in-Err-clause-told : goal.returns-in_ok-told-in-Err-clause-told
returns-in_ok-told-in-Err-clause-told c =
    let told = c.in_ok-told-in-Err.ensures in
    subst HasRefusalLine (sym told.same) (told_step c.in-Err.refusal told.other)
