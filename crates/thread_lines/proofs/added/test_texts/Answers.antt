use Rattle.std.proofs.Common.{◌≡◌, List, ℕ, Some, sym, ap, subst, ◌∙◌}
use Rattle.std.specs.Prelude.{Result, Option, ⊤}
use Rattle.std.proofs.lemmas.Result.{err_from_is_err_and}
use Rattle.span_script.specs.Admission.{counting_read}
use Rattle.trace_lines.specs.declared.told.Told.{Told}
use Rattle.thread_lines.specs.Answers.{AnswersTest}
use Rattle.thread_lines.specs.Steps.{directives_tested}
use Rattle.thread_lines.proofs.TextLemmas.{filter_stops, counting_decides}
use Rattle.thread_lines.proofs.added.test_texts.Goals as goal

pub returns-in_err-test_directives-clause-directives : goal.returns-in_err-test_directives-clause-directives
returns-in_err-test_directives-clause-directives c =
    let p = err_from_is_err_and c.from_residual.result c.from_residual.ensures.1 in
    rw (p.1, p.2) (filter_stops c.args.settings.now.filter c.args.settings.now.counting c.in_err-test_directives.field-0.0 c.in_err-test_directives.ensures.directives)

pub returns-in-Some-clause-directives : goal.returns-in-Some-clause-directives
returns-in-Some-clause-directives c =
    let s = c.args.settings.now in
    let is : s.counting ≡ Some c.in-Some.text = c.in-Some.is in
    let decided = counting_decides s.filter s.counting c.in_ok-test_directives.field-0 c.in_ok-test_directives.ensures.directives ∙ ap (λ (o : Option (List ℕ)). directives_tested (counting_read o)) is in
    subst (λ (t : Result ⊤ Told). AnswersTest {A = ⊤} (λ u. u) c.test_directives-in-Some.result t) (sym decided) c.test_directives-in-Some.ensures.directives

pub returns-in-None-clause-directives : goal.returns-in-None-clause-directives
returns-in-None-clause-directives c =
    let s = c.args.settings.now in
    counting_decides s.filter s.counting c.in_ok-test_directives.field-0 c.in_ok-test_directives.ensures.directives ∙ ap (λ (o : Option (List ℕ)). directives_tested (counting_read o)) c.in-None.is
