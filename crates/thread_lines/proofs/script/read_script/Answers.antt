use Rattle.std.proofs.Common.{◌≡◌, List, ℕ, length, Err, sym, ap, subst, ◌∙◌, eqb-true}
use Rattle.std.specs.Prelude.{Result, IfOk}
use Rattle.trace_lines.specs.declared.told.Told.TheVariants as told
use Rattle.trace_lines.specs.Lines.{lines_of}
use Rattle.input_lines.specs.declared.refused_line.RefusedLine.{RefusedLine}
use Rattle.thread_script.specs.declared.script.ThreadScript.{ThreadScript}
use Rattle.thread_lines.specs.Steps.{script_opened, script_from, script_of}
use Rattle.input_lines.proofs.FirstLineLemmas.{none_left}
use Rattle.thread_lines.proofs.AddingLemmas.{not_answered, blank_from, opened_from, unopened_there, told_where}
use Rattle.thread_lines.proofs.ToldLemmas.{script_told}
use Rattle.thread_lines.proofs.script.read_script.Goals as goal

pub returns-in-Ok-clause-script : goal.returns-in-Ok-clause-script
returns-in-Ok-clause-script c =
    let opened = opened_from c.loop-rest.number c.in_ok-number.number (lines_of c.loop-rest.rest.now) c.first_line.result.0.now (lines_of c.first_line.result.1.now) (script_of (lines_of c.args.bytes.now)) c.first_line.ensures.lines c.in_ok-number.ensures c.loop-rest.invariant c.in-Ok.script (sym c.if-not-is_blank.ensures) c.in-Ok.ensures.opened in
    subst (λ (x : Result ThreadScript RefusedLine). IfOk c.add_lines.result (λ r. r ≡ x)) opened c.add_lines.ensures.added

pub returns-in-Ok-clause-told : goal.returns-in-Ok-clause-told
returns-in-Ok-clause-told c = told_where (lines_of c.args.bytes.now) c.add_lines.result (returns-in-Ok-clause-script c)

pub returns-in_ok-refused_line-in-Err-clause-script : goal.returns-in_ok-refused_line-in-Err-clause-script
returns-in_ok-refused_line-in-Err-clause-script c =
    let w = c.in_ok-refused_line-in-Err.field-0 in
    let line = c.first_line.result.0.now in
    let refused = not_answered {A = ThreadScript} {B = ThreadScript} (λ s. s) c.in-Err.stop w.told (script_opened line) c.in-Err.ensures.opened c.in_ok-refused_line-in-Err.ensures.1 in
    unopened_there c.loop-rest.number c.in_ok-number.number (lines_of c.loop-rest.rest.now) line (lines_of c.first_line.result.1.now) (script_of (lines_of c.args.bytes.now)) c.first_line.ensures.lines c.in_ok-number.ensures c.loop-rest.invariant w (sym c.if-not-is_blank.ensures) refused c.in_ok-refused_line-in-Err.ensures.0

pub returns-in_ok-refused_line-in-Err-clause-told : goal.returns-in_ok-refused_line-in-Err-clause-told
returns-in_ok-refused_line-in-Err-clause-told c = script_told (lines_of c.args.bytes.now) c.in_ok-refused_line-in-Err.field-0 (sym (returns-in_ok-refused_line-in-Err-clause-script c))

pub loop-rest-preserved : goal.loop-rest-preserved
loop-rest-preserved c = blank_from c.loop-rest.number c.in_ok-number.number (lines_of c.loop-rest.rest.now) c.first_line.result.0.now (lines_of c.first_line.result.1.now) (script_of (lines_of c.args.bytes.now)) c.first_line.ensures.lines c.in_ok-number.ensures c.loop-rest.invariant (sym c.if-not-is_blank.ensures)

pub returns-clause-script : goal.returns-clause-script
returns-clause-script c =
    let none : length c.loop-rest.rest.now ≡ 0 = eqb-true (length c.loop-rest.rest.now) 0 (sym c.loop-rest-test.ensures) in
    let refused_at : ℕ → Result ThreadScript RefusedLine = λ k. Err (record { line = k; told = told.BadLine }) in
    ap refused_at c.in_ok-line.ensures ∙ sym (ap (λ (lines : List (List ℕ)). script_from c.loop-rest.number lines) (none_left c.loop-rest.rest.now none)) ∙ c.loop-rest.invariant

pub returns-clause-told : goal.returns-clause-told
returns-clause-told c = script_told (lines_of c.args.bytes.now) (record { line = c.in_ok-line.line; told = told.BadLine }) (sym (returns-clause-script c))
