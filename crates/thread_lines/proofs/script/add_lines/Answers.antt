use Rattle.std.proofs.Common.{◌≡◌, List, ℕ, length, Ok, sym, ap, ◌∙◌, eqb-true}
use Rattle.std.specs.Prelude.{⊤}
use Rattle.trace_lines.specs.Lines.{lines_of}
use Rattle.thread_lines.specs.Steps.{text_added, lines_added}
use Rattle.thread_lines.proofs.RunnableLemmas.{text_runs}
use Rattle.input_lines.proofs.FirstLineLemmas.{none_left}
use Rattle.thread_lines.proofs.AddingLemmas.{not_added, blank_added, more_added, refused_there}
use Rattle.thread_lines.proofs.script.add_lines.Goals as goal

pub loop-rest-preserved-then-is_blank : goal.loop-rest-preserved-then-is_blank
loop-rest-preserved-then-is_blank c = record {
  runnable = c.loop-rest.invariant.runnable;
  added = blank_added c.loop-rest.script c.loop-rest.number c.in_ok-number.number (lines_of c.loop-rest.rest.now) c.first_line.result.0.now (lines_of c.first_line.result.1.now) _ c.first_line.ensures.lines c.in_ok-number.ensures c.loop-rest.invariant.added (sym c.if-is_blank.ensures);
}

pub returns-in-Err-clause-added : goal.returns-in-Err-clause-added
returns-in-Err-clause-added c =
    let w = c.in_ok-refused_line.field-0 in
    let line = c.first_line.result.0.now in
    let refused = not_added ⊤ c.add_text.new.script c.in-Err.stop w.told (text_added c.loop-rest.script line) c.in-Err.ensures c.in_ok-refused_line.ensures.1 in
    refused_there c.loop-rest.script c.loop-rest.number c.in_ok-number.number (lines_of c.loop-rest.rest.now) line (lines_of c.first_line.result.1.now) _ c.first_line.ensures.lines c.in_ok-number.ensures c.loop-rest.invariant.added w (sym c.if-is_blank.ensures) refused c.in_ok-refused_line.ensures.0

pub loop-rest-preserved : goal.loop-rest-preserved
loop-rest-preserved c =
    let line = c.first_line.result.0.now in
    let more = c.add_text.new.script in
    let added : text_added c.loop-rest.script line ≡ Ok more = c.in_default.ensures in
    record {
      runnable = text_runs c.loop-rest.script line more added c.loop-rest.invariant.runnable;
      added = more_added c.loop-rest.script c.loop-rest.number c.in_ok-number.number (lines_of c.loop-rest.rest.now) line (lines_of c.first_line.result.1.now) _ c.first_line.ensures.lines c.in_ok-number.ensures c.loop-rest.invariant.added more (sym c.if-is_blank.ensures) added;
    }

pub returns-clause-added : goal.returns-clause-added
returns-clause-added c =
    let none : length c.loop-rest.rest.now ≡ 0 = eqb-true (length c.loop-rest.rest.now) 0 (sym c.loop-rest-test.ensures) in
    sym (ap (λ (lines : List (List ℕ)). lines_added c.loop-rest.script c.loop-rest.number lines) (none_left c.loop-rest.rest.now none)) ∙ c.loop-rest.invariant.added
