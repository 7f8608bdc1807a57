use Rattle.std.proofs.Common.{◌≡◌, ◌&&◌, Bool, length, sym, ap, ◌∙◌, eqb-true}
use Rattle.trace_lines.specs.Lines.{lines_of}
use Rattle.input_lines.specs.Refusals.{are_blank}
use Rattle.input_lines.proofs.FirstLineLemmas.{none_left}
use Rattle.input_lines.proofs.lines.are_blank.Goals as goal

pub returns-then-not-is_blank : goal.returns-then-not-is_blank
returns-then-not-is_blank c =
    sym (ap are_blank c.first_line.ensures.lines ∙ ap (λ (b : Bool). b && are_blank (lines_of c.first_line.result.1.now)) (sym c.if-not-is_blank.ensures)) ∙ c.loop-rest.invariant

pub loop-rest-preserved : goal.loop-rest-preserved
loop-rest-preserved c =
    sym (ap are_blank c.first_line.ensures.lines ∙ ap (λ (b : Bool). b && are_blank (lines_of c.first_line.result.1.now)) (sym c.if-not-is_blank.ensures)) ∙ c.loop-rest.invariant

pub returns : goal.returns
returns c =
    let none : length c.loop-rest.rest.now ≡ 0 = eqb-true (length c.loop-rest.rest.now) 0 (sym c.loop-rest-test.ensures) in
    sym (ap are_blank (none_left c.loop-rest.rest.now none)) ∙ c.loop-rest.invariant
