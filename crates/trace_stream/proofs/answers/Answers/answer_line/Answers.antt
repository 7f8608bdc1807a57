use Rattle.std.proofs.Common.{sym, ◌∙◌}
use Rattle.trace_stream.proofs.answers.Answers.answer_line.Goals as goal

pub returns-in-Opening : goal.returns-in-Opening
returns-in-Opening c put lines answers =
    let sum = rw c.in_ok-number.ensures.ok_part at c.checked_add.ensures in
    c.begin.ensures put lines c.args.self.now.line_count (rw c.in-Opening.is at answers) sum.1 (sym c.is_blank.ensures ∙ c.if-is_blank.false)

pub returns-then-not-served : goal.returns-then-not-served
returns-then-not-served c put lines answers =
    let sum = rw c.in_ok-number.ensures.ok_part at c.checked_add.ensures in
    let goes = c.in_ok-served-in-Running.ensures put lines c.args.self.now.line_count (rw c.in-Running.is at answers) sum.1 (sym c.is_blank.ensures ∙ c.if-is_blank.false) in
    rw c.stop.ensures (rw c.if-not-served.true at goes)

pub returns-else-not-served : goal.returns-else-not-served
returns-else-not-served c put lines answers =
    let sum = rw c.in_ok-number.ensures.ok_part at c.checked_add.ensures in
    let goes = c.in_ok-served-in-Running.ensures put lines c.args.self.now.line_count (rw c.in-Running.is at answers) sum.1 (sym c.is_blank.ensures ∙ c.if-is_blank.false) in
    rw c.if-not-served.false at goes
