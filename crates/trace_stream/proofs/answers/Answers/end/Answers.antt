use Rattle.std.proofs.Common.{◌++◌}
use Rattle.trace_stream.proofs.AnswersLemmas.{opens_end, runs_end, stops_end, put_behind}
use Rattle.trace_stream.proofs.answers.Answers.end.Goals as goal

pub returns-in_ok-refuse-in-Opening : goal.returns-in_ok-refuse-in-Opening
returns-in_ok-refuse-in-Opening c put lines answers =
    let sum = rw c.in_ok-end-in-Opening.ensures.ok_part at c.checked_add.ensures in
    opens_end c.args.signal lines c.args.self.now.line_count _ (put ++ c.args.self.now.written.text.items) _ c.args.self.now.written.count (rw c.in-Opening.is at answers) sum.1 (put_behind put _ _ _ c.in_ok-refuse-in-Opening.ensures.text)

pub returns-in_ok-end-in-Running : goal.returns-in_ok-end-in-Running
returns-in_ok-end-in-Running c put lines answers =
    runs_end c.args.signal lines c.args.self.now.line_count c.in-Running.pipeline (put ++ c.args.self.now.written.text.items) _ c.args.self.now.written.count c.open_spans-spans.result (rw c.in-Running.is at answers)
    (λ h stands. c.open_spans-spans.ensures _ stands) (put_behind put _ _ _ c.in_ok-end-in-Running.ensures)

pub returns-in-Refused : goal.returns-in-Refused
returns-in-Refused c put lines answers = stops_end c.args.signal lines (put ++ c.args.self.now.written.text.items) (rw c.in-Refused.is at answers)
