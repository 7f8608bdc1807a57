use Rattle.task_runs.proofs.ReadingLemmas.{opening_end, reading_end, stopped_end}
use Rattle.task_runs.proofs.script.TaskReader.end.Goals as goal

pub returns-in_ok-line-in-Opening : goal.returns-in_ok-line-in-Opening
returns-in_ok-line-in-Opening c lines reads =
    let sum = rw c.in_ok-line-in-Opening.ensures.ok_part at c.checked_add.ensures in
    opening_end lines c.args.self.line_count _ (rw c.in-Opening.is at reads) sum.1

pub returns-in-Reading : goal.returns-in-Reading
returns-in-Reading c lines reads = reading_end lines c.args.self.line_count c.in-Reading.script (rw c.in-Reading.is at reads)

pub returns-in-Refused : goal.returns-in-Refused
returns-in-Refused c lines reads = stopped_end lines c.in-Refused.refused (rw c.in-Refused.is at reads)
