use Rattle.std.proofs.Common.{inl}
use Rattle.task_runs.specs.Reading.{IsOpening, IsReading}
use Rattle.task_runs.proofs.ReadingLemmas.{reading_refuses_none}
use Rattle.task_runs.proofs.script.TaskReader.refused_line.Goals as goal

pub returns-in-Opening : goal.returns-in-Opening
returns-in-Opening c lines reads =
    let o : IsOpening lines c.args.self.now.line_count = rw c.in-Opening.is at reads in
    inl o.blank

pub returns-in-Reading : goal.returns-in-Reading
returns-in-Reading c lines reads =
    let r : IsReading lines c.args.self.now.line_count _ = rw c.in-Reading.is at reads in
    reading_refuses_none lines c.args.self.now.line_count _ r
