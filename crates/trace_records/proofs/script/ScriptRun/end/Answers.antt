use Rattle.std.proofs.Common.{refl}
use Rattle.trace_records.proofs.FollowingLemmas.{opening_end, running_end, stopped_end}
use Rattle.trace_records.proofs.script.ScriptRun.end.Goals as goal

pub returns-in_ok-line-in-Opening : goal.returns-in_ok-line-in-Opening
returns-in_ok-line-in-Opening g c most lines follows =
    let sum = rw c.in_ok-line-in-Opening.ensures.ok_part at c.checked_add.ensures in
    opening_end g.K.FromRecord.of_record most lines c.args.self.line_count _ c.args.self.finished (rw c.in-Opening.is at follows) sum.1

pub returns-in-Running : goal.returns-in-Running
returns-in-Running g c most lines follows =
    running_end g.K.FromRecord.of_record most lines c.args.self.line_count c.in-Running.pipeline c.args.self.finished _ (rw c.in-Running.is at follows) refl refl refl (λ h stands. c.open_spans.ensures _ stands)

pub returns-in-Refused : goal.returns-in-Refused
returns-in-Refused g c most lines follows = stopped_end g.K.FromRecord.of_record most lines c.in-Refused.refused (rw c.in-Refused.is at follows)
