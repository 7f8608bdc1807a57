use Rattle.std.proofs.Common.{inl}
use Rattle.trace_records.proofs.Common.{IsOpening, IsRunning}
use Rattle.trace_records.proofs.FollowingLemmas.{running_refuses_none}
use Rattle.trace_records.proofs.script.ScriptRun.refused_line.Goals as goal

pub returns-in-Opening : goal.returns-in-Opening
returns-in-Opening g c most lines follows =
    let o : IsOpening most lines c.args.self.now.line_count c.args.self.now.finished = rw c.in-Opening.is at follows in
    inl o.blank

pub returns-in-Running : goal.returns-in-Running
returns-in-Running g c most lines follows =
    let r : IsRunning g.K.FromRecord.of_record most lines c.args.self.now.line_count _ c.args.self.now.finished = rw c.in-Running.is at follows in
    running_refuses_none g.K.FromRecord.of_record most lines c.args.self.now.line_count _ c.args.self.now.finished r
