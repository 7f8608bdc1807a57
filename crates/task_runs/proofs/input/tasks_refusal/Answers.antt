-- A line that is refused whatever lines follow.
use Rattle.std.proofs.Common.{subst}
use Rattle.trace_lines.specs.Lines.{lines_of}
use Rattle.task_runs.specs.Reading.{IsRefusedBy}
use Rattle.task_runs.proofs.InputLemmas.{refuses, none_refused}
use Rattle.task_runs.proofs.input.tasks_refusal.Goals as goal

pub refused_answer-requires : goal.refused_answer-requires
refused_answer-requires c =
    (subst (IsRefusedBy (lines_of c.args.bytes.now)) c.in-Some.is (c.refused_line.ensures (lines_of c.args.bytes.now) c.in_ok-read_lines.ensures)).is_told

pub returns-in-Some-clause-some : goal.returns-in-Some-clause-some
returns-in-Some-clause-some c =
    refuses (lines_of c.args.bytes.now) c.in-Some.line _ (subst (IsRefusedBy (lines_of c.args.bytes.now)) c.in-Some.is (c.refused_line.ensures (lines_of c.args.bytes.now) c.in_ok-read_lines.ensures)) c.in_ok-refused_answer-in-Some.ensures.text

pub returns-clause-none : goal.returns-clause-none
returns-clause-none c =
    λ is. none_refused (lines_of c.args.bytes.now) (subst (IsRefusedBy (lines_of c.args.bytes.now)) c.in-None.is (c.refused_line.ensures (lines_of c.args.bytes.now) c.in_ok-read_lines.ensures))
