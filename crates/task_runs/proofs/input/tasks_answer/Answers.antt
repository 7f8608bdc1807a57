-- What the lines come to is written.
use Rattle.std.proofs.Common.{subst}
use Rattle.std.specs.Prelude.{Ok, Err}
use Rattle.trace_lines.specs.Lines.{lines_of}
use Rattle.task_runs.specs.Reading.{EndsAs}
use Rattle.task_runs.proofs.InputLemmas.{tells_outcome, accepted, answer_text, answer_refused}
use Rattle.task_runs.proofs.input.tasks_answer.Goals as goal

pub run_task_script-requires : goal.run_task_script-requires
run_task_script-requires g c =
    (subst (EndsAs (lines_of c.args.bytes.now)) c.in-Ok.is (c.in_ok-script.ensures (lines_of c.args.bytes.now) c.in_ok-read_lines.ensures)).1

pub returns-in_ok-text-in-Ok-clause-text : goal.returns-in_ok-text-in-Ok-clause-text
returns-in_ok-text-in-Ok-clause-text g c =
    let ends = subst (EndsAs (lines_of c.args.bytes.now)) c.in-Ok.is (c.in_ok-script.ensures (lines_of c.args.bytes.now) c.in_ok-read_lines.ensures) in
    tells_outcome (lines_of c.args.bytes.now) c.in-Ok.script c.in_ok-text-in-Ok.text.items ends c.in_ok-text-in-Ok.ensures

pub returns-in_ok-text-in-Ok-clause-refused : goal.returns-in_ok-text-in-Ok-clause-refused
returns-in_ok-text-in-Ok-clause-refused g c =
    accepted (lines_of c.args.bytes.now) c.in-Ok.script (subst (EndsAs (lines_of c.args.bytes.now)) c.in-Ok.is (c.in_ok-script.ensures (lines_of c.args.bytes.now) c.in_ok-read_lines.ensures))

pub refused_answer-requires : goal.refused_answer-requires
refused_answer-requires g c =
    (subst (EndsAs (lines_of c.args.bytes.now)) c.in-Err.is (c.in_ok-script.ensures (lines_of c.args.bytes.now) c.in_ok-read_lines.ensures)).1

pub returns-in-Err-clause-text : goal.returns-in-Err-clause-text
returns-in-Err-clause-text g c =
    answer_text (lines_of c.args.bytes.now) c.in-Err.line c.refused_answer.result (subst (EndsAs (lines_of c.args.bytes.now)) c.in-Err.is (c.in_ok-script.ensures (lines_of c.args.bytes.now) c.in_ok-read_lines.ensures)) c.refused_answer.ensures.text

pub returns-in-Err-clause-refused : goal.returns-in-Err-clause-refused
returns-in-Err-clause-refused g c =
    answer_refused (lines_of c.args.bytes.now) c.in-Err.line c.refused_answer.result (subst (EndsAs (lines_of c.args.bytes.now)) c.in-Err.is (c.in_ok-script.ensures (lines_of c.args.bytes.now) c.in_ok-read_lines.ensures)) c.refused_answer.ensures.refused
