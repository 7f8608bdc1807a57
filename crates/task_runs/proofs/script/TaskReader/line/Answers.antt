-- The settings line begins a script, and a task line that fits is one task more.
use Rattle.std.proofs.Common.{[], ◌∷◌, ◌++◌, refl, sym, subst, ◌∙◌}
use Rattle.trace_tasks.specs.declared.script.TaskScript.{TaskScript}
use Rattle.task_runs.specs.Reading.{IsReading, ReadsSettings, ReadsTask}
use Rattle.task_runs.proofs.ReadingLemmas.{opened_on, task_read_on, on_ok}
use Rattle.task_runs.proofs.script.TaskReader.line.Goals as goal

pub returns-in-Ok : goal.returns-in-Ok
returns-in-Ok c lines reads =
    let sum = rw c.in_ok-number.ensures.ok_part at c.checked_add.ensures in
    let read = subst (ReadsSettings c.args.line.now) c.in-Ok.is c.in_ok-settings-in-Opening.ensures in
    rw c.new-tasks.ensures (opened_on lines c.args.self.now.line_count c.in_ok-number.number c.args.line.now c.in-Ok.settings
    (rw c.in-Opening.is at reads) sum.1 (sym c.is_blank.ensures ∙ c.if-is_blank.false) read.0 read.1)

pub returns-in-Ok-2 : goal.returns-in-Ok-2
returns-in-Ok-2 c lines reads =
    let sum = rw c.in_ok-number.ensures.ok_part at c.checked_add.ensures in
    let r : IsReading lines c.args.self.now.line_count c.in-Reading.script = rw c.in-Reading.is at reads in
    let read = subst (ReadsTask c.in-Reading.script.settings c.args.line.now) c.in-Ok-2.is c.in_ok-task-in-Reading.ensures in
    on_ok c.push.result (λ (s : TaskScript). IsReading (lines ++ c.args.line.now ∷ []) c.in_ok-number.number s) _
    (λ tasks. task_read_on lines c.args.self.now.line_count c.in_ok-number.number c.args.line.now c.in-Reading.script _ c.in-Ok-2.task r sum.1
    (sym c.is_blank.ensures ∙ c.if-is_blank.false) read.0 read.1 refl tasks) c.push.ensures.ok
