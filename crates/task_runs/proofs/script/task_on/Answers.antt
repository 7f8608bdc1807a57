-- A line that spells no task, a task that names only what is there, and one that doesn't.
use Rattle.std.proofs.Common.{sym, ◌∙◌}
use Rattle.task_runs.proofs.OneLineLemmas.{task_read, task_misses, no_task}
use Rattle.task_runs.proofs.script.task_on.Goals as goal

pub returns-in-Err-BadLine : goal.returns-in-Err-BadLine
returns-in-Err-BadLine c = (no_task c.args.settings.now c.args.line.now _ (c.in-Err-BadLine.ensures.bad_line (cc)), λ is. cc)

pub returns-in-None : goal.returns-in-None
returns-in-None c =
    let fits = sym c.missing_name.ensures ∙ c.in-None.is in
    (task_read c.args.settings.now c.args.line.now c.in-Ok.task c.in-Ok.ensures.ok fits, fits)

pub returns-in-Some : goal.returns-in-Some
returns-in-Some c =
    (task_misses c.args.settings.now c.args.line.now c.in-Ok.task c.in-Some.what c.in-Ok.ensures.ok (sym c.missing_name.ensures ∙ c.in-Some.is), λ is. cc)
