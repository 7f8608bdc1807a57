-- What the run gives is of its script.
use Rattle.std.proofs.Common.{refl}
use Rattle.task_runs.proofs.script_run.run_in_poll.Goals as goal

pub returns-in-Ok-Some : goal.returns-in-Ok-Some
returns-in-Ok-Some g c = (let gives = rw c.in-Ok-Some.field-0-is at c.in-Ok-Some.ensures in gives c.args.script refl)
