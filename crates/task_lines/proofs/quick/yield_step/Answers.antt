use Rattle.task_lines.proofs.StepsLemmas.{yield_begins}
use Rattle.task_lines.proofs.quick.yield_step.Goals as goal

pub returns : goal.returns
returns c = yield_begins c.args.bytes.now c.in_ok-rest.rest.now c.in_ok-rest.ensures
