use Rattle.task_lines.proofs.StepsLemmas.{record_begins}
use Rattle.task_lines.proofs.quick.record.Goals as goal

pub returns : goal.returns
returns c =
    let b = c.in_ok-fields.ensures in
    record_begins c.args.bytes.now c.in_ok-list.list.now c.in_ok-fields.tail.now c.in_ok-rest.rest.now b.0 c.in_ok-fields.fields c.in_ok-list.ensures b.1 b.2 c.in_ok-rest.ensures
