use Rattle.task_lines.proofs.StepsLemmas.{event_begins}
use Rattle.task_lines.proofs.quick.event_with_fields.Goals as goal

pub returns : goal.returns
returns c =
    let b = c.in_ok-fields.ensures in
    let is = c.in_ok-site.ensures in
    event_begins c.args.bytes.now c.in_ok-list.list.now c.in_ok-fields.tail.now c.in_ok-site.rest.now c.in_ok-site.site b.0 c.in_ok-fields.fields c.in_ok-list.ensures b.1 b.2 is.text is.fits
