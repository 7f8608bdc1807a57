use Rattle.task_lines.proofs.StepsLemmas.{alone_begins}
use Rattle.task_lines.proofs.quick.event_without_fields.Goals as goal

pub returns : goal.returns
returns c =
    let is = c.in_ok-site.ensures in
    alone_begins c.args.bytes.now c.in_ok-site.rest.now c.in_ok-site.site c.new-fields.result is.text is.fits c.new-fields.ensures
