use Rattle.trace_lines.proofs.readings.CompactLemmas.{whole_begins}
use Rattle.trace_lines.proofs.read.syntax.scan.whole_value.Goals as goal

pub returns : goal.returns
returns c = whole_begins c.args.bytes.now c.in_ok-whole.rest.now c.in_ok-whole.whole c.in_ok-whole.ensures.text c.in_ok-whole.ensures.fits
