use Rattle.std.proofs.Common.{true, false}
use Rattle.trace_lines.proofs.readings.CompactLemmas.{flag_begins}
use Rattle.trace_lines.proofs.read.syntax.scan.flag_value.Goals as goal

pub returns-in-Some : goal.returns-in-Some
returns-in-Some c = flag_begins c.args.bytes.now c.in-Some.rest.now true c.in-Some.ensures

pub returns : goal.returns
returns c = flag_begins c.args.bytes.now c.in_ok-rest.rest.now false c.in_ok-rest.ensures
