use Rattle.std.proofs.Common.{refl}
use Rattle.trace_lines.specs.reading.Object.{whole_number}
use Rattle.trace_lines.proofs.readings.QuickLinesLemmas.{number_behind}
use Rattle.trace_lines.proofs.read.quick.number_member.Goals as goal

pub returns : goal.returns
returns c =
    let n = c.in_ok-number.number in
    (whole_number n, refl, number_behind c.args.text.now c.args.name.now c.in_ok-digits.digits.now c.in_ok-number.rest.now n c.in_ok-digits.ensures c.in_ok-number.ensures.text c.in_ok-number.ensures.fits)
