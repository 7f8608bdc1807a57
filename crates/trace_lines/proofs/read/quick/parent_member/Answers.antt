use Rattle.trace_lines.proofs.Common.{codes, escape_byte, refl, string}
use Rattle.trace_lines.specs.reading.Object.{whole_number}
use Rattle.trace_lines.proofs.readings.QuickLinesLemmas.{number_behind, word_behind}
use Rattle.trace_lines.proofs.read.quick.parent_member.Goals as goal

pub returns-in-Some : goal.returns-in-Some
returns-in-Some c =
    let is = c.in-Some.ensures in
    (whole_number c.in-Some.handle, refl, number_behind c.args.text.now (codes "\"parent\":") c.in_ok-value.value.now c.in-Some.rest.now c.in-Some.handle c.in_ok-value.ensures is.text is.fits)

pub returns-in_ok-rest-in-None : goal.returns-in_ok-rest-in-None
unfolding escape_byte
returns-in_ok-rest-in-None c =
    let rest = c.in_ok-rest-in-None in
    (string (codes "root"), refl, word_behind c.args.text.now (codes "\"parent\":") c.in_ok-value.value.now (codes "root") rest.rest.now c.in_ok-value.ensures rest.ensures refl)
