use Rattle.std.proofs.Common.{arith}
use Rattle.std.proofs.lemmas.Bool.{eqb-true}
use Rattle.input_lines.proofs.FirstLineLemmas.{fed_line, only_line, feedless_before, feedless_from}
use Rattle.input_lines.proofs.lines.first_line.Goals as goal

pub returns-in-Some-clause-lines : goal.returns-in-Some-clause-lines
returns-in-Some-clause-lines c =
    let high = c.in-Some.ensures.0.high in
    fed_line c.args.bytes.now c.in-Some.at (feedless_before c.args.bytes.now c.in-Some.at (omega (arith, high)) c.in-Some.ensures.0.before) high (eqb-true _ _ c.in-Some.ensures.1)

pub returns-in-None-clause-lines : goal.returns-in-None-clause-lines
returns-in-None-clause-lines c = only_line c.args.bytes.now c.requires (feedless_from c.args.bytes.now 0 c.in-None.ensures)
