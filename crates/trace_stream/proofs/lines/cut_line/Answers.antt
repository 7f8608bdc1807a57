use Rattle.std.proofs.Common.{arith}
use Rattle.std.proofs.lemmas.Bool.{eqb-true}
use Rattle.trace_stream.proofs.Common.{feedless_before, feedless_from}
use Rattle.trace_stream.proofs.LinesLemmas.{split_at_feed, no_feed}
use Rattle.trace_stream.proofs.lines.cut_line.Goals as goal

pub returns-in-Some-clause-line : goal.returns-in-Some-clause-line
returns-in-Some-clause-line c =
    let high = c.in-Some.ensures.0.high in
    no_feed _ (feedless_before c.args.bytes.now c.in-Some.at (omega (arith, high)) c.in-Some.ensures.0.before)

pub returns-in-Some-clause-parts : goal.returns-in-Some-clause-parts
returns-in-Some-clause-parts c = split_at_feed c.args.bytes.now c.in-Some.at c.in-Some.ensures.0.high (eqb-true _ _ c.in-Some.ensures.1)

pub returns-in-None-clause-none : goal.returns-in-None-clause-none
returns-in-None-clause-none c = λ none. no_feed c.args.bytes.now (feedless_from c.args.bytes.now 0 c.in-None.ensures)
