use Rattle.std.proofs.Common.{sym, ◌+◌}
use Rattle.std.proofs.lemmas.Bool.{eqb-true}
use Rattle.trace_stream.proofs.Common.{feedless_from}
use Rattle.trace_stream.proofs.LinesLemmas.{part_at, part_none}
use Rattle.trace_stream.proofs.lines.whole_part.Goals as goal

pub returns-in-Some : goal.returns-in-Some
returns-in-Some c =
    let high = c.in-Some.ensures.0.high in
    part_at c.args.bytes.now c.in-Some.last high (eqb-true _ _ c.in-Some.ensures.1) (feedless_from c.args.bytes.now (c.in-Some.last + 1) c.in-Some.ensures.0.after)

pub returns-in-None : goal.returns-in-None
returns-in-None c = sym (part_none c.args.bytes.now (feedless_from c.args.bytes.now 0 c.in-None.ensures))
