use Rattle.std.proofs.Common.{true≢false, sym, ◌∙◌, arith}
use Rattle.trace_lines.proofs.readings.PlacesLemmas.{is_found, passed_more}
use Rattle.trace_lines.proofs.read.syntax.flat.place_of.Goals as goal

pub returns-then-is_same : goal.returns-then-is_same
returns-then-is_same c = is_found c.args.name.now c.args.members.now c.loop-at.at _ c.loop-at-test.true (c.is_same.ensures.0 c.if-is_same.true) c.loop-at.invariant.1

pub loop-at-preserved : goal.loop-at-preserved
loop-at-preserved c = (omega arith, passed_more c.args.name.now c.args.members.now c.loop-at.at _ c.loop-at-test.true (λ same. true≢false (sym (c.is_same.ensures.1 same) ∙ c.if-is_same.false)) c.loop-at.invariant.1)
