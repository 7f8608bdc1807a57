use Rattle.std.proofs.Common.{arith}
use Rattle.trace_lines.proofs.readings.PlacesLemmas.{puts_more, puts_before, puts_last}
use Rattle.trace_lines.proofs.read.syntax.flat.place_for.Goals as goal

pub returns-in-Less : goal.returns-in-Less
returns-in-Less c = puts_before c.args.name.now c.args.members.now c.loop-at.at _ c.loop-at-test.true c.in-Less.ensures c.loop-at.invariant.1

pub loop-at-preserved : goal.loop-at-preserved
loop-at-preserved c = (omega arith, puts_more c.args.name.now c.args.members.now c.loop-at.at _ c.loop-at-test.true c.in-Greater.ensures c.loop-at.invariant.1)

pub returns : goal.returns
returns c = puts_last c.args.name.now c.args.members.now c.loop-at.at (omega arith) c.loop-at.invariant.1
