-- By the entry, or by what was refused.
use Rattle.traced.proofs.Moves.{enters, refuses}
use Rattle.traced.proofs.entering.enter.Goals as goal

pub returns-clause-entered : goal.returns-clause-entered
returns-clause-entered g c = enters g.S.Subscriber c.lawful.ensures c.args.world.now c.enter.new.world c.args.lane.now c.enter.new.lane c.args.at c.args.span.now c.enter.result c.enter.ensures.value c.enter.ensures.known c.enter.ensures.keeps c.enter.ensures.did c.enter.ensures.none

pub returns-clause-refused : goal.returns-clause-refused
returns-clause-refused g c = refuses g.S.Subscriber c.lawful.ensures c.args.world.now c.enter.new.world c.args.lane.now c.enter.new.lane c.args.span.now c.enter.result c.enter.ensures.leaves c.enter.ensures.lane_leaves
