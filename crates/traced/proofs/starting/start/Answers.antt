-- By what was added.
use Rattle.traced.proofs.changes.Begins.{begins_if, one_more}
use Rattle.traced.proofs.starting.start.Goals as goal

pub returns-clause-stands : goal.returns-clause-stands
returns-clause-stands g c = begins_if g.S.Subscriber c.lawful.ensures c.args.stack c.requires.whole c.requires.spans c.requires.kept c.args.world.now c.add.new.self c.add.result c.add.ensures.ok c.add.ensures.dispatch c.add.ensures.sites

pub returns-clause-count : goal.returns-clause-count
returns-clause-count g c = one_more g.S.Subscriber c.args.stack c.args.world.now c.add.new.self c.add.result c.add.ensures.ok
