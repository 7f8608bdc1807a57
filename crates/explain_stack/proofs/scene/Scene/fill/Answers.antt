-- More is attached to the lane.
use Rattle.explain_stack.proofs.PollsLemmas.{filled_stands}
use Rattle.explain_stack.proofs.scene.Scene.fill.Goals as goal

pub returns-clause-order : goal.returns-clause-order
returns-clause-order g c = filled_stands g.S.Subscriber.spans g.S.Subscriber.kept g.S.Subscriber.is_whole c.args.self.now.dispatch c.args.self.now.span_count c.args.self.now.site_count c.args.self.now.world c.args.self.now.lane c.fill.new.lane c.args.self.now.other c.fill.ensures.id c.fill.ensures.default c.fill.ensures.more c.requires.order
