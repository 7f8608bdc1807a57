-- By the op that is applied.
use Rattle.traced_layer.proofs.Asked.{asked}
use Rattle.traced_layer.proofs.asking.set_status.Goals as goal

pub returns-clause-stays : goal.returns-clause-stays
returns-clause-stays g c = asked g.S.Subscriber g.S.OtelPart.touches g.met.S.OtelSubscriber.stays c.args.world.now c.set_status.new.world c.args.at _ c.args.span.now.held c.set_status.ensures.0 c.set_status.ensures.1
