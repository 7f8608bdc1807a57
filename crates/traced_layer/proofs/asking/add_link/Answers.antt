-- By the op that is applied, if one is.
use Rattle.std.proofs.Common.{[]}
use Rattle.otel_base.specs.Ids.{is_valid}
use Rattle.otel_layer.specs.Asking.{link_op}
use Rattle.traced_layer.proofs.Asked.{linked}
use Rattle.traced_layer.proofs.asking.add_link.Goals as goal

pub returns-clause-stays : goal.returns-clause-stays
returns-clause-stays g c =
    linked g.S.Subscriber g.S.OtelPart.touches g.met.S.OtelSubscriber.stays c.args.world.now c.add_link.new.world c.args.at (link_op c.args.cx []) c.args.span.now.held (is_valid c.args.cx) c.add_link.result c.add_link.ensures.valid c.add_link.ensures.invalid
