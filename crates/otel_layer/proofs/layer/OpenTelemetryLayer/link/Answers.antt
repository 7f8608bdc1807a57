-- There is room for any link.
use Rattle.otel_layer.proofs.layer.OpenTelemetryLayer.link.Goals as goal

pub put_op-requires : goal.put_op-requires
put_op-requires g c = c.requires.any (record { context = c.args.context; attributes = c.new-attributes.result })
