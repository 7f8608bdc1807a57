-- No event: it does what the layer inside does.
use Rattle.std.proofs.Common.{refl}
use Rattle.otel_layer.proofs.Common.{hook_any}
use Rattle.otel_layer.proofs.counting.hooks.FilteredOpenTelemetryLayerLayer.on_close.Goals as goal

pub returns : goal.returns
returns g c = (hook_any g.T.Tracer.does _ _ _ _ _ tt c.on_close.ensures, refl)
