-- The hook's step, with no room taken before.
use Rattle.otel_layer.proofs.Common.{OnClose, all_events_effect, step_from_prepared}
use Rattle.otel_layer.proofs.layer.hooks.OpenTelemetryLayerLayer.on_close.Goals as goal

pub returns : goal.returns
returns g c = step_from_prepared g.T.Tracer.does all_events_effect c.args.self.now.core (OnClose c.args.id c.args.at) _ c.close_if_known.ensures
