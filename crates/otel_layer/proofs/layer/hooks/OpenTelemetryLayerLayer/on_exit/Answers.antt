-- The hook's step, with no room taken before.
use Rattle.otel_layer.proofs.Common.{OnExit, all_events_effect, step_from_prepared}
use Rattle.otel_layer.proofs.layer.hooks.OpenTelemetryLayerLayer.on_exit.Goals as goal

pub returns : goal.returns
returns g c = step_from_prepared g.T.Tracer.does all_events_effect c.args.self.now.core (OnExit c.args.id c.args.at c.args.lane.now c.exit_if_known.new.lane) _ c.exit_if_known.ensures
