-- The hook's step, with no room taken before.
use Rattle.otel_layer.proofs.Common.{OnEnter, all_events_effect, step_from_prepared}
use Rattle.otel_layer.proofs.layer.hooks.OpenTelemetryLayerLayer.on_enter.Goals as goal

pub returns : goal.returns
returns g c = step_from_prepared g.T.Tracer.does all_events_effect c.args.self.now.core (OnEnter c.args.id c.args.at c.args.lane.now c.enter_if_known.new.lane) _ c.enter_if_known.ensures
