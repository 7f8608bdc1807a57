-- The hook's step, with no room taken before.
use Rattle.otel_layer.proofs.Common.{OnNewSpan, all_events_effect, step_from_prepared}
use Rattle.otel_layer.proofs.layer.hooks.OpenTelemetryLayerLayer.on_new_span.Goals as goal

pub returns : goal.returns
returns g c = step_from_prepared g.T.Tracer.does all_events_effect c.args.self.now.core (OnNewSpan c.args.id c.args.lane.now c.args.at c.args.parent c.args.current c.args.callsite.now c.args.values.now) _ c.make.ensures
