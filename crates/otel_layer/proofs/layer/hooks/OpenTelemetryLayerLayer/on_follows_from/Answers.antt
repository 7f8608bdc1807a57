-- The hook's step, with no room taken before.
use Rattle.otel_layer.proofs.Common.{OnFollows, all_events_effect, step_from_prepared}
use Rattle.otel_layer.proofs.layer.hooks.OpenTelemetryLayerLayer.on_follows_from.Goals as goal

pub returns : goal.returns
returns g c = step_from_prepared g.T.Tracer.does all_events_effect c.args.self.now.core (OnFollows c.args.id c.args.from c.args.at) _ c.follow.ensures
