-- A layer that knows nothing is in step with a registry.
use Rattle.span_registry.proofs.Sound.{sound_in_step}
use Rattle.span_registry.proofs.registry.Registry.with.Goals as goal

pub over-requires-clause-in_step : goal.over-requires-clause-in_step
over-requires-clause-in_step g c = sound_in_step c.args.self.spans _ c.sound.ensures c.requires.knows_none
