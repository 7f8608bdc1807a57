-- The spans of a registry are sound, and such a layer knows none.
use Rattle.std.proofs.Common.{refl}
use Rattle.trace_base.specs.layers.Unseeing.{no_known_spans}
use Rattle.span_registry.specs.Both.{InStep}
use Rattle.span_registry.proofs.Sound.{sound_in_step}
use Rattle.base_tests.proofs.spans.hooks.whole.Goals as goal

pub returns : goal.returns
returns c =
    let spans = c.args.stack.now.inner.inner.spans in
    let step : InStep spans no_known_spans = sound_in_step spans no_known_spans (rw (c.inner-2.ensures, c.inner.ensures) at c.sound.ensures) (record { none = λ id. refl; no_entries = λ lane id. refl }) in
    record { inner = record { inner = tt; outer = tt; in_step = step; one_attaches = refl }; outer = tt; in_step = step; one_attaches = refl }
