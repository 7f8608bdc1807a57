-- The spans stay sound.
use Rattle.std.proofs.Common.{sym, subst}
use Rattle.span_registry.proofs.Common.{IsLive, RegistryValue, sound_held}
use Rattle.span_registry.proofs.registry.RegistrySubscriber.clone_span.Goals as goal

pub invariant_of-self : goal.invariant_of-self
invariant_of-self c = rw c.hold.ensures (sound_held (record { made = c.self.inside.table.made; lanes = c.self.inside.lanes.items }) c.args.id c.self.invariant (subst (λ (s : RegistryValue). IsLive s.spans.made c.args.id) (sym c.self.view_is) c.requires.live))
