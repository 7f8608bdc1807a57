-- The spans stay sound, and the next one has a hold of its own.
use Rattle.std.proofs.Common.{sym, subst}
use Rattle.span_registry.proofs.Common.{HasUnboundHold, RegistryValue, sound_released, next_own}
use Rattle.span_registry.proofs.registry.RegistrySubscriber.try_close.Goals as goal

pub invariant_of-self : goal.invariant_of-self
invariant_of-self c = rw c.release.ensures.made (sound_released (record { made = c.self.inside.table.made; lanes = c.self.inside.lanes.items }) c.args.id c.self.invariant (subst (λ (s : RegistryValue). HasUnboundHold s.spans c.args.id) (sym c.self.view_is) c.requires.own))

pub returns-clause-next_held : goal.returns-clause-next_held
returns-clause-next_held c =
    rw (c.release.ensures.next, c.release.ensures.made) (next_own (record { made = c.self.inside.table.made; lanes = c.self.inside.lanes.items }) c.args.id c.self.invariant (subst (λ (s : RegistryValue). HasUnboundHold s.spans c.args.id) (sym c.self.view_is) c.requires.own))
