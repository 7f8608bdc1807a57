-- The spans stay sound.
use Rattle.std.proofs.Common.{sym, subst}
use Rattle.span_registry.proofs.Common.{IsLive, RegistryValue, sound_entered}
use Rattle.span_registry.proofs.registry.RegistrySubscriber.enter.Goals as goal

pub invariant_of-self-2 : goal.invariant_of-self-2
invariant_of-self-2 c =
    rw (c.hold_unless.ensures.made, c.in_ok-again.ensures.again, c.in_ok-again.ensures.ok)
    (sound_entered (record { made = c.self.inside.table.made; lanes = c.self.inside.lanes.items }) c.args.id c.args.lane.now.id c.self.invariant (subst (λ (s : RegistryValue). IsLive s.spans.made c.args.id) (sym c.self.view_is) c.requires.live))
