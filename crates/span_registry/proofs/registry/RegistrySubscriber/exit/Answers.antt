-- The spans stay sound.
use Rattle.std.proofs.Common.{sym, subst}
use Rattle.span_registry.proofs.Common.{MayExit, RegistryValue, sound_exited, exit_live}
use Rattle.span_registry.proofs.registry.RegistrySubscriber.exit.Goals as goal

pub release_if-requires : goal.release_if-requires
release_if-requires c = exit_live (record { made = c.self.inside.table.made; lanes = c.self.inside.lanes.items }) c.args.id c.args.lane.now.id c.self.invariant (subst (λ (s : RegistryValue). MayExit s.spans c.args.id c.args.lane.now.id) (sym c.self.view_is) c.requires.may)

pub invariant_of-self : goal.invariant_of-self
invariant_of-self c =
    rw (c.release_if.ensures.made, c.remove_entry-last.ensures.only, c.remove_entry-last.ensures.entries)
    (sound_exited (record { made = c.self.inside.table.made; lanes = c.self.inside.lanes.items }) c.args.id c.args.lane.now.id c.self.invariant (subst (λ (s : RegistryValue). MayExit s.spans c.args.id c.args.lane.now.id) (sym c.self.view_is) c.requires.may))
