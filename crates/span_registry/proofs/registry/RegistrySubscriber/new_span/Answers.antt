-- The parent is live, and the spans stay sound.
use Rattle.std.proofs.Common.{◌≡◌, sym, subst, List}
use Rattle.span_registry.proofs.Common.{Span, Spans, current_of, entries_on, IsLiveParent, IsSound, RegistryValue, parent_live, sound_new}
use Rattle.span_registry.proofs.Sound.{either_way, err_made}
use Rattle.span_registry.proofs.registry.RegistrySubscriber.new_span.Goals as goal

pub add-requires-clause-live : goal.add-requires-clause-live
add-requires-clause-live c =
    rw (c.span.ensures, subst (λ (s : RegistryValue). c.args.current ≡ current_of (entries_on c.args._lane.now.id s.spans.lanes)) (sym c.self.view_is) c.requires.current) (parent_live (record { made = c.self.inside.table.made; lanes = c.self.inside.lanes.items }) c.args._lane.now.id c.args.parent c.self.invariant (subst (λ (s : RegistryValue). IsLiveParent s.spans.made c.args.parent) (sym c.self.view_is) c.requires.live))

pub invariant_of-self : goal.invariant_of-self
invariant_of-self c =
    let live = parent_live (record { made = c.self.inside.table.made; lanes = c.self.inside.lanes.items }) c.args._lane.now.id c.args.parent c.self.invariant (subst (λ (s : RegistryValue). IsLiveParent s.spans.made c.args.parent) (sym c.self.view_is) c.requires.live) in
    either_way (λ (xs : List Span). let s : Spans = record { made = xs; lanes = c.self.inside.lanes.items } in IsSound s) c.add.result c.add.new.self.made _ _ c.add.ensures.ok (err_made c.add.result c.add.new.self c.self.inside.table c.add.ensures.memory_leaves)
    (sound_new (record { made = c.self.inside.table.made; lanes = c.self.inside.lanes.items }) c.span.result c.args.site c.self.invariant
    (rw (c.span.ensures, subst (λ (s : RegistryValue). c.args.current ≡ current_of (entries_on c.args._lane.now.id s.spans.lanes)) (sym c.self.view_is) c.requires.current) live))
    c.self.invariant
