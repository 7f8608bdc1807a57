-- The current span is live.
use Rattle.std.proofs.Common.{subst}
use Rattle.span_registry.proofs.Common.{IsLive, RegistryValue, current_live}
use Rattle.span_registry.proofs.registry.RegistrySubscriber.current_span.Goals as goal

pub site-requires : goal.site-requires
site-requires c = current_live (record { made = c.self.inside.table.made; lanes = c.self.inside.lanes.items }) c.args.lane c.in_ok-id.id c.self.invariant (rw (c.current.ensures, c.as_slice.ensures.value) at c.in_ok-id.was)

pub returns-clause-live : goal.returns-clause-live
returns-clause-live c =
    subst (λ (r : RegistryValue). IsLive r.spans.made c.in_ok-id.id) c.self.view_is
    (current_live (record { made = c.self.inside.table.made; lanes = c.self.inside.lanes.items }) c.args.lane c.in_ok-id.id c.self.invariant (rw (c.current.ensures, c.as_slice.ensures.value) at c.in_ok-id.was))
