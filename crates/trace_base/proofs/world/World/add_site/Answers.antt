-- One callsite more has its row.
use Rattle.trace_base.proofs.InterestLemmas.{asked_site}
use Rattle.trace_base.proofs.world.World.add_site.Goals as goal

pub invariant_of-self-2 : goal.invariant_of-self-2
invariant_of-self-2 g c =
    rw (c.in-Ok.ensures.items, c.in_ok-push.ensures.items, c.reserve.ensures.items)
    (asked_site g.S.Subscriber.same_but_room g.S.Subscriber.interest g.S.Subscriber.hint g.met.S.Subscriber.same_gate c.self.inside.sites.items c.args.callsite c.self.inside.subscribers.items c.ask.new.subscribers.items c.self.inside.cached.items c.in_ok-row.row c.self.inside.global
    c.self.invariant c.in_ok-row.ensures.row c.ask.ensures.same)
