-- All subscribers have answered.
use Rattle.std.proofs.Common.{◌∙◌, ap, sym}
use Rattle.trace_base.specs.Gate.{interests_of_sites}
use Rattle.trace_base.proofs.InterestLemmas.{all_asked, registered_same}
use Rattle.trace_base.proofs.world.World.rebuild_interest.Goals as goal

pub returns-clause-fresh : goal.returns-clause-fresh
returns-clause-fresh g c = c.in_ok-rows.ensures.rows ∙ ap (interests_of_sites g.S.Subscriber.interest c.self.inside.subscribers.items) c.as_slice.ensures.value
    ∙ sym (registered_same g.S.Subscriber.same_but_room g.S.Subscriber.interest g.S.Subscriber.hint g.met.S.Subscriber.same_gate c.self.inside.subscribers.items c.ask_all.new.subscribers.items c.self.inside.sites.items c.ask_all.ensures.same)

pub invariant_of-self-2 : goal.invariant_of-self-2
invariant_of-self-2 g c = all_asked g.S.Subscriber.same_but_room g.S.Subscriber.interest g.S.Subscriber.hint g.met.S.Subscriber.same_gate c.self.inside.sites.items c.self.inside.subscribers.items c.ask_all.new.subscribers.items _ c.self.inside.global
    (c.in_ok-rows.ensures.rows ∙ ap (interests_of_sites g.S.Subscriber.interest c.self.inside.subscribers.items) c.as_slice.ensures.value) c.ask_all.ensures.same c.self.invariant.there
