-- The new subscriber has answered with the others, or is the last one again.
use Rattle.std.proofs.Common.{◌∙◌, ap, sym, rules}
use Rattle.trace_base.specs.Gate.{interests_of_sites}
use Rattle.trace_base.proofs.InterestLemmas.{all_asked, registered_same, same_last_of, within_more}
use Rattle.trace_base.proofs.world.World.add.Goals as goal

pub invariant_of-self-in-Ok : goal.invariant_of-self-in-Ok
invariant_of-self-in-Ok g c = all_asked g.S.Subscriber.same_but_room g.S.Subscriber.interest g.S.Subscriber.hint g.met.S.Subscriber.same_gate c.self.inside.sites.items c.push.new.self.items c.ask_all.new.subscribers.items _ c.self.inside.global
    (c.in-Ok.ensures.rows ∙ ap (interests_of_sites g.S.Subscriber.interest c.push.new.self.items) c.as_slice.ensures.value) c.ask_all.ensures.same (within_more c.self.inside.subscribers.items c.push.new.self.items c.args.subscriber c.self.inside.global (search rules) c.self.invariant.there)

pub returns-in-Ok-clause-fresh : goal.returns-in-Ok-clause-fresh
returns-in-Ok-clause-fresh g c = c.in-Ok.ensures.rows ∙ ap (interests_of_sites g.S.Subscriber.interest c.push.new.self.items) c.as_slice.ensures.value
    ∙ sym (registered_same g.S.Subscriber.same_but_room g.S.Subscriber.interest g.S.Subscriber.hint g.met.S.Subscriber.same_gate c.push.new.self.items c.ask_all.new.subscribers.items c.self.inside.sites.items c.ask_all.ensures.same)

pub returns-in-Some-clause-back : goal.returns-in-Some-clause-back
returns-in-Some-clause-back g c = (same_last_of g.S.Subscriber.same_but_room c.self.inside.subscribers.items c.push.new.self.items c.ask_all.new.subscribers.items c.pop.new.self.items c.args.subscriber c.in-Some.subscriber (search rules) c.in-Some.ensures.items c.ask_all.ensures.same).1

pub returns-in-Some-clause-memory_same : goal.returns-in-Some-clause-memory_same
returns-in-Some-clause-memory_same g c = let whole = (same_last_of g.S.Subscriber.same_but_room c.self.inside.subscribers.items c.push.new.self.items c.ask_all.new.subscribers.items c.pop.new.self.items c.args.subscriber c.in-Some.subscriber (search rules) c.in-Some.ensures.items c.ask_all.ensures.same).0 in search (rules, whole)
