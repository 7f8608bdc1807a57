-- To a subscriber and at a callsite that were looked up.
use Rattle.std.proofs.Common.{refl, true, false}
use Rattle.span_handles.proofs.Untouched.{none_replaced, world_back}
use Rattle.trace_pipeline.proofs.NamedSitesLemmas.{tells_named}
use Rattle.trace_pipeline.proofs.calls.events.tell_at.Goals as goal

pub returns-in_default-clause-leaves : goal.returns-in_default-clause-leaves
returns-in_default-clause-leaves g c = none_replaced g.S.Subscriber.same_but_room g.met.S.Subscriber.same_refl c.args.world.now c.args.dispatch c.requires.there

pub returns-then-not-passes-clause-ok : goal.returns-then-not-passes-clause-ok
returns-then-not-passes-clause-ok g c = tells_named g.S.Subscriber.does c.args.world.now _ c.args.dispatch c.in-Some.id c.args.site c.in-Some.ensures.some.0 c.subscriber_site_and_interest-subscriber.result.1.now c.subscriber_site_and_interest-subscriber.ensures.callsite
    c.args.parent c.in_ok-parent.parent c.in_ok-parent.ensures.parent c.args.fields c.in_ok-parent.values c.in_ok-parent.ensures.values c.args.lane.now c.args.at false c.in-Event.is
    (world_back c.args.world.now c.args.dispatch c.subscriber_site_and_interest-subscriber.result.0.now c.subscriber_site_and_interest-subscriber.ensures.value)

pub returns-clause-ok : goal.returns-clause-ok
returns-clause-ok g c = tells_named g.S.Subscriber.does c.args.world.now _ c.args.dispatch c.in-Some.id c.args.site c.in-Some.ensures.some.0 c.subscriber_site_and_interest-subscriber.result.1.now c.subscriber_site_and_interest-subscriber.ensures.callsite
    c.args.parent c.in_ok-parent.parent c.in_ok-parent.ensures.parent c.args.fields c.in_ok-parent.values c.in_ok-parent.ensures.values c.args.lane.now c.args.at true c.in-Event.is
    (record { callsite = _; is = c.subscriber_site_and_interest-subscriber.ensures.callsite; told = record { before = _; later = c.event.new.self; there = c.subscriber_site_and_interest-subscriber.ensures.value; did = c.in_ok-event.ensures.did; others = refl } })
