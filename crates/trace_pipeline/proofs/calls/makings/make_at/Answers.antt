-- By a subscriber and a callsite that were looked up.
use Rattle.std.proofs.Common.{true, false}
use Rattle.span_handles.proofs.Makers.{makes_by}
use Rattle.span_handles.proofs.Untouched.{none_replaced, world_back}
use Rattle.trace_pipeline.proofs.NamedSitesLemmas.{makes_named}
use Rattle.trace_pipeline.proofs.calls.makings.make_at.Goals as goal

pub returns-in_default-clause-leaves : goal.returns-in_default-clause-leaves
returns-in_default-clause-leaves g c = none_replaced g.S.Subscriber.same_but_room g.met.S.Subscriber.same_refl c.args.world.now c.args.dispatch c.requires.there

pub returns-then-not-passes-clause-ok : goal.returns-then-not-passes-clause-ok
returns-then-not-passes-clause-ok g c = makes_named g.S.Subscriber.does c.args.world.now _ c.args.dispatch c.in-Some.id c.args.site c.in-Some.ensures.some.0 c.subscriber_site_and_interest-subscriber.result.1.now c.subscriber_site_and_interest-subscriber.ensures.callsite
    c.args.parent c.in_ok-parent.parent c.in_ok-parent.ensures.parent c.args.fields c.in_ok-parent.values c.in_ok-parent.ensures.values c.args.lane.now c.args.at false c.in-Span.is g.S.Subscriber.spans c.none.result
    (c.none.ensures, world_back c.args.world.now c.args.dispatch c.subscriber_site_and_interest-subscriber.result.0.now c.subscriber_site_and_interest-subscriber.ensures.value)

pub returns-clause-ok : goal.returns-clause-ok
returns-clause-ok g c = makes_named g.S.Subscriber.does c.args.world.now _ c.args.dispatch c.in-Some.id c.args.site c.in-Some.ensures.some.0 c.subscriber_site_and_interest-subscriber.result.1.now c.subscriber_site_and_interest-subscriber.ensures.callsite
    c.args.parent c.in_ok-parent.parent c.in_ok-parent.ensures.parent c.args.fields c.in_ok-parent.values c.in_ok-parent.ensures.values c.args.lane.now c.args.at true c.in-Span.is g.S.Subscriber.spans c.in_ok-span.span
    (makes_by g.S.Subscriber.spans g.S.Subscriber.does c.args.world.now c.args.dispatch _ c.make_by.new.subscriber c.subscriber_site_and_interest-subscriber.ensures.value c.args.lane.now c.args.at c.in_ok-parent.parent c.in-Some.id _ c.subscriber_site_and_interest-subscriber.ensures.callsite c.in_ok-parent.values c.in_ok-span.span c.in_ok-span.ensures.ok)
