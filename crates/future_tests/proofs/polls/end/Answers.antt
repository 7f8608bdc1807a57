-- The entry of an end finds what it needs, and a refused one leaves it.
use Rattle.std.proofs.Common.{sym, subst}
use Rattle.span_futures.specs.declared.instrument.Instrumented.{Instrumented}
use Rattle.span_futures.proofs.Inside.{on_all, refused, still_on}
use Rattle.span_handles.specs.Handles.{HasOn}
use Rattle.future_tests.specs.declared.acts.LaneProbe.{LaneProbe}
use Rattle.future_tests.proofs.polls.end.Goals as goal

pub end-requires-clause-still : goal.end-requires-clause-still
end-requires-clause-still g c = still_on g.S.Subscriber.kept c.args.world.now c.args.lane.now c.args.future.span.held c.requires.ready.still

pub into_inner-requires-clause-whole : goal.into_inner-requires-clause-whole
into_inner-requires-clause-whole g c =
    let lent = refused g.S.Subscriber.spans g.S.Subscriber.kept g.S.Subscriber.is_whole g.S.Subscriber.same_but_room g.met.S.Subscriber.same_spans g.met.S.Subscriber.same_kept g.met.S.Subscriber.same_whole c.args.future.span.held c.args.world.now c.end.new.world c.args.lane.now c.end.new.lane c.in-Err.ensures.leaves c.in-Err.ensures.lane_leaves in
    subst (λ (f : Instrumented LaneProbe). HasOn (λ s id. g.S.Subscriber.is_whole s) c.end.new.world f.span.held) (sym c.in-Err.ensures.back)
    (on_all g.S.Subscriber.is_whole c.end.new.world c.args.future.span.held (lent.whole c.requires.ready.whole))
