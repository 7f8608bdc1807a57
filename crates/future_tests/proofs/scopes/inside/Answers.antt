-- A closure that looks around finds what it needs, and leaves all as it is.
use Rattle.std.proofs.Common.{arith}
use Rattle.span_futures.proofs.Inside.{begun, polled_inside, refused, still_on}
use Rattle.future_tests.proofs.Lasting.{either_way, nothing_lent}
use Rattle.future_tests.proofs.scopes.inside.Goals as goal

pub in_scope-requires-clause-still : goal.in_scope-requires-clause-still
in_scope-requires-clause-still g c = still_on g.S.Subscriber.kept c.args.world.now c.args.lane.now c.args.span.now.held c.requires.ready.still

pub in_scope-requires-clause-callable : goal.in_scope-requires-clause-callable
in_scope-requires-clause-callable g c = λ w l begins. (
    let b = begun g.S.Subscriber.spans g.S.Subscriber.attaches g.S.Subscriber.kept g.S.Subscriber.is_whole g.S.Subscriber.does g.met.S.Subscriber.sound g.met.S.Subscriber.allowed g.met.S.Subscriber.shows g.met.S.Subscriber.keeps_lanes g.met.S.Subscriber.keeps_whole 10 c.args.span.now.held c.args.world.now w.now c.args.lane.now l.now begins in
    let more = b.parts.subscribers in
    let there = c.requires.there in
    (omega (arith, more, there), b.whole c.requires.ready.whole))

pub returns-clause-whole : goal.returns-clause-whole
returns-clause-whole g c =
    either_way c.in_scope.result _ _ _ _
    (λ x ok. (polled_inside g.S.Subscriber.spans g.S.Subscriber.attaches g.S.Subscriber.kept g.S.Subscriber.is_whole g.S.Subscriber.does g.met.S.Subscriber.sound g.met.S.Subscriber.allowed g.met.S.Subscriber.shows g.met.S.Subscriber.keeps_lanes g.met.S.Subscriber.keeps_whole 10 c.args.span.now.held c.args.world.now ok.0.now ok.2.now c.in_scope.new.world c.args.lane.now ok.1.now ok.3.now c.in_scope.new.lane c.requires.known ok.4
    (nothing_lent g.S.Subscriber.spans g.S.Subscriber.kept g.S.Subscriber.is_whole ok.0.now ok.2.now ok.1.now ok.3.now ok.5.0 ok.5.1) ok.6 ok.7).whole c.requires.ready.whole)
    (λ leaves lane_leaves. (refused g.S.Subscriber.spans g.S.Subscriber.kept g.S.Subscriber.is_whole g.S.Subscriber.same_but_room g.met.S.Subscriber.same_spans g.met.S.Subscriber.same_kept g.met.S.Subscriber.same_whole c.args.span.now.held c.args.world.now c.in_scope.new.world c.args.lane.now c.in_scope.new.lane leaves lane_leaves).whole c.requires.ready.whole)
    c.in_scope.ensures.ok c.in_scope.ensures.leaves c.in_scope.ensures.lane_leaves
