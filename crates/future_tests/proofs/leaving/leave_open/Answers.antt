-- Another handle of a span leaves what a poll needs.
use Rattle.future_tests.proofs.Lasting.{goes_on}
use Rattle.future_tests.proofs.Making.{copied_lent}
use Rattle.future_tests.proofs.leaving.leave_open.Goals as goal

pub poll-answer-requires-clause-ready : goal.poll-answer-requires-clause-ready
poll-answer-requires-clause-ready g c =
    goes_on g.S.Subscriber.spans g.S.Subscriber.kept g.S.Subscriber.is_whole c.add_first_span.new.world c.clone_handle-copy.new.world c.args.lane.now c.args.lane.now
    (copied_lent g.S.Subscriber.spans g.S.Subscriber.kept g.S.Subscriber.is_whole g.S.Subscriber.attaches g.S.Subscriber.does g.met.S.Subscriber.shows g.met.S.Subscriber.keeps_lanes g.met.S.Subscriber.keeps_whole c.add_first_span.new.world c.clone_handle-copy.new.world c.args.lane.now c.in_ok-stack.span.held c.clone_handle-copy.ensures.keeps.known c.clone_handle-copy.ensures.did) c.in_ok-stack.ensures.ready
