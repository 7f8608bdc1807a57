-- Stacks that were just made keep nothing attached.
use Rattle.future_tests.proofs.Starting.{none_kept}
use Rattle.future_tests.proofs.served.poll_under_taken_default.Goals as goal

pub poll_in-requires-clause-still : goal.poll_in-requires-clause-still
poll_in-requires-clause-still g c = none_kept g.S.Subscriber.spans g.S.Subscriber.kept g.S.Subscriber.is_whole c.add_two_stacks.new.world c.add_two_stacks.new.lane c.in_ok-second.ensures.unused
