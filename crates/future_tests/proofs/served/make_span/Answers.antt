-- A span may be made in a poll under a stack that was just made.
use Rattle.std.proofs.Common.{arith}
use Rattle.future_tests.proofs.Starting.{none_kept, room_under}
use Rattle.future_tests.proofs.served.make_span.Goals as goal

pub poll_in-requires-clause-room : goal.poll_in-requires-clause-room
poll_in-requires-clause-room g c =
    let count = c.requires.count in
    room_under g.S.Subscriber.spans g.S.Subscriber.kept g.S.Subscriber.is_whole c.args.world.now c.args.lane.now c.args.future.dispatch 1 c.requires.served c.requires.unused (omega (arith, count))

pub poll_in-requires-clause-still : goal.poll_in-requires-clause-still
poll_in-requires-clause-still g c = none_kept g.S.Subscriber.spans g.S.Subscriber.kept g.S.Subscriber.is_whole c.args.world.now c.args.lane.now c.requires.unused
