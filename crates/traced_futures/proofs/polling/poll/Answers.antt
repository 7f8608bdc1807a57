-- By what the poll did.
use Rattle.traced_futures.proofs.Polled.{polls, same_span, full}
use Rattle.traced_futures.proofs.polling.poll.Goals as goal

pub returns-clause-span : goal.returns-clause-span
returns-clause-span g c = same_span g.S.Subscriber c.lawful.ensures c.args.future.now c.args.world.now c.args.lane.now c.args.at c.poll_in.result c.poll_in.new.self c.poll_in.new.world c.poll_in.new.lane c.poll_in.ensures.did

pub returns-clause-full : goal.returns-clause-full
returns-clause-full g c = full g.S.Subscriber c.lawful.ensures c.args.future.now c.args.world.now c.args.lane.now c.args.at c.poll_in.result c.poll_in.new.self c.poll_in.new.world c.poll_in.new.lane c.poll_in.ensures.did

pub returns-clause-polls : goal.returns-clause-polls
returns-clause-polls g c = polls g.S.Subscriber c.lawful.ensures c.args.future.now c.args.world.now c.args.lane.now c.args.at c.poll_in.result c.poll_in.new.self c.poll_in.new.world c.poll_in.new.lane c.requires.enters.known c.poll_in.ensures.did
