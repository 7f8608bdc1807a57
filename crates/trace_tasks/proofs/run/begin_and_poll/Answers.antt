-- The makings and the turns are the flat list, or a front of it.
use Rattle.std.proofs.Common.{refl}
use Rattle.trace_tasks.proofs.queues.BegunTasksLemmas.{few_polls, ran, answered, gave_up_if, gave_up_begun}
use Rattle.trace_tasks.proofs.run.begin_and_poll.Goals as goal

pub poll_all-requires-clause-few : goal.poll_all-requires-clause-few
poll_all-requires-clause-few g c = few_polls g.S.Subscriber.spans g.S.Subscriber.hint g.S.Subscriber.enables g.S.Subscriber.kept g.S.Subscriber.is_whole g.S.Subscriber.does g.S.OtelPart.touches c.args.tasks c.args.lane.now c.args.world.now c.begin_all.new.world c.begin_all.new.queue.items c.in-Ok.ensures.ok c.requires.few_polls

pub returns-in-Ok-clause-ok : goal.returns-in-Ok-clause-ok
returns-in-Ok-clause-ok g c = ran g.S.Subscriber.spans g.S.Subscriber.hint g.S.Subscriber.enables g.S.Subscriber.kept g.S.Subscriber.is_whole g.S.Subscriber.does g.S.OtelPart.touches c.args.world.now.sites c.args.tasks c.args.lane.now c.poll_all.new.lane c.args.world.now c.begin_all.new.world c.poll_all.new.world c.begin_all.new.queue.items c.poll_all.result refl c.in-Ok.ensures.ok c.poll_all.ensures.ok

pub returns-in-Err-clause-gives_up : goal.returns-in-Err-clause-gives_up
returns-in-Err-clause-gives_up g c = gave_up_begun g.S.Subscriber.spans g.S.Subscriber.hint g.S.Subscriber.enables g.S.Subscriber.kept g.S.Subscriber.is_whole g.S.Subscriber.does g.S.OtelPart.touches g.S.Subscriber.activates g.S.Subscriber.same_but_room c.args.world.now.sites c.args.tasks c.args.lane.now c.args.world.now c.begin_all.new.world c.close_all.new.world c.begin_all.new.queue.items c.in-Err.ensures.stops c.close_all.ensures.dropped

pub returns-in-Ok-clause-answer : goal.returns-in-Ok-clause-answer
returns-in-Ok-clause-answer g c =
    answered g.S.Subscriber.spans g.S.Subscriber.hint g.S.Subscriber.enables g.S.Subscriber.does g.S.OtelPart.touches c.args.world.now.sites c.args.tasks c.args.world.now c.poll_all.new.world c.args.lane.now c.poll_all.new.lane c.poll_all.result (returns-in-Ok-clause-ok g c)

pub returns-in-Ok-clause-gives_up : goal.returns-in-Ok-clause-gives_up
returns-in-Ok-clause-gives_up g c =
    gave_up_if g.S.Subscriber.spans g.S.Subscriber.hint g.S.Subscriber.enables g.S.Subscriber.kept g.S.Subscriber.is_whole g.S.Subscriber.does g.S.OtelPart.touches g.S.Subscriber.activates g.S.Subscriber.same_but_room c.args.world.now.sites c.args.tasks c.args.lane.now c.poll_all.new.lane c.args.world.now c.begin_all.new.world c.poll_all.new.world c.begin_all.new.queue.items c.poll_all.result refl c.in-Ok.ensures.ok c.poll_all.ensures.stops
