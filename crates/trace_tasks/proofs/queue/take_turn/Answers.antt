-- The others wait still, or their handles are closed.
use Rattle.std.proofs.Common.{List, Option, subst, IfSome}
use Rattle.trace_tasks.proofs.Common.{IsKnown, Instrumented, TaskFuture, dispatch_serving, AllWait}
use Rattle.trace_tasks.proofs.queues.QueueLemmas.{all_known, known_after}
use Rattle.trace_tasks.proofs.queues.TurnsLemmas.{takes_turn}
use Rattle.trace_tasks.proofs.queue.take_turn.Goals as goal

pub close_all-requires-clause-known : goal.close_all-requires-clause-known
close_all-requires-clause-known g c =
    let wait = subst (λ (xs : List (Instrumented TaskFuture)). AllWait g.S.Subscriber.spans c.args.world.now (dispatch_serving c.args.lane.now) xs) c.in-Some.ensures.items c.requires.wait in
    known_after g.S.Subscriber.spans c.args.world.now c.poll_task.new.world c.in-Some.task c.pop_front.new.self.items c.poll_task.ensures.keeps wait.1 (all_known g.S.Subscriber.spans c.args.world.now (dispatch_serving c.args.lane.now) c.pop_front.new.self.items wait.2)

pub returns-in-Ok-clause-ok : goal.returns-in-Ok-clause-ok
returns-in-Ok-clause-ok g c =
    takes_turn g.S.Subscriber.spans g.S.Subscriber.hint g.S.Subscriber.enables g.S.Subscriber.kept g.S.Subscriber.is_whole g.S.Subscriber.does g.S.OtelPart.touches c.args.at c.args.queue.now.items c.put_back.new.queue.items c.in-Some.task c.pop_front.new.self.items c.in-Ok.left
    c.args.world.now c.poll_task.new.world c.args.lane.now c.poll_task.new.lane c.in-Some.ensures.items c.put_back.ensures c.requires.wait c.in-Ok.ensures.ok c.poll_task.ensures.keeps
    (λ g' is. subst (λ (o : Option (Instrumented TaskFuture)). IfSome o (λ h. IsKnown g.S.Subscriber.spans c.poll_task.new.world h.span.held)) is c.in-Ok.ensures.known)

pub returns-in-Err-clause-stops : goal.returns-in-Err-clause-stops
returns-in-Err-clause-stops g c = record {
  f = c.in-Some.task;
  others = c.pop_front.new.self.items;
  is = c.in-Some.ensures.items;
  world = c.poll_task.new.world;
  stops = c.in-Err.ensures.stops;
  dropped = c.close_all.ensures.dropped;
}
