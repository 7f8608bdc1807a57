-- The others stay known.
use Rattle.std.proofs.Common.{◌≡◌, [], List, subst, arith}
use Rattle.trace_tasks.proofs.Common.{common_steps, Instrumented, TaskFuture, AllKnownAndApart}
use Rattle.trace_tasks.proofs.queues.LeftHandlesLemmas.{closing_first, closing_more, closed_all}
use Rattle.trace_tasks.proofs.queues.QueueLemmas.{known_after}
use Rattle.trace_tasks.proofs.polls.TurnLemmas.{closed_whole}
use Rattle.trace_tasks.proofs.queue.close_all.Goals as goal

pub loop-task-preserved : goal.loop-task-preserved
loop-task-preserved g c =
    let known = subst (λ (xs : List (Instrumented TaskFuture)). AllKnownAndApart g.S.Subscriber.spans c.loop-task.world xs) c.in-Some.ensures.items c.loop-task.invariant.known in
    record {
      known = known_after g.S.Subscriber.spans c.loop-task.world c.into_inner-ended.new.world c.in-Some.task c.pop_front.new.self.items (λ held apart k. c.into_inner-ended.ensures.keeps.known held apart k) known.1 known.2;
      whole = closed_whole g.S.Subscriber.spans g.S.Subscriber.is_whole g.S.Subscriber.does g.met.S.Subscriber.keeps_whole c.args.at c.in-Some.task.span.held c.loop-task.world c.into_inner-ended.new.world c.into_inner-ended.ensures.did c.loop-task.invariant.whole;
      closing = λ handles ts stand. closing_more g.S.Subscriber.spans g.S.Subscriber.hint g.S.Subscriber.enables g.S.Subscriber.does g.S.OtelPart.touches c.args.at c.args.queue.now.items c.loop-task.queue.items c.in-Some.task c.pop_front.new.self.items c.args.world.now c.loop-task.world c.into_inner-ended.new.world handles ts
          c.in-Some.ensures.items (c.loop-task.invariant.closing handles ts stand) c.into_inner-ended.ensures.did;
    }

pub returns-clause-dropped : goal.returns-clause-dropped
returns-clause-dropped g c = λ handles ts stand.
    let empty : c.loop-task.queue.items ≡ [] = first_of (grind (arith, common_steps), grind (arith, common_steps, c.in_default.ensures.items, c.in_default.ensures.cases, c.loop-task.queue.ok)) in
    closed_all g.S.Subscriber.spans g.S.Subscriber.hint g.S.Subscriber.enables g.S.Subscriber.does g.S.OtelPart.touches c.args.at c.args.queue.now.items c.loop-task.queue.items c.args.world.now c.loop-task.world handles ts empty (c.loop-task.invariant.closing handles ts stand)

pub loop-task-init : goal.loop-task-init
loop-task-init g c = record {
  known = c.requires.known;
  whole = c.requires.whole;
  closing = λ handles ts stand. closing_first g.S.Subscriber.spans g.S.Subscriber.hint g.S.Subscriber.enables g.S.Subscriber.does g.S.OtelPart.touches c.args.at c.args.queue.now.items c.args.world.now handles ts stand;
}
