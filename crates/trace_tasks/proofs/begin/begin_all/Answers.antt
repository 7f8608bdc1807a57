-- One task more.
use Rattle.std.proofs.Common.{◌≡◌, ◌∙◌, ◌++◌, ◌∷◌, [], List, length, append_assoc, ap, sym, subst, rules, refl}
use Rattle.trace_tasks.proofs.Common.{Instrumented, TaskFuture, Task, untouched, AllHaveCallsites, AreBegun, StopsBeginning, dispatch_serving, AllKnownAndApart}
use Rattle.trace_tasks.proofs.queues.BegunTasksLemmas.{on_err, none_begun, one_more_begun, known_stays}
use Rattle.trace_tasks.proofs.queues.QueueLemmas.{all_known}
use Rattle.trace_tasks.proofs.begin.begin_all.Goals as goal

pub loop-task-init : goal.loop-task-init
loop-task-init g c =
    let rest : c.into_iter-task-iterator.result.rest.items ≡ c.args.tasks = search rules in (
      [],
      rest,
      subst (λ (xs : List Task). AllHaveCallsites (length c.args.world.now.sites) xs) (sym rest) c.requires.sites,
      subst (λ (fs : List (Instrumented TaskFuture)). AreBegun g.S.Subscriber.spans g.S.Subscriber.hint g.S.Subscriber.enables g.S.Subscriber.kept g.S.Subscriber.is_whole g.S.Subscriber.does g.S.OtelPart.touches [] c.args.lane.now c.args.world.now c.args.world.now fs) (sym c.requires.none) (none_begun g.S.Subscriber.spans g.S.Subscriber.hint g.S.Subscriber.enables g.S.Subscriber.kept g.S.Subscriber.is_whole g.S.Subscriber.does g.S.OtelPart.touches c.args.lane.now c.args.world.now c.requires.ready),
    )

pub returns-in_err-reserve-clause-known : goal.returns-in_err-reserve-clause-known
returns-in_err-reserve-clause-known g c =
    subst (λ (fs : List (Instrumented TaskFuture)). AllKnownAndApart g.S.Subscriber.spans c.loop-task.world fs) (sym c.reserve.ensures.items) (all_known g.S.Subscriber.spans c.loop-task.world (dispatch_serving c.args.lane.now) c.loop-task.queue.items c.loop-task.invariant.3.wait)

pub returns-in_err-begun-clause-known : goal.returns-in_err-begun-clause-known
returns-in_err-begun-clause-known g c =
    subst (λ (fs : List (Instrumented TaskFuture)). AllKnownAndApart g.S.Subscriber.spans c.begin.new.world fs) (sym c.reserve.ensures.items)
    (known_stays g.S.Subscriber.spans c.loop-task.world c.begin.new.world c.loop-task.queue.items c.begin.ensures.keeps (all_known g.S.Subscriber.spans c.loop-task.world (dispatch_serving c.args.lane.now) c.loop-task.queue.items c.loop-task.invariant.3.wait))

pub returns-clause-known : goal.returns-clause-known
returns-clause-known g c = all_known g.S.Subscriber.spans c.loop-task.world (dispatch_serving c.args.lane.now) c.loop-task.queue.items c.loop-task.invariant.3.wait

pub loop-task-preserved : goal.loop-task-preserved
loop-task-preserved g c =
    let next : c.loop-task.task-iterator.rest.items ≡ c.in-Some.task ∷ c.next.new.self.rest.items = search rules in
    let queue : c.push_back_reserved.new.self.items ≡ c.loop-task.queue.items ++ c.in_ok-begun.begun ∷ [] = c.push_back_reserved.ensures.items ∙ ap (λ (fs : List (Instrumented TaskFuture)). fs ++ c.in_ok-begun.begun ∷ []) c.reserve.ensures.items in (
      c.loop-task.invariant.0 ++ c.in-Some.task ∷ [],
      append_assoc c.loop-task.invariant.0 (c.in-Some.task ∷ []) c.next.new.self.rest.items ∙ ap (λ (xs : List Task). c.loop-task.invariant.0 ++ xs) (sym next) ∙ c.loop-task.invariant.1,
      (subst (λ (xs : List Task). AllHaveCallsites (length c.args.world.now.sites) xs) next c.loop-task.invariant.2).1,
      subst (λ (fs : List (Instrumented TaskFuture)). AreBegun g.S.Subscriber.spans g.S.Subscriber.hint g.S.Subscriber.enables g.S.Subscriber.kept g.S.Subscriber.is_whole g.S.Subscriber.does g.S.OtelPart.touches (c.loop-task.invariant.0 ++ c.in-Some.task ∷ []) c.args.lane.now c.args.world.now c.begin.new.world fs) (sym queue)
          (one_more_begun g.S.Subscriber.spans g.S.Subscriber.hint g.S.Subscriber.enables g.S.Subscriber.kept g.S.Subscriber.is_whole g.S.Subscriber.does g.S.OtelPart.touches c.loop-task.invariant.0 c.in-Some.task c.args.lane.now c.args.world.now c.loop-task.world c.begin.new.world c.loop-task.queue.items c.in_ok-begun.begun c.loop-task.invariant.3 c.in_ok-begun.ensures.ok c.begin.ensures.keeps),
    )

pub returns-in_err-reserve-clause-stops : goal.returns-in_err-reserve-clause-stops
returns-in_err-reserve-clause-stops g c =
    let next : c.loop-task.task-iterator.rest.items ≡ c.in-Some.task ∷ c.next.new.self.rest.items = search rules in
    let stops : StopsBeginning g.S.Subscriber.spans g.S.Subscriber.hint g.S.Subscriber.enables g.S.Subscriber.kept g.S.Subscriber.is_whole g.S.Subscriber.does g.S.OtelPart.touches g.S.Subscriber.same_but_room c.args.tasks c.args.lane.now c.args.world.now c.loop-task.world c.reserve.new.self.items = record {
      first = c.loop-task.invariant.0;
      within = (c.in-Some.task, c.next.new.self.rest.items, ap (λ (xs : List Task). c.loop-task.invariant.0 ++ xs) (sym next) ∙ c.loop-task.invariant.1);
      world = c.loop-task.world;
      so_far = subst (λ (fs : List (Instrumented TaskFuture)). AreBegun g.S.Subscriber.spans g.S.Subscriber.hint g.S.Subscriber.enables g.S.Subscriber.kept g.S.Subscriber.is_whole g.S.Subscriber.does g.S.OtelPart.touches c.loop-task.invariant.0 c.args.lane.now c.args.world.now c.loop-task.world fs) (sym c.reserve.ensures.items) c.loop-task.invariant.3;
      wants = untouched refl;
    } in
    on_err _ _ stops

pub returns-in_err-begun-clause-stops : goal.returns-in_err-begun-clause-stops
returns-in_err-begun-clause-stops g c =
    let next : c.loop-task.task-iterator.rest.items ≡ c.in-Some.task ∷ c.next.new.self.rest.items = search rules in
    let stops : StopsBeginning g.S.Subscriber.spans g.S.Subscriber.hint g.S.Subscriber.enables g.S.Subscriber.kept g.S.Subscriber.is_whole g.S.Subscriber.does g.S.OtelPart.touches g.S.Subscriber.same_but_room c.args.tasks c.args.lane.now c.args.world.now c.begin.new.world c.reserve.new.self.items = record {
      first = c.loop-task.invariant.0;
      within = (c.in-Some.task, c.next.new.self.rest.items, ap (λ (xs : List Task). c.loop-task.invariant.0 ++ xs) (sym next) ∙ c.loop-task.invariant.1);
      world = c.loop-task.world;
      so_far = subst (λ (fs : List (Instrumented TaskFuture)). AreBegun g.S.Subscriber.spans g.S.Subscriber.hint g.S.Subscriber.enables g.S.Subscriber.kept g.S.Subscriber.is_whole g.S.Subscriber.does g.S.OtelPart.touches c.loop-task.invariant.0 c.args.lane.now c.args.world.now c.loop-task.world fs) (sym c.reserve.ensures.items) c.loop-task.invariant.3;
      wants = c.in_err-begun.ensures.wants;
    } in
    on_err _ _ stops
