-- A step more.
use Rattle.std.proofs.Common.{inl, inr, sym, subst, ◌∙◌, refl}
use Rattle.std.proofs.lemmas.Bool.{true≢false}
use Rattle.trace_tasks.proofs.Common.{Holds}
use Rattle.futures.specs.declared.task.context.Context.{Context}
use Rattle.trace_tasks.proofs.polls.StepsSoFarLemmas.{IsAct, act_or, polling_more, lent_more, called_more, polling_first, polled_wants}
use Rattle.trace_tasks.proofs.running.TaskFutureTracedFuture.poll_in.Goals as goal
use Rattle.trace_tasks.proofs.running.TaskFutureTracedFuture.poll_in.Goals.{in-Yield, in_default-matches}

pub returns-then-matches-clause-context : goal.returns-then-matches-clause-context
returns-then-matches-clause-context g c = λ fact h. c.yield_now.ensures.kept fact (subst (λ (x : Context). Holds x fact) (sym c.loop-step.invariant.same_cx) h)

pub returns-in-Err-clause-context : goal.returns-in-Err-clause-context
returns-in-Err-clause-context g c = λ fact h. subst (λ (x : Context). Holds x fact) (sym c.loop-step.invariant.same_cx) h

pub returns-clause-context : goal.returns-clause-context
returns-clause-context g c = λ fact h. subst (λ (x : Context). Holds x fact) (sym c.loop-step.invariant.same_cx) h

pub loop-step-preserved : goal.loop-step-preserved
loop-step-preserved g c =
    let act : IsAct c.in-Some.step = elim (act_or c.in-Some.step) [
      | inl y ↦ elim c.match-matches.branch [
        | in-Yield w ↦ absurd (true≢false (sym w.matches-is ∙ c.if-matches.false))
        | in_default-matches w ↦ absurd (w.in_default-matches.not-Yield y)
      ]
      | inr a ↦ a
    ] in
    record {
      so_far = polling_more g.S.Subscriber.spans g.S.Subscriber.hint g.S.Subscriber.enables g.S.Subscriber.attaches g.S.Subscriber.kept g.S.Subscriber.is_whole g.S.Subscriber.does g.S.OtelPart.touches g.S.Subscriber.same_but_room c.args.lane.now c.args.at
          g.met.S.Subscriber.same_refl g.met.S.Subscriber.same_trans g.met.S.Subscriber.same_spans g.met.S.Subscriber.same_kept g.met.S.Subscriber.same_whole g.met.S.Subscriber.shows g.met.S.Subscriber.keeps_lanes g.met.S.Subscriber.keeps_whole g.met.S.OtelSubscriber.stays
          c.args.self.now.steps.items c.loop-step.self.steps.items c.in-Some.step c.pop_front.new.self.items c.args.world.now c.loop-step.world c.do_step.new.world c.loop-step.invariant.so_far c.in-Some.ensures.items act c.in-Ok.ensures.ok c.in-Ok.ensures.changes;
      same_cx = c.loop-step.invariant.same_cx;
    }

pub returns-in-Err-clause-keeps : goal.returns-in-Err-clause-keeps
returns-in-Err-clause-keeps g c =
    lent_more g.S.Subscriber.spans g.S.Subscriber.hint g.S.Subscriber.enables g.S.Subscriber.attaches g.S.Subscriber.kept g.S.Subscriber.is_whole g.S.Subscriber.does g.S.OtelPart.touches g.S.Subscriber.same_but_room c.args.lane.now c.args.at
    g.met.S.Subscriber.same_refl g.met.S.Subscriber.same_trans g.met.S.Subscriber.same_spans g.met.S.Subscriber.same_kept g.met.S.Subscriber.same_whole g.met.S.Subscriber.shows g.met.S.Subscriber.keeps_lanes g.met.S.Subscriber.keeps_whole g.met.S.OtelSubscriber.stays
    c.args.self.now.steps.items c.loop-step.self.steps.items c.args.world.now c.loop-step.world c.do_step.new.world c.loop-step.invariant.so_far c.do_step.ensures.changes

pub returns-in-Err-clause-moments : goal.returns-in-Err-clause-moments
returns-in-Err-clause-moments g c =
    called_more g.S.Subscriber.spans g.S.Subscriber.hint g.S.Subscriber.enables g.S.Subscriber.attaches g.S.Subscriber.kept g.S.Subscriber.is_whole g.S.Subscriber.does g.S.OtelPart.touches g.S.Subscriber.same_but_room c.args.lane.now c.args.at
    g.met.S.Subscriber.same_refl g.met.S.Subscriber.same_trans g.met.S.Subscriber.same_spans g.met.S.Subscriber.same_kept g.met.S.Subscriber.same_whole g.met.S.Subscriber.shows g.met.S.Subscriber.keeps_lanes g.met.S.Subscriber.keeps_whole g.met.S.OtelSubscriber.stays
    c.args.self.now.steps.items c.loop-step.self.steps.items c.args.world.now c.loop-step.world c.do_step.new.world c.loop-step.invariant.so_far c.do_step.ensures.changes

pub returns-in-Err-clause-did : goal.returns-in-Err-clause-did
returns-in-Err-clause-did g c =
    let act : IsAct c.in-Some.step = elim (act_or c.in-Some.step) [
      | inl y ↦ elim c.match-matches.branch [
        | in-Yield w ↦ absurd (true≢false (sym w.matches-is ∙ c.if-matches.false))
        | in_default-matches w ↦ absurd (w.in_default-matches.not-Yield y)
      ]
      | inr a ↦ a
    ] in
    polled_wants g.S.Subscriber.spans g.S.Subscriber.hint g.S.Subscriber.enables g.S.Subscriber.attaches g.S.Subscriber.kept g.S.Subscriber.is_whole g.S.Subscriber.does g.S.OtelPart.touches g.S.Subscriber.same_but_room c.args.lane.now c.args.at
    c.args.self.now.steps.items c.loop-step.self.steps.items c.in-Some.step c.pop_front.new.self.items c.args.world.now c.loop-step.world c.do_step.new.world c.loop-step.invariant.so_far c.in-Some.ensures.items act c.in-Err.ensures.wants

pub loop-step-init : goal.loop-step-init
loop-step-init g c = record {
  so_far = polling_first g.S.Subscriber.spans g.S.Subscriber.hint g.S.Subscriber.enables g.S.Subscriber.attaches g.S.Subscriber.kept g.S.Subscriber.is_whole g.S.Subscriber.does g.S.OtelPart.touches g.S.Subscriber.same_but_room c.args.lane.now c.args.at g.met.S.Subscriber.same_refl g.met.S.Subscriber.same_trans c.args.self.now.steps.items c.args.world.now;
  same_cx = refl;
}
