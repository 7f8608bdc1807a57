-- One subscriber more has answered, and took room at most.
use Rattle.std.proofs.Common.{◌<◌, List, length, arith, ◌∙◌}
use Rattle.trace_base.specs.declared.subscriber.Interest.{Interest}
use Rattle.trace_base.proofs.InterestLemmas.{same_one, asked_more, interests_same}
use Rattle.trace_base.proofs.world.ask.Goals as goal

pub returns-in_err-register_callsite-clause-same :
    goal.returns-in_err-register_callsite-clause-same
returns-in_err-register_callsite-clause-same g c =
    let within : c.loop-at.at < length c.loop-at.subscribers.items = omega (arith, c.len-at-end.ensures, c.loop-at.invariant.same.count, c.args.subscribers.now.ok.0, c.loop-at-test.true) in
    same_one g.S.Subscriber.same_but_room g.met.S.Subscriber.same_refl g.met.S.Subscriber.same_trans _ c.loop-at.subscribers.items c.loop-at.at _ c.register_callsite.new.self c.loop-at.invariant.same within c.index_mut.ensures.value c.register_callsite.ensures.leaves

pub returns-in_err-push-clause-same : goal.returns-in_err-push-clause-same
returns-in_err-push-clause-same g c =
    let within : c.loop-at.at < length c.loop-at.subscribers.items = omega (arith, c.len-at-end.ensures, c.loop-at.invariant.same.count, c.args.subscribers.now.ok.0, c.loop-at-test.true) in
    same_one g.S.Subscriber.same_but_room g.met.S.Subscriber.same_refl g.met.S.Subscriber.same_trans _ c.loop-at.subscribers.items c.loop-at.at _ c.register_callsite.new.self c.loop-at.invariant.same within c.index_mut.ensures.value c.register_callsite.ensures.leaves

pub loop-at-preserved : goal.loop-at-preserved
loop-at-preserved g c =
    let within : c.loop-at.at < length c.loop-at.subscribers.items = omega (arith, c.len-at-end.ensures, c.loop-at.invariant.same.count, c.args.subscribers.now.ok.0, c.loop-at-test.true) in
    let alike = interests_same g.S.Subscriber.same_but_room g.S.Subscriber.interest g.S.Subscriber.hint g.met.S.Subscriber.same_gate c.args.subscribers.now.items c.loop-at.subscribers.items c.args.callsite.now c.loop-at.invariant.same in
    record {
      same = same_one g.S.Subscriber.same_but_room g.met.S.Subscriber.same_refl g.met.S.Subscriber.same_trans _ c.loop-at.subscribers.items c.loop-at.at _ c.register_callsite.new.self c.loop-at.invariant.same within c.index_mut.ensures.value c.register_callsite.ensures.leaves;
      answers = ◌∙◌ {A = List Interest} c.in_ok-push.ensures.items (asked_more (λ s. g.S.Subscriber.interest s c.args.callsite.now) c.args.subscribers.now.items c.loop-at.subscribers.items c.loop-at.at c.index_mut.result.now c.in_ok-register_callsite.field-0 c.loop-at.interests.items alike within c.index_mut.ensures.value c.in_ok-register_callsite.ensures.value c.loop-at.invariant.answers);
    }
