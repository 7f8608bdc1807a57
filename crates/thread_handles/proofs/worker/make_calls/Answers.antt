use Rattle.std.proofs.Common.{◌≡◌, ◌+◌, ◌∙◌, ◌∷◌, List, refl, subst}
use Rattle.thread_script.specs.declared.script.WorkerOp.{WorkerOp}
use Rattle.thread_script.specs.Plans.{MomentsInRange, last_moment}
use Rattle.thread_handles.specs.Works.{AllAtWork}
use Rattle.thread_handles.proofs.WorkLemmas.{did_all}
use Rattle.thread_handles.proofs.worker.make_calls.Goals as goal

pub loop-op-preserved : goal.loop-op-preserved
loop-op-preserved g c =
    let i = c.loop-op.invariant in
    let e : c.loop-op.ops.items ≡ c.in-Some.op ∷ c.pop_front.new.self.items = c.in-Some.ensures.items in
    let timed : MomentsInRange (c.in-Some.op ∷ c.pop_front.new.self.items) = subst MomentsInRange e i.timed in
    let all = c.args.ops.now.items in
    let before = subst (λ (l : List WorkerOp). AllAtWork c.args.plan.now (c.args.worker + 1) (last_moment all) all l c.args.handles.now c.loop-op.handles) e i.working in
    record {
      opening = c.make_call.ensures.same ∙ i.opening;
      levels = (refl, c.new.ensures);
      len = c.make_call.ensures.len ∙ i.len;
      timed = timed.1;
      working = did_all c.args.plan.now (c.args.worker + 1) (last_moment all) all c.pop_front.new.self.items c.in-Some.op c.args.handles.now c.loop-op.handles c.make_call.new.handles i.len before c.in_ok-make_call.ensures.did;
    }
