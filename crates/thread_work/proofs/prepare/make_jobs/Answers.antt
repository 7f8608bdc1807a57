use Rattle.std.proofs.Common.{◌≡◌, ◌∷◌, ◌∙◌, List, length, sym, ap, subst, arith}
use Rattle.thread_handles.specs.declared.job.Job.{Job}
use Rattle.thread_work.specs.Preparing.{AllUnstarted}
use Rattle.thread_work.proofs.PreparedLemmas.{begun_push, lists_more, gates_more}
use Rattle.thread_work.proofs.prepare.make_jobs.Goals as goal

pub loop-ops-preserved : goal.loop-ops-preserved
loop-ops-preserved g c =
    let i = c.loop-ops.invariant in
    let step : c.loop-ops.ops-iterator.rest.items ≡ c.in-Some.ops ∷ c.next.new.self.rest.items = c.in-Some.ensures.steps.0 in
    let popped : c.loop-ops.gates.items ≡ c.in-Some-pop_front.gate ∷ c.pop_front.new.self.items = c.in-Some-pop_front.ensures.items in
    let items = c.push_reserved.ensures.items in
    let len = c.push_reserved.ensures.len in
    let left = ap length step in
    let gates = ap length popped in
    let count = i.count in
    let all = i.len in
    record {
      begun = subst (λ (l : List (Job g.row.G.Denot)). AllUnstarted c.args.count l) (sym items) (begun_push c.args.count c.loop-ops.jobs.items c.in_ok-job.job i.begun c.in_ok-job.ensures.begun);
      lists = lists_more c.loop-ops.jobs.items c.push_reserved.new.self.items c.in_ok-job.job c.in-Some.ops _ _ _ items (c.in_ok-job.ensures.ops ∙ c.into_vec.ensures) step i.lists;
      gates = gates_more c.loop-ops.jobs.items c.push_reserved.new.self.items c.in_ok-job.job c.in-Some-pop_front.gate _ _ _ items c.in_ok-job.ensures.gate popped i.gates;
      count = omega (arith, left, gates, count);
      room = c.push_reserved.ensures.capacity ∙ i.room;
      len = omega (arith, len, left, all);
    }
