use Rattle.std.proofs.Common.{[], sym, subst, ◌∙◌, ◌+◌, ap, List, length}
use Rattle.trace_threads.specs.Handles.{SharedHandle}
use Rattle.thread_script.specs.Plans.{last_moment}
use Rattle.thread_handles.specs.Works.{SpanMomentsInRange, AllReleased, AllAtWork}
use Rattle.thread_handles.proofs.WorkLemmas.{made_low, last_low, all_left, on_done, no_held}
use Rattle.thread_handles.proofs.ClonesLemmas.{take_front}
use Rattle.thread_handles.proofs.worker.run_job.Goals as goal

pub end_all-requires-clause-moments : goal.end_all-requires-clause-moments
end_all-requires-clause-moments g c =
    let ok = c.args.job.now.handles.ok.0 in
    let len = c.make_calls.ensures.len in
    let value = c.as_mut_slice.ensures.value in
    let len' = len ∙ ap length value in
    subst (λ (l : List SharedHandle). SpanMomentsInRange c.args.plan.now (length l)) (sym (take_front c.args.job.now.handles.len c.make_calls.new.handles _ (len' ∙ sym ok)))
    (made_low c.args.plan.now c.args.job.now.handles.items (length c.make_calls.new.handles) no_held (sym len') c.requires.ready.made)

pub end_all-requires-clause-last : goal.end_all-requires-clause-last
end_all-requires-clause-last g c at e = last_low c.args.job.now.ops.items c.args.job.now.last at c.requires.ready.last_is c.requires.ready.timed e

pub returns-clause-done : goal.returns-clause-done
returns-clause-done g c done =
    let ok = c.args.job.now.handles.ok.0 in
    let len = c.make_calls.ensures.len in
    let value = c.as_mut_slice.ensures.value in
    let len' = len ∙ ap length value in
    let ops = c.args.job.now.ops.items in
    let hs = c.args.job.now.handles.items in
    let gs = c.make_calls.new.handles in
    let working = on_done c.make_calls.result c.is_ok.result _ c.is_ok.ensures.value done c.make_calls.ensures.done in
    let working' = subst (λ (l : List SharedHandle). AllAtWork c.args.plan.now (c.args.worker + 1) (last_moment ops) ops [] l gs) value working in
    let released = subst (λ (l : List SharedHandle). AllReleased c.args.plan.now c.args.job.now.last l c.end_all.new.left.items) (take_front c.args.job.now.handles.len gs _ (len' ∙ sym ok)) c.end_all.ensures.left in
    all_left c.args.plan.now (c.args.worker + 1) ops c.args.job.now.last hs gs c.end_all.new.left.items c.requires.ready.last_is c.requires.ready.made len' working' released
