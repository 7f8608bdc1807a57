use Rattle.std.proofs.Common.{sym, ◌∙◌, subst, List, length}
use Rattle.thread_handles.specs.declared.job.Job.{Job}
use Rattle.thread_handles.specs.Columns.{AllComeToClosed, AreJoined}
use Rattle.thread_handles.proofs.ClonesLemmas.{take_front}
use Rattle.thread_work.specs.Jobs.{AreDone}
use Rattle.thread_work.proofs.SpansLemmas.{shared_at, ready_for, are_whole, all_ended}
use Rattle.thread_work.proofs.spans.work_over.Goals as goal

pub run_all-requires-after_bounds : goal.run_all-requires-after_bounds
run_all-requires-after_bounds g c κs within =
    let sh = shared_at (length c.args.spans.items) c.args.spans.items c.args.jobs.items c.as_mut_slice.result.now c.share_all.new.jobs c.as_mut_slice-2.result.now _ c.share_all.new.firsts.items c.args.jobs.len c.as_mut_slice.ensures.value c.share_all.ensures.same (sym c.args.jobs.ok.0) c.as_mut_slice-2.ensures.value c.in-Ok.ensures.shared in
    ready_for g.G.EventGate.opening c.args.plan.now c.args.spans.items c.args.jobs.items c.as_mut_slice-2.result.now c.share_all.new.firsts.items c.requires.spans c.requires.jobs sh.0 c.in-Ok.ensures.len sh.1

pub gather_all-requires-clause-whole : goal.gather_all-requires-clause-whole
gather_all-requires-clause-whole g c =
    let sh = shared_at (length c.args.spans.items) c.args.spans.items c.args.jobs.items c.as_mut_slice.result.now c.share_all.new.jobs c.as_mut_slice-2.result.now _ c.share_all.new.firsts.items c.args.jobs.len c.as_mut_slice.ensures.value c.share_all.ensures.same (sym c.args.jobs.ok.0) c.as_mut_slice-2.ensures.value c.in-Ok.ensures.shared in
    let run = c.run_all.new.jobs in
    let n = c.run_all.ensures.len in
    let back = take_front c.args.jobs.len run _ (n ∙ c.as_mut_slice-2.ensures.len) in
    let done = subst AreDone (c.as_slice.ensures.value ∙ back) (c.all_done.ensures c.if-not-all_done.false) in
    let same = c.as_mut_slice-3.ensures.value ∙ back in
    subst (AllComeToClosed c.share_all.new.firsts.items) (sym same) (are_whole g.G.EventGate.opening c.args.plan.now c.args.spans.items c.args.jobs.items c.as_mut_slice-2.result.now c.share_all.new.firsts.items c.requires.spans c.requires.jobs sh.0 c.in-Ok.ensures.len sh.1 run n c.run_all.ensures.run done)

pub returns-clause-ended : goal.returns-clause-ended
returns-clause-ended g c =
    let sh = shared_at (length c.args.spans.items) c.args.spans.items c.args.jobs.items c.as_mut_slice.result.now c.share_all.new.jobs c.as_mut_slice-2.result.now _ c.share_all.new.firsts.items c.args.jobs.len c.as_mut_slice.ensures.value c.share_all.ensures.same (sym c.args.jobs.ok.0) c.as_mut_slice-2.ensures.value c.in-Ok.ensures.shared in
    let run = c.run_all.new.jobs in
    let n = c.run_all.ensures.len in
    let back = take_front c.args.jobs.len run _ (n ∙ c.as_mut_slice-2.ensures.len) in
    let done = subst AreDone (c.as_slice.ensures.value ∙ back) (c.all_done.ensures c.if-not-all_done.false) in
    let same = c.as_mut_slice-3.ensures.value ∙ back in
    all_ended g.G.EventGate.opening c.args.plan.now c.args.spans.items c.args.jobs.items c.as_mut_slice-2.result.now c.share_all.new.firsts.items c.requires.spans c.requires.jobs sh.0 c.in-Ok.ensures.len sh.1 run n c.run_all.ensures.run done c.gather_all.new.ended.items (subst (λ (l : List (Job g.row.G.Denot)). AreJoined c.share_all.new.firsts.items l c.gather_all.new.ended.items) same c.gather_all.ensures.joined)
