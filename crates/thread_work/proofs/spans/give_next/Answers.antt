use Rattle.std.proofs.Common.{◌≡◌, ◌<◌, ◌+◌, ◌∙◌, suc, refl, arith, length, slice_index_or, length-set}
use Rattle.thread_handles.specs.declared.job.Job.{Job}
use Rattle.thread_handles.proofs.WorkLemmas.{drop_more}
use Rattle.thread_work.proofs.SpansLemmas.{got_more, rest_after}
use Rattle.thread_work.proofs.spans.give_next.Goals as goal

pub loop-w-preserved : goal.loop-w-preserved
loop-w-preserved g c =
    let i = c.loop-w.invariant in
    let t = c.loop-w-test.true in
    let n = i.len in
    let m = i.left in
    let k = c.requires.len in
    let ok = c.args.handles.ok.0 in
    let b = c.remove-handle.ensures.len in
    let low : c.loop-w.w < length c.args.jobs.now = omega (arith, t, n) in
    let low' : c.loop-w.w < length c.args.handles.items = omega (arith, low, k, ok) in
    let next : c.loop-w.w + 1 ≡ suc c.loop-w.w = omega arith in
    let y = c.index-jobs-w.result in
    let job = slice_index_or c.loop-w.jobs c.loop-w.w y in
    let new : Job g.row.G.Denot = record { ops = job.ops; last = job.last; gate = job.gate; handles = c.push_reserved.new.self; left = job.left; is_done = job.is_done } in
    record {
      items = c.remove-handle.ensures.items ∙ drop_more c.loop-w.w (c.loop-w.w + 1) c.args.handles.items c.loop-w.handles.items next i.items;
      left = omega (arith, b, m);
      len = length-set c.loop-w.jobs c.loop-w.w new ∙ i.len;
      got = got_more c.args.handles.items c.loop-w.handles.items c.args.jobs.now c.loop-w.jobs c.loop-w.w c.remove-handle.result y new i.len low low' i.items c.remove-handle.ensures.value
          (record { ops = refl; last = refl; gate = refl; left = refl; handles = c.push_reserved.ensures.items; room = c.push_reserved.ensures.capacity }) i.got i.rest;
      rest = rest_after c.args.jobs.now c.loop-w.jobs c.loop-w.w new i.rest;
    }
