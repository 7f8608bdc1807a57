use Rattle.std.proofs.Common.{◌<◌, ◌∙◌, ap, arith, length, length-set, slice_index_or}
use Rattle.thread_handles.specs.declared.job.Job.{Job}
use Rattle.thread_handles.proofs.WorkLemmas.{same_get}
use Rattle.thread_handles.proofs.Columns.{joined_more, joined_end, taken_more, taken_rest}
use Rattle.thread_handles.proofs.gather.gather_next.Goals as goal

pub loop-w-preserved : goal.loop-w-preserved
loop-w-preserved g c =
    let i = c.loop-w.invariant in
    let t = c.loop-w-test.true in
    let n = i.len in
    let low : c.loop-w.w < length c.args.jobs.now = omega (arith, t, n) in
    let y = c.index-jobs-w.result in
    let e = c.args.first in
    let o = c.remove-other.result in
    let job = slice_index_or c.loop-w.jobs c.loop-w.w y in
    let new : Job g.row.G.Denot = record { ops = job.ops; last = job.last; gate = job.gate; handles = job.handles; left = c.remove-other.new.self; is_done = job.is_done } in
    let here = i.rest c.loop-w.w y (omega arith) low in
    let have = c.requires.left c.loop-w.w y low in
    let value = c.remove-other.ensures.value ∙ ap (λ (x : Job g.row.G.Denot). slice_index_or x.left.items 0 o) here ∙ same_get (slice_index_or c.args.jobs.now c.loop-w.w y).left.items 0 o e have.0 in
    record {
      len = length-set c.loop-w.jobs c.loop-w.w new ∙ i.len;
      span = c.join_releases-met.ensures.span ∙ i.span;
      joined = joined_more e e c.loop-w.met o c.join_releases-met.result c.args.jobs.now c.loop-w.w y low value c.join_releases-met.ensures i.joined;
      taken = taken_more c.args.jobs.now c.loop-w.jobs c.loop-w.w y new i.len low c.remove-other.ensures.items i.taken i.rest;
      rest = taken_rest c.args.jobs.now c.loop-w.jobs c.loop-w.w new i.rest;
    }

pub returns-clause-met : goal.returns-clause-met
returns-clause-met g c =
    let i = c.loop-w.invariant in
    let t = c.loop-w-test.false in
    let n = i.len in
    joined_end c.args.first c.args.first c.loop-w.met c.args.jobs.now c.loop-w.w (omega (arith, t, n)) i.joined
