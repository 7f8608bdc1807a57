use Rattle.std.proofs.Common.{◌≡◌, ◌<◌, ◌∙◌, arith, length, slice_index_or}
use Rattle.trace_threads.specs.Handles.{SharedHandle}
use Rattle.thread_handles.proofs.WorkLemmas.{same_get}
use Rattle.thread_handles.proofs.ClonesLemmas.{learnt_more, learnt_rest, set_len}
use Rattle.thread_handles.proofs.clones.teach.Goals as goal

pub loop-i-preserved : goal.loop-i-preserved
loop-i-preserved c =
    let i = c.loop-i.invariant in
    let p = c.learn.ensures.pass in
    let t = c.loop-i-test.true in
    let n = i.len in
    let low : c.loop-i.i < length c.args.handles.now = omega (arith, t, n) in
    let in_hs : c.loop-i.i < length c.loop-i.handles = omega (arith, low, n) in
    let h : SharedHandle = slice_index_or c.loop-i.handles c.loop-i.i c.index-handles-i.result in
    let is : h ≡ slice_index_or c.loop-i.handles c.loop-i.i h = same_get c.loop-i.handles c.loop-i.i c.index-handles-i.result h in_hs in
    record {
      pass = (p.0 ∙ i.pass.0, p.1.0 ∙ i.pass.1, p.1.1 ∙ i.pass.2);
      len = set_len c.loop-i.handles c.loop-i.i c.learn.new.self ∙ i.len;
      learnt = learnt_more c.args.pass.now c.loop-i.pass c.args.handles.now c.loop-i.handles c.loop-i.i h c.learn.new.self i.len low is i.pass.1 c.learn.ensures.same c.learn.ensures.sees c.learn.ensures.theirs i.learnt i.rest;
      rest = learnt_rest c.args.handles.now c.loop-i.handles c.loop-i.i c.learn.new.self i.rest;
    }
