use Rattle.std.proofs.Common.{sym, subst, arith, ◌∙◌, List}
use Rattle.trace_threads.specs.Handles.{SharedHandle}
use Rattle.thread_handles.specs.Shares.{AreCloned}
use Rattle.thread_handles.proofs.ClonesLemmas.{cloned_more}
use Rattle.thread_handles.proofs.clones.make_clones.Goals as goal

pub loop-preserved : goal.loop-preserved
loop-preserved g c =
    let i = c.loop.invariant in
    let given = c.in_ok-other.ensures.given in
    let l = c.push_reserved.ensures.len in
    let n = i.len in
    record {
      cloned = subst (λ (hs : List SharedHandle). AreCloned c.args.first.now c.clone_handle.new.self hs) (sym c.push_reserved.ensures.items)
          (cloned_more c.args.at c.args.first.now c.loop.first c.clone_handle.new.self c.in_ok-other.other c.loop.handles.items c.requires.first.2 i.cloned c.clone_handle.ensures.same given.0 given.1 c.in_ok-other.ensures.made c.clone_handle.ensures.entered);
      len = omega (arith, l, n);
      room = c.push_reserved.ensures.capacity ∙ i.room;
    }
