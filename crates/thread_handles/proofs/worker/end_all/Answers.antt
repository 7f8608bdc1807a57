use Rattle.std.proofs.Common.{sym, subst, arith, ◌∙◌, ◌≡◌, ◌<◌, ◌+◌, suc, List, length, slice_index_or}
use Rattle.trace_threads.specs.declared.handle.Released.{Released}
use Rattle.thread_script.specs.Plans.{release_moment}
use Rattle.thread_handles.specs.Works.{WasReleased}
use Rattle.thread_handles.proofs.WorkLemmas.{low_moment, released_more, drop_more}
use Rattle.thread_handles.proofs.worker.end_all.Goals as goal

pub end_handle-requires : goal.end_handle-requires
end_handle-requires g c =
    let t = c.loop-s-test.true in
    let n = c.len-s-end.ensures in
    let ok = c.args.handles.now.ok.0 in
    let low : c.loop-s.s < length c.args.handles.now.items = omega (arith, t, n, ok) in
    record { moment = low_moment c.args.plan.now c.args.last (length c.args.handles.now.items) c.loop-s.s c.moment_of-at.result c.requires.moments low c.requires.last c.moment_of-at.ensures }

pub loop-s-preserved : goal.loop-s-preserved
loop-s-preserved g c =
    let i = c.loop-s.invariant in
    let a = i.len in
    let b = c.remove-handle.ensures.len in
    let d = c.push_reserved.ensures.len in
    let e = i.count in
    let t = c.loop-s-test.true in
    let n = c.len-s-end.ensures in
    let ok = c.args.handles.now.ok.0 in
    let ok' = c.loop-s.left.ok.0 in
    let low : c.loop-s.s < length c.args.handles.now.items = omega (arith, t, n, ok) in
    let len : length c.loop-s.left.items ≡ c.loop-s.s = omega (arith, ok', e) in
    let next : c.loop-s.s + 1 ≡ suc c.loop-s.s = omega arith in
    record {
      items = c.remove-handle.ensures.items ∙ drop_more c.loop-s.s (c.loop-s.s + 1) c.args.handles.now.items c.loop-s.handles.items next i.items;
      len = omega (arith, a, b);
      count = omega (arith, d, e);
      room = c.push_reserved.ensures.capacity ∙ i.room;
      released = λ j x y l less out.
          subst (λ (rs : List Released). WasReleased (slice_index_or c.args.handles.now.items j x) (slice_index_or rs j y) (release_moment (slice_index_or c.args.plan.now.shared j l).at c.args.last)) (sym c.push_reserved.ensures.items)
          (released_more c.args.plan.now c.args.last c.args.handles.now.items c.loop-s.handles.items c.loop-s.left.items c.loop-s.s c.moment_of-at.result c.remove-handle.result c.end_handle.result low len i.items c.remove-handle.ensures.value c.moment_of-at.ensures c.end_handle.ensures.released i.released j x y l less out);
    }

pub returns-clause-left : goal.returns-clause-left
returns-clause-left g c s d e l low out =
    let t = c.loop-s-test.false in
    let n = c.len-s-end.ensures in
    let ok = c.args.handles.now.ok.0 in
    let less : s < c.loop-s.s = omega (arith, t, n, ok, low) in
    c.loop-s.invariant.released s d e l less out
