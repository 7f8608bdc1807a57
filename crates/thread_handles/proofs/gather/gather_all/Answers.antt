use Rattle.std.proofs.Common.{◌≡◌, ◌<◌, ◌+◌, suc, ◌∙◌, ap, sym, subst, arith, List, length, slice_index_or}
use Rattle.trace_threads.specs.declared.handle.Released.{Released}
use Rattle.thread_handles.specs.Gathers.{MetAll}
use Rattle.thread_handles.specs.Columns.{ComesToClosed}
use Rattle.thread_handles.proofs.WorkLemmas.{get_drop, drop_more}
use Rattle.thread_handles.proofs.Columns.{left_now, same_column, taken_next, joined_next}
use Rattle.thread_handles.proofs.gather.gather_all.Goals as goal

pub gather_next-requires : goal.gather_next-requires
gather_next-requires g c =
    let i = c.loop.invariant in
    let t = c.loop-test.true in
    let n = c.len-end.ensures in
    let ok = c.args.firsts.ok.0 in
    let low : c.loop.counter < length c.args.firsts.items = omega (arith, t, n, ok) in
    let f = c.remove-first.result in
    let first = c.remove-first.ensures.value ∙ ap (λ (l : List Released). slice_index_or l 0 f) i.items ∙ get_drop c.args.firsts.items c.loop.counter f in
    let whole = subst (λ (r : Released). ComesToClosed r c.loop.counter c.args.jobs.now) (sym first) (c.requires.whole c.loop.counter f low) in
    record { left = left_now f.pass.span c.loop.counter c.args.jobs.now c.loop.jobs i.len i.taken whole.left }

pub finish-requires : goal.finish-requires
finish-requires g c =
    let i = c.loop.invariant in
    let t = c.loop-test.true in
    let n = c.len-end.ensures in
    let ok = c.args.firsts.ok.0 in
    let low : c.loop.counter < length c.args.firsts.items = omega (arith, t, n, ok) in
    let f = c.remove-first.result in
    let first = c.remove-first.ensures.value ∙ ap (λ (l : List Released). slice_index_or l 0 f) i.items ∙ get_drop c.args.firsts.items c.loop.counter f in
    let whole = subst (λ (r : Released). ComesToClosed r c.loop.counter c.args.jobs.now) (sym first) (c.requires.whole c.loop.counter f low) in
    let met = subst (λ (l : List Released). MetAll f l c.gather_next.result) (same_column f c.loop.counter c.args.jobs.now c.loop.jobs i.len i.taken) c.gather_next.ensures.met in
    record { closed = whole.closes c.gather_next.result met }

pub loop-preserved : goal.loop-preserved
loop-preserved g c =
    let i = c.loop.invariant in
    let t = c.loop-test.true in
    let n = c.len-end.ensures in
    let ok = c.args.firsts.ok.0 in
    let low : c.loop.counter < length c.args.firsts.items = omega (arith, t, n, ok) in
    let f = c.remove-first.result in
    let first = c.remove-first.ensures.value ∙ ap (λ (l : List Released). slice_index_or l 0 f) i.items ∙ get_drop c.args.firsts.items c.loop.counter f in
    let met = subst (λ (l : List Released). MetAll f l c.gather_next.result) (same_column f c.loop.counter c.args.jobs.now c.loop.jobs i.len i.taken) c.gather_next.ensures.met in
    let next : c.loop.counter + 1 ≡ suc c.loop.counter = omega arith in
    let a = i.left in
    let b = c.remove-first.ensures.len in
    let d = c.push_reserved.ensures.len in
    let e = i.count in
    let ok' = c.loop.ended.ok.0 in
    record {
      items = c.remove-first.ensures.items ∙ drop_more c.loop.counter (c.loop.counter + 1) c.args.firsts.items c.loop.firsts.items next i.items;
      left = omega (arith, a, b);
      len = c.gather_next.ensures.len ∙ i.len;
      taken = taken_next c.loop.counter c.args.jobs.now c.loop.jobs c.gather_next.new.jobs i.len i.taken c.gather_next.ensures.taken;
      count = omega (arith, d, e);
      room = c.push_reserved.ensures.capacity ∙ i.room;
      joined = joined_next c.args.firsts.items c.args.jobs.now c.loop.ended.items c.push_reserved.new.self.items c.loop.counter f c.finish.result (omega (arith, ok', e)) c.push_reserved.ensures.items first low (record { whole = c.gather_next.result; met = met; pass = c.finish.ensures.0; closed = c.finish.ensures.1 }) i.joined;
    }
