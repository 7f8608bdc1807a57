-- One place more.
use Rattle.std.proofs.Common.{◌<◌, Some, cond, length, ap, sym, ◌∙◌, arith}
use Rattle.std.specs.Ordering.{nat_cmp}
use Rattle.std.specs.BTreeMap.{get, is_at}
use Rattle.trace_tree.proofs.Visits.{id_is}
use Rattle.trace_tree.proofs.Indexing.{index_more}
use Rattle.trace_tree.proofs.adjacency.index.Goals as goal

pub loop-place-preserved : goal.loop-place-preserved
loop-place-preserved c =
    let less : c.loop-place.place < length c.args.finished.now = omega arith in
    let key = id_is c.args.finished.now c.loop-place.place c.index-finished-place.result less in
    index_more c.args.finished.now c.loop-place.place c.loop-place.index c.insert.new.self c.requires less c.loop-place.invariant
    (λ q. c.in_ok-insert.ensures.updates.0 q ∙ ap (λ k. cond (is_at (nat_cmp k) q) (Some c.loop-place.place) (get nat_cmp c.loop-place.index q)) (sym key))
