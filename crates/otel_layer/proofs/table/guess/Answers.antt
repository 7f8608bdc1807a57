-- The entry with the id is the one that is searched for, unless it is a gap.
use Rattle.std.proofs.Common.{◌<◌, length, ap, ◌∙◌, arith}
use Rattle.otel_layer.proofs.Common.{Entry}
use Rattle.otel_layer.proofs.RisingIdsLemmas.{same_at, found_or_gap, if_found}
use Rattle.otel_layer.proofs.table.guess.Goals as goal

pub returns-then-there-wanted : goal.returns-then-there-wanted
returns-then-there-wanted c =
    let xs = c.args.entries.now in
    let place = c.in_ok-place.field-0.now in
    let beyond = c.if-place-entries.false in
    let inside : place < length xs = omega (arith, beyond) in
    let e = c.index-entries-place-then-there-wanted.result in
    let is = ap (λ (x : Entry). x.id) (c.index-entries-place.is ∙ same_at xs place c.index-entries-place.result e inside) in
    let first = ap (λ (x : Entry). x.id) c.index-entries-place.is in
    let there = c.place-there.ensures in
    let same = c.if-there-wanted.true in
    let wanted = c.place-wanted.ensures in
    if_found c.then_some.result _ (c.then_some.ensures ∙ found_or_gap xs c.args.id place e c.is_some.result c.requires inside (omega (arith, is, first, there, same, wanted)) c.is_some.ensures)
