-- The last entry is the youngest where the ids rise.
use Rattle.std.proofs.Common.{◌-◌, ◌≡◌, suc, length, ap, arith}
use Rattle.std.proofs.lemmas.Bool.{ltb-true}
use Rattle.otel_layer.proofs.Common.{Entry}
use Rattle.otel_layer.proofs.RisingIdsLemmas.{rise_last}
use Rattle.otel_layer.proofs.table.is_youngest.Goals as goal

pub returns : goal.returns
returns c = λ less rise.
    let xs = c.args.entries.now in
    let e = c.index-entries-count.result in
    let below = ltb-true c.place.result c.place-2.result less in
    let is = ap (λ (x : Entry). x.id) c.index-entries-count.is in
    let mine = c.place.ensures in
    let other = c.place-2.ensures in
    let some = c.if-count-eq0.false in
    let long : length xs ≡ suc (length xs - 1) = omega (arith, some) in
    rise_last xs (length xs - 1) c.args.id e long (omega (arith, below, is, mine, other)) rise
