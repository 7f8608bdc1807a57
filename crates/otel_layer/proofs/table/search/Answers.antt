-- The entry in the middle says which half falls away.
use Rattle.std.proofs.Common.{◌<◌, ◌+◌, ◌-◌, ◌/◌, length, ap, ◌∙◌, arith}
use Rattle.otel_layer.proofs.Common.{Entry}
use Rattle.otel_layer.proofs.RisingIdsLemmas.{older_to, younger_from, same_at, found_or_gap, nowhere}
use Rattle.otel_layer.proofs.table.search.Goals as goal

pub returns-then-there-wanted : goal.returns-then-there-wanted
returns-then-there-wanted c =
    let xs = c.args.entries.now in
    let l = c.loop-low in
    let test = c.loop-low-test.true in
    let within = l.invariant.within in
    let middle = l.low + (l.high - l.low) / 2 in
    let inside : middle < length xs = omega (arith, test, within) in
    let e = c.index-entries-middle-then-there-wanted.result in
    let is = ap (λ (x : Entry). x.id) (c.index-entries-middle.is ∙ same_at xs middle c.index-entries-middle.result e inside) in
    let first = ap (λ (x : Entry). x.id) c.index-entries-middle.is in
    let there = c.place-there.ensures in
    let same = c.if-there-wanted.true in
    let wanted = l.invariant.wanted in
    c.then_some.ensures ∙ found_or_gap xs c.args.id middle e c.is_some.result c.requires inside (omega (arith, is, first, there, same, wanted)) c.is_some.ensures

pub loop-low-preserved-then-there-wanted-2 : goal.loop-low-preserved-then-there-wanted-2
loop-low-preserved-then-there-wanted-2 c =
    let l = c.loop-low in
    let test = c.loop-low-test.true in
    let within = l.invariant.within in
    let middle = l.low + (l.high - l.low) / 2 in
    let inside : middle < length c.args.entries.now = omega (arith, test, within) in
    let is = ap (λ (x : Entry). x.id) c.index-entries-middle.is in
    let there = c.place-there.ensures in
    let less = c.if-there-wanted-2.true in
    let wanted = l.invariant.wanted in
    record {
      within = within;
      apart = omega (arith, test);
      older = older_to c.args.entries.now c.args.id middle c.index-entries-middle.result c.requires inside (omega (arith, is, there, less, wanted));
      younger = l.invariant.younger;
      wanted = wanted;
    }

pub loop-low-preserved : goal.loop-low-preserved
loop-low-preserved c =
    let l = c.loop-low in
    let test = c.loop-low-test.true in
    let within = l.invariant.within in
    let middle = l.low + (l.high - l.low) / 2 in
    let inside : middle < length c.args.entries.now = omega (arith, test, within) in
    let is = ap (λ (x : Entry). x.id) c.index-entries-middle.is in
    let there = c.place-there.ensures in
    let other = c.if-there-wanted.false in
    let more = c.if-there-wanted-2.false in
    let wanted = l.invariant.wanted in
    record {
      within = omega (arith, inside);
      apart = omega arith;
      older = l.invariant.older;
      younger = younger_from c.args.entries.now c.args.id middle c.index-entries-middle.result c.requires inside (omega (arith, is, there, other, more, wanted));
      wanted = wanted;
    }

pub returns : goal.returns
returns c =
    let l = c.loop-low in
    let met = c.loop-low-test.false in
    nowhere c.args.entries.now c.args.id l.low l.high l.invariant.older l.invariant.younger (omega (arith, met))
