-- One item or one member more, and the last one.
use Rattle.trace_lines.proofs.Common.{[], arith, plain_data, suc, ◌++◌, ◌∷◌, ◌≡◌}
use Rattle.trace_lines.proofs.readings.CompactLemmas.{text_is_value, leaf_is_value, array_begins, object_begins, Pair, AllRead-push, items_first, items_on, items_text_end, items_begin, Named, AllNamed-push, members_first, members_on, members_text_end, members_begin}
use Rattle.trace_lines.proofs.read.syntax.scan.+past.Goals as goal

pub past_items-items-init : goal.past_items-items-init
past_items-items-init t c = ([], tt, items_first c.args.bytes.now)

pub past_items-items-preserved : goal.past_items-items-preserved
past_items-items-preserved t c =
    let ps = c.items.invariant.0 in
    let b = c.in_ok-after.ensures in
    let p : Pair = (b.1.0, b.0) in
    (ps ++ p ∷ [], AllRead-push c.args.deep ps p c.items.invariant.1 b.1.2, items_on c.args.bytes.now c.items.left.now c.in_ok-after.after.now c.in-Some-behind.more.now ps p c.items.invariant.2 b.1.1 c.in-Some-behind.ensures)

pub past_items-returns-in-None : goal.past_items-returns-in-None
past_items-returns-in-None t c =
    let ps = c.items.invariant.0 in
    let b = c.in_ok-after.ensures in
    let p : Pair = (b.1.0, b.0) in
    items_begin c.args.deep c.args.bytes.now c.in_ok-rest-in-None.rest.now (ps ++ p ∷ []) (AllRead-push c.args.deep ps p c.items.invariant.1 b.1.2)
    (items_text_end c.args.bytes.now c.items.left.now c.in_ok-after.after.now c.in_ok-rest-in-None.rest.now ps p c.items.invariant.2 b.1.1 c.in_ok-rest-in-None.ensures)

pub past_members-members-init : goal.past_members-members-init
past_members-members-init t c = ([], tt, members_first c.args.bytes.now)

pub past_members-members-preserved : goal.past_members-members-preserved
past_members-members-preserved t c =
    let ns = c.members.invariant.0 in
    let b = c.in_ok-after.ensures in
    let n : Named = (c.in_ok-name.name.now, (b.1.0, b.0)) in
    (ns ++ n ∷ [], AllNamed-push c.args.deep ns n c.members.invariant.1 b.1.2, members_on c.args.bytes.now c.members.left.now c.in_ok-name.colon.now c.in_ok-inner.inner.now c.in_ok-after.after.now c.in-Some-behind.more.now ns n c.members.invariant.2 c.in_ok-name.ensures c.in_ok-inner.ensures b.1.1 c.in-Some-behind.ensures)

pub past_members-returns-in-None : goal.past_members-returns-in-None
past_members-returns-in-None t c =
    let ns = c.members.invariant.0 in
    let b = c.in_ok-after.ensures in
    let n : Named = (c.in_ok-name.name.now, (b.1.0, b.0)) in
    members_begin c.args.deep c.args.bytes.now c.in_ok-rest-in-None.rest.now (ns ++ n ∷ []) (AllNamed-push c.args.deep ns n c.members.invariant.1 b.1.2)
    (members_text_end c.args.bytes.now c.members.left.now c.in_ok-name.colon.now c.in_ok-inner.inner.now c.in_ok-after.after.now c.in_ok-rest-in-None.rest.now ns n c.members.invariant.2 c.in_ok-name.ensures c.in_ok-inner.ensures b.1.1 c.in_ok-rest-in-None.ensures)

pub past_value-returns-in-Some : goal.past_value-returns-in-Some
past_value-returns-in-Some t c = text_is_value c.args.deep c.args.bytes.now c.in-Some.rest.now c.in-Some._words.now c.in-Some.ensures

pub past_value-returns-in-Some-leaf : goal.past_value-returns-in-Some-leaf
past_value-returns-in-Some-leaf t c = leaf_is_value c.args.deep c.args.bytes.now c.in-Some-leaf.rest.now (plain_data c.in-Some-leaf._plain) c.in-Some-leaf.ensures

pub past_nested-returns-in-Some : goal.past_nested-returns-in-Some
past_nested-returns-in-Some t c =
    let one : c.args.deep ≡ suc c.in_ok-inner.inner = grind arith in
    array_begins c.args.deep c.in_ok-inner.inner c.args.bytes.now c.in-Some.items.now c.in_ok-rest.rest.now one c.in-Some.ensures c.in_ok-rest.ensures

pub past_nested-returns : goal.past_nested-returns
past_nested-returns t c =
    let one : c.args.deep ≡ suc c.in_ok-inner.inner = grind arith in
    object_begins c.args.deep c.in_ok-inner.inner c.args.bytes.now c.in_ok-members.members.now c.in_ok-rest-2.rest.now one c.in_ok-members.ensures c.in_ok-rest-2.ensures
