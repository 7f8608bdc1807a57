-- The entry is removed at the place of its lane; without one there is none.
use Rattle.std.proofs.Common.{sym, ap, ◌∙◌, List, set, ℕ, ◌<◌, refl, arith, subst, ◌==◌}
use Rattle.span_registry.proofs.Common.{times_in, without_last}
use Rattle.span_registry.proofs.Lanes.{entries_none, set_entries, seen_entries}
use Rattle.span_registry.proofs.entries.remove_entry.Goals as goal

pub unreachable-requires : goal.unreachable-requires
unreachable-requires c =
    let none = rw c.as_slice.ensures.value at (c.in_default.ensures.none refl) in
    let e = ap (λ (xs : List ℕ). times_in c.args.id xs) (entries_none c.args.lanes.now.items c.args.lane none) in
    omega (arith, e, c.requires)

pub remove-requires : goal.remove-requires
remove-requires c =
    subst (λ (xs : List ℕ). 0 < times_in c.args.id xs)
    (sym (seen_entries c.args.lanes.now.items c.args.lane c.in-Some.at c.index_mut.result.now (rw c.as_slice.ensures.value at c.in-Some.ensures.some) c.index_mut.ensures.value)) c.requires

pub returns-clause-only : goal.returns-clause-only
returns-clause-only c =
    c.remove.ensures.only ∙ ap (λ (xs : List ℕ). times_in c.args.id xs == 1)
    (seen_entries c.args.lanes.now.items c.args.lane c.in-Some.at c.index_mut.result.now (rw c.as_slice.ensures.value at c.in-Some.ensures.some) c.index_mut.ensures.value)

pub returns-clause-entries : goal.returns-clause-entries
returns-clause-entries c =
    ap (set c.args.lanes.now.items c.in-Some.at) c.remove.ensures.ids
    ∙ set_entries c.args.lanes.now.items c.args.lane c.in-Some.at c.index_mut.result.now (λ xs. without_last (λ x. x == c.args.id) xs) _ (rw c.as_slice.ensures.value at c.in-Some.ensures.some) c.index_mut.ensures.value refl
