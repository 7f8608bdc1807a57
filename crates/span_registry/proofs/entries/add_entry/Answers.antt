-- An entry goes to the place of its lane, or to a new one.
use Rattle.std.proofs.Common.{sym, ap, ◌∙◌, List, set, ◌≡◌, ◌++◌, ◌∷◌, [], ℕ, refl, subst, IfOk}
use Rattle.span_registry.proofs.Common.{Entries, entries_on, is_in}
use Rattle.span_registry.proofs.Lanes.{entries_none, with_none, set_entries, seen_entries, on_ok}
use Rattle.span_registry.proofs.entries.add_entry.Goals as goal

pub returns-in-Some-clause-again : goal.returns-in-Some-clause-again
returns-in-Some-clause-again c =
    subst (λ (ids : List ℕ). IfOk c.push.result (λ again. again ≡ is_in c.args.id ids))
    (seen_entries c.args.lanes.now.items c.args.lane c.in-Some.at c.index_mut.result.now (rw c.as_slice.ensures.value at c.in-Some.ensures.some) c.index_mut.ensures.value) c.push.ensures.again

pub returns-in-Some-clause-ok : goal.returns-in-Some-clause-ok
returns-in-Some-clause-ok c =
    on_ok c.push.result _ _ (λ is. ap (set c.args.lanes.now.items c.in-Some.at) is
    ∙ set_entries c.args.lanes.now.items c.args.lane c.in-Some.at c.index_mut.result.now (λ xs. xs ++ c.args.id ∷ []) _ (rw c.as_slice.ensures.value at c.in-Some.ensures.some) c.index_mut.ensures.value refl) c.push.ensures.ok

pub returns-in_ok-push-in-None-2-clause-again : goal.returns-in_ok-push-in-None-2-clause-again
returns-in_ok-push-in-None-2-clause-again c = ap (is_in c.args.id) (sym (entries_none c.args.lanes.now.items c.args.lane (rw c.as_slice.ensures.value at (c.in-None.ensures.none refl))))

pub returns-in_ok-push-in-None-2-clause-ok : goal.returns-in_ok-push-in-None-2-clause-ok
returns-in_ok-push-in-None-2-clause-ok c =
    let none = rw c.as_slice.ensures.value at (c.in-None.ensures.none refl) in
    let empty = entries_none c.args.lanes.now.items c.args.lane none in
    c.in_ok-push-in-None-2.ensures.items
    ∙ ap (λ (e : Entries). c.args.lanes.now.items ++ e ∷ []) (c.in_ok-push-in-None.ensures.ok ∙ ap (λ (e : Entries). record e { ids = e.ids ++ c.args.id ∷ [] }) c.new-entries.ensures
    ∙ ap (λ (xs : List ℕ). let e : Entries = record { lane = c.args.lane; ids = xs ++ c.args.id ∷ [] } in e) (sym empty))
    ∙ sym (with_none c.args.lanes.now.items c.args.lane (entries_on c.args.lane c.args.lanes.now.items ++ c.args.id ∷ []) none)
