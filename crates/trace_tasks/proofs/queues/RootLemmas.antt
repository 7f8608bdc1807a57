-- A root that one handle holds, while it is entered and after.
use Rattle.std.proofs.Common.{◌≡◌, ℕ, zero, suc, ◌+◌, List, [], ◌∷◌, ◌++◌, Some, None, refl, sym, ap, ◌∙◌, arith, if◌then◌else◌, ◌==◌}
use Rattle.std.specs.Option.{option_map}
use Rattle.trace_tasks.proofs.Common.{cond-true, Span, Spans, span_at, entries_on, times_in, is_in, without_last, current_of, current_on, with_hold, without_hold, span_without_hold, parent_to_release, with_span_entry, with_span_exit, count_cons, with_same, root_of_one_handle}
use Rattle.std.proofs.lemmas.Bool.{eq-eqb}

-- entered and exited, it is as it was
pub back : (made : List Span) (id site : ℕ) → span_at made id ≡ root_of_one_handle site → without_hold (with_hold made id) id ≡ made
back [] id site is = absurd (let e = ap (λ (x : Span). x.holds) is in omega (arith, e))
back (x ∷ made) zero site is = ap (λ (y : Span). span_without_hold (record y { holds = y.holds + 1 }) ∷ made) is ∙ ap (λ (y : Span). y ∷ made) (sym is)
back (x ∷ made) (suc id) site is = ap (λ (ys : List Span). x ∷ ys) (back made id site is)

-- its callsite while it is entered
pub held_site : (made : List Span) (id site : ℕ) → span_at made id ≡ root_of_one_handle site → (span_at (with_hold made id) id).site ≡ site
held_site [] id site is = absurd (let e = ap (λ (x : Span). x.holds) is in omega (arith, e))
held_site (x ∷ made) zero site is = ap (λ (y : Span). y.site) is
held_site (x ∷ made) (suc id) site is = held_site made id site is

-- a release leaves the others
pub others_stay : (made : List Span) (id q : ℕ) → (q ≡ id → ⊥) → span_at (without_hold made id) q ≡ span_at made q
others_stay [] id q apart = refl
others_stay (x ∷ made) zero zero apart = absurd (apart refl)
others_stay (x ∷ made) zero (suc q) apart = refl
others_stay (x ∷ made) (suc id) zero apart = refl
others_stay (x ∷ made) (suc id) (suc q) apart = others_stay made id q (λ e. apart (ap suc e))

-- nothing is to be released after it
pub no_next : (made : List Span) (id site : ℕ) → span_at made id ≡ root_of_one_handle site → parent_to_release made id ≡ None
no_next made id site is = ap (λ (x : Span). if x.holds == 1 then x.parent else None) is

module _ (x : Spans) (id at : ℕ) (none : entries_on at x.lanes ≡ []) where
  pub entered_made : (with_span_entry x id at).made ≡ with_hold x.made id
  entered_made = ap (λ (xs : List ℕ). if is_in id xs then x.made else with_hold x.made id) none

  pub entered_entries : entries_on at (with_span_entry x id at).lanes ≡ id ∷ []
  entered_entries = with_same at (entries_on at x.lanes ++ id ∷ []) x.lanes ∙ ap (λ (xs : List ℕ). xs ++ id ∷ []) none

  pub entered_current : (site : ℕ) → span_at x.made id ≡ root_of_one_handle site → current_on at (with_span_entry x id at) ≡ Some (id, site)
  entered_current site is =
      ap (λ (xs : List ℕ). option_map (λ i. (i, (span_at (with_span_entry x id at).made i).site)) (current_of xs)) entered_entries
      ∙ ap (λ (s : ℕ). Some (id, s)) (ap (λ (made : List Span). (span_at made id).site) entered_made ∙ held_site x.made id site is)

module _ (y : Spans) (id at : ℕ) (one : entries_on at y.lanes ≡ id ∷ []) where
  times_one : times_in id (entries_on at y.lanes) ≡ 1
  times_one =
      let e = ap (λ (xs : List ℕ). times_in id xs) one in
      let c = count_cons (λ x. x == id) id [] in
      let k = cond-true {A = ℕ} (id == id) 1 0 (eq-eqb id id refl) in
      omega (arith, e, c, k)

  pub exited_made : (with_span_exit y id at).made ≡ without_hold y.made id
  exited_made = cond-true {A = List Span} (times_in id (entries_on at y.lanes) == 1) (without_hold y.made id) y.made (eq-eqb (times_in id (entries_on at y.lanes)) 1 times_one)

  pub exited_entries : entries_on at (with_span_exit y id at).lanes ≡ []
  exited_entries =
      with_same at (without_last (λ x. x == id) (entries_on at y.lanes)) y.lanes
      ∙ ap (λ (xs : List ℕ). without_last (λ x. x == id) xs) one
      ∙ cond-true {A = List ℕ} (id == id) [] (id ∷ []) (eq-eqb id id refl)

-- where nothing is entered, there is no current span
pub none_current : (x : Spans) (at : ℕ) → entries_on at x.lanes ≡ [] → current_on at x ≡ None
none_current x at none = ap (λ (xs : List ℕ). option_map (λ i. (i, (span_at x.made i).site)) (current_of xs)) none
