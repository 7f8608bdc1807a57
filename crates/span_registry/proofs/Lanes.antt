-- A lane's entries by the place where it stands.
use Rattle.std.proofs.Common.{◌≡◌, ℕ, zero, suc, ◌<◌, List, [], ◌∷◌, ◌++◌, length, true, false, get_or, set, Result, Ok, Err, refl, sym, ap, ◌∙◌, arith, inl, inr, ◌==◌, ◌||◌, OnOk}
use Rattle.std.specs.List.{remove}
use Rattle.span_registry.proofs.Common.{cases_Bool, cond-true, cond-false, or_cases, get_or_default, Entries, entries_on, with_entries, is_in, without_last, StandsAt, no_lane}
use Rattle.std.proofs.lemmas.Bool.{eqb-true, eq-eqb, ne_eqb, true≢false}

pub entries_at : (es : List Entries) (lane at : ℕ) → at < length es → (get_or es at no_lane).lane ≡ lane → ((k : ℕ) → k < at → (get_or es k no_lane).lane ≡ lane → ⊥) → entries_on lane es ≡ (get_or es at no_lane).ids
entries_at [] lane at within is before = absurd (omega (arith, within))
entries_at (e ∷ es) lane zero within is before = cond-true {A = List ℕ} (e.lane == lane) _ _ (eq-eqb e.lane lane is)
entries_at (e ∷ es) lane (suc at) within is before =
    cond-false {A = List ℕ} (e.lane == lane) _ _ (ne_eqb e.lane lane (before 0 (omega arith)))
    ∙ entries_at es lane at (omega (arith, within)) is (λ k below. before (suc k) (omega (arith, below)))

pub with_at : (es : List Entries) (lane at : ℕ) (ids : List ℕ) → at < length es → (get_or es at no_lane).lane ≡ lane → ((k : ℕ) → k < at → (get_or es k no_lane).lane ≡ lane → ⊥)
    → with_entries lane ids es ≡ set es at (record { lane = lane; ids = ids })
with_at [] lane at ids within is before = absurd (omega (arith, within))
with_at (e ∷ es) lane zero ids within is before = cond-true {A = List Entries} (e.lane == lane) _ _ (eq-eqb e.lane lane is)
with_at (e ∷ es) lane (suc at) ids within is before =
    cond-false {A = List Entries} (e.lane == lane) _ _ (ne_eqb e.lane lane (before 0 (omega arith)))
    ∙ ap (λ (xs : List Entries). e ∷ xs) (with_at es lane at ids (omega (arith, within)) is (λ k below. before (suc k) (omega (arith, below))))

pub entries_none : (es : List Entries) (lane : ℕ) → ((k : ℕ) → k < length es → (get_or es k no_lane).lane ≡ lane → ⊥) → entries_on lane es ≡ []
entries_none [] lane none = refl
entries_none (e ∷ es) lane none =
    cond-false {A = List ℕ} (e.lane == lane) _ _ (ne_eqb e.lane lane (none 0 (omega arith))) ∙ entries_none es lane (λ k below. none (suc k) (omega (arith, below)))

pub with_none : (es : List Entries) (lane : ℕ) (ids : List ℕ) → ((k : ℕ) → k < length es → (get_or es k no_lane).lane ≡ lane → ⊥) → with_entries lane ids es ≡ es ++ record { lane = lane; ids = ids } ∷ []
with_none [] lane ids none = refl
with_none (e ∷ es) lane ids none =
    cond-false {A = List Entries} (e.lane == lane) _ _ (ne_eqb e.lane lane (none 0 (omega arith)))
    ∙ ap (λ (xs : List Entries). e ∷ xs) (with_none es lane ids (λ k below. none (suc k) (omega (arith, below))))

pub in_at : (xs : List ℕ) (id at : ℕ) → at < length xs → get_or xs at 0 ≡ id → is_in id xs ≡ true
in_at [] id at within is = absurd (omega (arith, within))
in_at (x ∷ xs) id zero within is = ap (λ b. b || is_in id xs) (eq-eqb x id is)
in_at (x ∷ xs) id (suc at) within is = elim (cases_Bool (x == id)) [
  | inl here ↦ ap (λ b. b || is_in id xs) here
  | inr not ↦ ap (λ b. b || is_in id xs) not ∙ in_at xs id at (omega (arith, within)) is
]

pub none_in : (xs : List ℕ) (id : ℕ) → ((k : ℕ) → k < length xs → get_or xs k 0 ≡ id → ⊥) → is_in id xs ≡ true → ⊥
none_in [] id none some = true≢false (sym some)
none_in (x ∷ xs) id none some = elim (or_cases (x == id) (is_in id xs) some) [
  | inl here ↦ none 0 (omega arith) (eqb-true x id here)
  | inr there ↦ none_in xs id (λ k within. none (suc k) (omega (arith, within))) there
]

-- the last place of a span, and the list without it
pub remove_is_last : (xs : List ℕ) (id at : ℕ) → at < length xs → get_or xs at 0 ≡ id → ((k : ℕ) → at < k → k < length xs → get_or xs k 0 ≡ id → ⊥) → remove xs at ≡ without_last (λ x. x == id) xs
remove_is_last [] id at within is last = absurd (omega (arith, within))
remove_is_last (x ∷ xs) id zero within is last =
    let none : is_in id xs ≡ false = elim (cases_Bool (is_in id xs)) [ inl some ↦ absurd (none_in xs id (λ k within. last (suc k) (omega arith) (omega (arith, within))) some) | inr not ↦ not ] in
    sym (cond-false {A = List ℕ} (is_in id xs) _ _ none ∙ cond-true {A = List ℕ} (x == id) _ _ (eq-eqb x id is))
remove_is_last (x ∷ xs) id (suc at) within is last =
    let some = in_at xs id at (omega (arith, within)) is in
    ap (λ (ys : List ℕ). x ∷ ys) (remove_is_last xs id at (omega (arith, within)) is (λ k after below. last (suc k) (omega (arith, after)) (omega (arith, below))))
    ∙ sym (cond-true {A = List ℕ} (is_in id xs) _ _ some)

-- the lanes with a change of what stands at the place of one
pub set_entries : (lanes : List Entries) (lane at : ℕ) (seen : Entries) (f : List ℕ → List ℕ) (ids : List ℕ) → StandsAt lanes lane at → seen ≡ get_or lanes at seen → ids ≡ f seen.ids
    → ◌≡◌ {A = List Entries} (set lanes at (record { lane = seen.lane; ids = ids })) (with_entries lane (f (entries_on lane lanes)) lanes)
set_entries lanes lane at seen f ids stands is change =
    let read : seen ≡ get_or lanes at no_lane = is ∙ get_or_default lanes at seen no_lane stands.within in
    let there : seen.ids ≡ entries_on lane lanes = ap (λ (e : Entries). e.ids) read ∙ sym (entries_at lanes lane at stands.within stands.is stands.before) in
    let same : seen.lane ≡ lane = ap (λ (e : Entries). e.lane) read ∙ stands.is in
    ap (λ (l : ℕ). let e : Entries = record { lane = l; ids = ids } in set lanes at e) same
    ∙ ap (λ (xs : List ℕ). let e : Entries = record { lane = lane; ids = xs } in set lanes at e) (change ∙ ap f there)
    ∙ sym (with_at lanes lane at (f (entries_on lane lanes)) stands.within stands.is stands.before)

pub seen_entries : (lanes : List Entries) (lane at : ℕ) (seen : Entries) → StandsAt lanes lane at → seen ≡ get_or lanes at seen → seen.ids ≡ entries_on lane lanes
seen_entries lanes lane at seen stands is =
    ap (λ (e : Entries). e.ids) (is ∙ get_or_default lanes at seen no_lane stands.within) ∙ sym (entries_at lanes lane at stands.within stands.is stands.before)

pub on_ok : {T E : Type 0} (result : Result T E) (P Q : Type 0) → (P → Q) → OnOk result P → OnOk result Q
on_ok (Ok v) P Q f p = f p
on_ok (Err e) P Q f p = tt
