-- Entries, holds and contexts after one change.
use Rattle.std.proofs.Common.{◌≡◌, ℕ, ◌+◌, ◌<◌, List, [], ◌∷◌, ◌++◌, length, Bool, true, false, cond, count_by, sum_by, Option, Some, None, refl, sym, ap, ◌∙◌, arith, inl, inr}
use Rattle.std.specs.Prelude.{if◌then◌else◌, ◌==◌, ◌||◌}
use Rattle.std.specs.List.{list_any}
use Rattle.std.proofs.lemmas.Bool.{eqb-true, eq-eqb, ne_eqb, cases_Bool, cases_lt, cond-true, cond-false, or_parts, or_cases, true≢false}
use Rattle.std.proofs.lemmas.List.{length-set, get_or_past}
use Rattle.std.proofs.lemmas.List.Sums.{sum_by-cons, sum_by_push}
use Rattle.trace_base.specs.Spans.{Span, Entries, no_span, span_at, entries_on, with_entries, times_in, entered_lane_count, has_entry, without_last, with_hold_of_child}

-- a count, one item at a time
pub count_cons : {X : Type 0} (p : X → Bool) (x : X) (xs : List X) → count_by p (x ∷ xs) ≡ cond {A = ℕ} (p x) 1 0 + count_by p xs
count_cons p x xs = sum_by-cons (λ y. cond (p y) 1 0) x xs

pub count_push : {X : Type 0} (p : X → Bool) (xs : List X) (x : X) → count_by p (xs ++ x ∷ []) ≡ count_by p xs + cond {A = ℕ} (p x) 1 0
count_push p xs x = sum_by_push (λ y. cond (p y) 1 0) xs x

-- something passes exactly where the count isn't 0
pub counted_if_any : {X : Type 0} (p : X → Bool) (xs : List X) → list_any p xs ≡ true → 0 < count_by p xs
counted_if_any p [] any = absurd (true≢false (sym any))
counted_if_any p (x ∷ xs) any =
    elim (or_cases (p x) (list_any p xs) any) [
      | inl here ↦ omega (arith, count_cons p x xs, cond-true {A = ℕ} (p x) 1 0 here)
      | inr there ↦ omega (arith, count_cons p x xs, counted_if_any p xs there)
    ]

pub none_counted : {X : Type 0} (p : X → Bool) (xs : List X) → list_any p xs ≡ false → count_by p xs ≡ 0
none_counted p [] any = refl
none_counted p (x ∷ xs) any =
    let parts = or_parts (p x) (list_any p xs) any in
    let none = none_counted p xs parts.1 in
    let here = cond-false {A = ℕ} (p x) 1 0 parts.0 in
    omega (arith, count_cons p x xs, none, here)

pub any_if_counted : {X : Type 0} (p : X → Bool) (xs : List X) → 0 < count_by p xs → list_any p xs ≡ true
any_if_counted p xs counted =
    elim (cases_Bool (list_any p xs)) [
      | inl any ↦ any
      | inr none ↦ absurd (omega (arith, none_counted p xs none, counted))
    ]

-- One item less: where all that pass count alike, the count falls by that much.
pub count_without_last : {X : Type 0} (p q : X → Bool) (b : Bool) (xs : List X) → ((x : X) → p x ≡ true → q x ≡ b) → list_any p xs ≡ true → count_by q (without_last p xs) + cond {A = ℕ} b 1 0 ≡ count_by q xs
count_without_last p q b [] alike any = absurd (true≢false (sym any))
count_without_last {X} p q b (x ∷ xs) alike any =
    elim (cases_Bool (list_any p xs)) [
      | inl later ↦ (
          let is : without_last p (x ∷ xs) ≡ x ∷ without_last p xs = cond-true {A = List X} (list_any p xs) _ _ later in
          let rest = count_without_last p q b xs alike later in
          ap (λ (ys : List X). count_by q ys + cond {A = ℕ} b 1 0) is ∙ (let k : count_by q (x ∷ without_last p xs) + cond {A = ℕ} b 1 0 ≡ count_by q (x ∷ xs) = omega (arith, rest, count_cons q x xs, count_cons q x (without_last p xs)) in k))
      | inr last ↦ elim (cases_Bool (p x)) [
        | inl here ↦ (
            let is : without_last p (x ∷ xs) ≡ xs = cond-false {A = List X} (list_any p xs) _ _ last ∙ cond-true {A = List X} (p x) _ _ here in
            let same = ap (λ c. cond {A = ℕ} c 1 0) (alike x here) in
            ap (λ (ys : List X). count_by q ys + cond {A = ℕ} b 1 0) is ∙ (let k : count_by q xs + cond {A = ℕ} b 1 0 ≡ count_by q (x ∷ xs) = omega (arith, count_cons q x xs, same) in k))
        | inr not ↦ absurd (true≢false (sym any ∙ ap (λ c. c || list_any p xs) not ∙ last))
      ]
    ]

-- the entries of a lane after a write, and of another lane
pub with_same : (lane : ℕ) (ids : List ℕ) (es : List Entries) → entries_on lane (with_entries lane ids es) ≡ ids
with_same lane ids [] = cond-true {A = List ℕ} (lane == lane) _ _ (eq-eqb lane lane refl)
with_same lane ids (e ∷ es) =
    elim (cases_Bool (e.lane == lane)) [
      | inl here ↦ ap (entries_on lane) (cond-true {A = List Entries} (e.lane == lane) _ _ here) ∙ cond-true {A = List ℕ} (lane == lane) _ _ (eq-eqb lane lane refl)
      | inr not ↦ ap (entries_on lane) (cond-false {A = List Entries} (e.lane == lane) _ _ not) ∙ cond-false {A = List ℕ} (e.lane == lane) _ _ not ∙ with_same lane ids es
    ]

pub with_other : (lane other : ℕ) (ids : List ℕ) (es : List Entries) → (lane ≡ other → ⊥) → entries_on other (with_entries lane ids es) ≡ entries_on other es
with_other lane other ids [] apart = cond-false {A = List ℕ} (lane == other) _ _ (ne_eqb lane other apart)
with_other lane other ids (e ∷ es) apart =
    elim (cases_Bool (e.lane == lane)) [
      | inl here ↦ (
          let is = eqb-true e.lane lane here in
          ap (entries_on other) (cond-true {A = List Entries} (e.lane == lane) _ _ here) ∙ cond-false {A = List ℕ} (lane == other) _ _ (ne_eqb lane other apart)
          ∙ sym (cond-false {A = List ℕ} (e.lane == other) _ _ (ne_eqb e.lane other (λ same. apart (sym is ∙ same)))))
      | inr not ↦ ap (entries_on other) (cond-false {A = List Entries} (e.lane == lane) _ _ not) ∙ ap (λ (xs : List ℕ). if e.lane == other then e.ids else xs) (with_other lane other ids es apart)
    ]

-- a sum over lanes that reads their entries, and nothing where there is none
pub sum_with : (f : List ℕ → ℕ) (lane : ℕ) (ids : List ℕ) (es : List Entries) → f [] ≡ 0 → sum_by (λ (e : Entries). f e.ids) (with_entries lane ids es) + f (entries_on lane es) ≡ sum_by (λ (e : Entries). f e.ids) es + f ids
sum_with f lane ids [] none =
    let one = sum_by-cons (λ (e : Entries). f e.ids) (record { lane = lane; ids = ids }) [] in
    omega (arith, one, none)
sum_with f lane ids (e ∷ es) none =
    let g : Entries → ℕ = λ e. f e.ids in
    let new : Entries = record { lane = lane; ids = ids } in
    elim (cases_Bool (e.lane == lane)) [
      | inl here ↦ (
          let a = ap (sum_by g) (cond-true {A = List Entries} (e.lane == lane) (new ∷ es) (e ∷ with_entries lane ids es) here) in
          let b = ap f (cond-true {A = List ℕ} (e.lane == lane) e.ids (entries_on lane es) here) in
          omega (arith, a, b, sum_by-cons g new es, sum_by-cons g e es))
      | inr not ↦ (
          let a = ap (sum_by g) (cond-false {A = List Entries} (e.lane == lane) (new ∷ es) (e ∷ with_entries lane ids es) not) in
          let b = ap f (cond-false {A = List ℕ} (e.lane == lane) e.ids (entries_on lane es) not) in
          let rest = sum_with f lane ids es none in
          omega (arith, a, b, rest, sum_by-cons g e es, sum_by-cons g e (with_entries lane ids es)))
    ]

-- a span with a hold was made
pub made_if_held : (made : List Span) (id : ℕ) → 0 < (span_at made id).holds → id < length made
made_if_held made id live =
    elim (cases_lt id (length made)) [
      | inl within ↦ within
      | inr past ↦ absurd (let e = ap (λ (s : Span). s.holds) (get_or_past made id no_span past) in omega (arith, e, live))
    ]

pub length_held : (made : List Span) (above : Option ℕ) → length (with_hold_of_child made above) ≡ length made
length_held made None = refl
length_held made (Some p) = length-set made p _

-- no lane has an entry of a span without first entries
pub no_entries : (lanes : List Entries) (id lane : ℕ) → entered_lane_count lanes id ≡ 0 → times_in id (entries_on lane lanes) ≡ 0
no_entries [] id lane none = refl
no_entries (e ∷ es) id lane none =
    let first = count_cons (has_entry id) e es in
    let rest : entered_lane_count es id ≡ 0 = omega (arith, first, none) in
    elim (cases_Bool (e.lane == lane)) [
      | inl here ↦ elim (cases_Bool (has_entry id e)) [
        | inl has ↦ absurd (omega (arith, first, none, cond-true {A = ℕ} (has_entry id e) 1 0 has))
        | inr hasnt ↦ ap (times_in id) (cond-true {A = List ℕ} (e.lane == lane) _ _ here) ∙ none_counted (λ x. x == id) e.ids hasnt
      ]
      | inr not ↦ ap (times_in id) (cond-false {A = List ℕ} (e.lane == lane) _ _ not) ∙ no_entries es id lane rest
    ]
