-- The places of spans in the order of their starts.
use Rattle.span_laws.proofs.Common.{Bool, List, [], ap, arith, cases_Bool, cond-false, cond-true, false, fold, if◌then◌else◌, inl, inr, is_in, length, place_from, place_in, refl, subst, sym, true, with_started, ℕ, ◌++◌, ◌+◌, ◌<◌, ◌==◌, ◌||◌, ◌∙◌, ◌∷◌, ◌≡◌, ◌≤◌}
use Rattle.std.proofs.lemmas.Bool.{eq-eqb, eqb-true, ne_eqb}

-- a span that isn't there has no place
pub absent : (n : ℕ) (order : List ℕ) (s : ℕ) → is_in s order ≡ false → place_from n order s ≡ 0
absent n [] s out = refl
absent n (x ∷ order) s out = by_test (absent (n + 1) order s) (x == s) out
  where
    by_test : (is_in s order ≡ false → place_from (n + 1) order s ≡ 0) → (b : Bool) → (b || is_in s order) ≡ false → (if b then n else place_from (n + 1) order s) ≡ 0
    by_test rest true e = absurd (cc e)
    by_test rest false e = rest e

-- one that is there has one, from the first number on
pub present : (n : ℕ) (order : List ℕ) (s : ℕ) → is_in s order ≡ true → n ≤ place_from n order s
present n [] s there = absurd (cc there)
present n (x ∷ order) s there = by_test (present (n + 1) order s) (x == s) there
  where
    by_test : (is_in s order ≡ true → n + 1 ≤ place_from (n + 1) order s) → (b : Bool) → (b || is_in s order) ≡ true → n ≤ (if b then n else place_from (n + 1) order s)
    by_test rest true e = omega arith
    by_test rest false e = let later = rest e in omega (arith, later)

pub placed : (order : List ℕ) (s : ℕ) → 0 < place_in order s → is_in s order ≡ true
placed order s some = elim (cases_Bool (is_in s order)) [
  | inl there ↦ there
  | inr out ↦ absurd (let none = absent 1 order s out in omega (arith, none, some))
]

-- one more
pub place_new : (n : ℕ) (order : List ℕ) (s : ℕ) → is_in s order ≡ false → place_from n (order ++ s ∷ []) s ≡ n + length order
place_new n [] s out = let here = cond-true {A = ℕ} (s == s) n 0 (eq-eqb s s refl) in omega (arith, here)
place_new n (x ∷ order) s out = by_test (place_new (n + 1) order s) (x == s) out
  where
    by_test : (is_in s order ≡ false → place_from (n + 1) (order ++ s ∷ []) s ≡ n + 1 + length order) → (b : Bool) → (b || is_in s order) ≡ false → (if b then n else place_from (n + 1) (order ++ s ∷ []) s) ≡ n + length (x ∷ order)
    by_test rest true e = absurd (cc e)
    by_test rest false e = let later = rest e in omega (arith, later)

pub place_other : (n : ℕ) (order : List ℕ) (x s : ℕ) → (s ≡ x → ⊥) → place_from n (order ++ x ∷ []) s ≡ place_from n order s
place_other n [] x s other = cond-false {A = ℕ} (x == s) n 0 (ne_eqb x s (λ e. other (sym e)))
place_other n (y ∷ order) x s other = ap (λ (p : ℕ). if y == s then n else p) (place_other (n + 1) order x s other)

-- what has a place keeps it
pub place_stays : (order : List ℕ) (x s : ℕ) → 0 < place_in order s → place_in (with_started order x) s ≡ place_in order s
place_stays order x s some = elim (cases_Bool (is_in x order)) [
  | inl there ↦ ap (λ (o : List ℕ). place_in o s) (cond-true {A = List ℕ} (is_in x order) order (order ++ x ∷ []) there)
  | inr out ↦ (
      let other : (s ≡ x → ⊥) = λ e. (let none = absent 1 order x out in let same = ap (place_in order) e in omega (arith, none, same, some)) in
      ap (λ (o : List ℕ). place_in o s) (cond-false {A = List ℕ} (is_in x order) order (order ++ x ∷ []) out) ∙ place_other 1 order x s other)
]

pub places_stay : (order xs : List ℕ) (s : ℕ) → 0 < place_in order s → place_in (fold with_started order xs) s ≡ place_in order s
places_stay order [] s some = refl
places_stay order (x ∷ xs) s some =
    let here = place_stays order x s some in
    places_stay (with_started order x) xs s (subst (λ (p : ℕ). 0 < p) (sym here) some) ∙ here

-- no place for what starts later
pub place_none : (order : List ℕ) (x s : ℕ) → (s ≡ x → ⊥) → place_in (with_started order x) s ≡ place_in order s
place_none order x s other = elim (cases_Bool (is_in x order)) [
  | inl there ↦ ap (λ (o : List ℕ). place_in o s) (cond-true {A = List ℕ} (is_in x order) order (order ++ x ∷ []) there)
  | inr out ↦ ap (λ (o : List ℕ). place_in o s) (cond-false {A = List ℕ} (is_in x order) order (order ++ x ∷ []) out) ∙ place_other 1 order x s other
]

-- no two spans have one place
pub one_place : (n : ℕ) (order : List ℕ) (s t : ℕ) → 0 < n → place_from n order s ≡ place_from n order t → 0 < place_from n order s → s ≡ t
one_place n [] s t more same some = absurd (omega (arith, some))
one_place n (x ∷ order) s t more same some = by_test (one_place (n + 1) order s t (omega arith)) (x == s) refl (x == t) refl same some
  where
    later : (u : ℕ) → 0 < place_from (n + 1) order u → n < place_from (n + 1) order u
    later u some = elim (cases_Bool (is_in u order)) [
      | inl there ↦ (let from = present (n + 1) order u there in omega (arith, from))
      | inr out ↦ absurd (let none = absent (n + 1) order u out in omega (arith, none, some))
    ]

    by_test : (place_from (n + 1) order s ≡ place_from (n + 1) order t → 0 < place_from (n + 1) order s → s ≡ t) → (a : Bool) → (x == s) ≡ a → (b : Bool) → (x == t) ≡ b → (if a then n else place_from (n + 1) order s) ≡ (if b then n else place_from (n + 1) order t) → 0 < (if a then n else place_from (n + 1) order s) → s ≡ t
    by_test rest true is_s true is_t same some = sym (eqb-true x s is_s) ∙ eqb-true x t is_t
    by_test rest true is_s false is_t same some = absurd (let l = later t (subst (λ (p : ℕ). 0 < p) same some) in omega (arith, l, same))
    by_test rest false is_s true is_t same some = absurd (let l = later s some in omega (arith, l, same))
    by_test rest false is_s false is_t same some = rest same some
