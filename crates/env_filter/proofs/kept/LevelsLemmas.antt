-- Spans and levels side by side.
use Rattle.std.proofs.Common.{◌≡◌, ℕ, zero, suc, ◌<◌, List, [], ◌∷◌, ◌++◌, length, map, get_or, true, false, refl, sym, ap, ◌∙◌, arith, inl, inr, ◌==◌, ◌||◌}
use Rattle.env_filter.proofs.Common.{list_any, cases_Bool, cond-true, cond-false, LevelFilter, without_last, OpenLevel, open_levels, is_of_span}
use Rattle.std.specs.List.{remove}
use Rattle.std.proofs.lemmas.Bool.{eq-eqb, ne_eqb}

pub pair_append : (spans : List ℕ) (levels : List LevelFilter) (s : ℕ) (l : LevelFilter) → length levels ≡ length spans
    → open_levels (spans ++ s ∷ []) (levels ++ l ∷ []) ≡ open_levels spans levels ++ record { span = s; level = l } ∷ []
pair_append [] [] s l as_many = refl
pair_append [] (y ∷ levels) s l as_many = absurd (omega (arith, as_many))
pair_append (x ∷ spans) [] s l as_many = absurd (omega (arith, as_many))
pair_append (x ∷ spans) (y ∷ levels) s l as_many = ap (λ (es : List OpenLevel). let e : OpenLevel = record { span = x; level = y } in e ∷ es) (pair_append spans levels s l (omega (arith, as_many)))

pub pair_levels : (spans : List ℕ) (levels : List LevelFilter) → length levels ≡ length spans → levels ≡ map (λ (e : OpenLevel). e.level) (open_levels spans levels)
pair_levels [] [] as_many = refl
pair_levels [] (y ∷ levels) as_many = absurd (omega (arith, as_many))
pair_levels (x ∷ spans) [] as_many = absurd (omega (arith, as_many))
pair_levels (x ∷ spans) (y ∷ levels) as_many = ap (λ (ls : List LevelFilter). y ∷ ls) (pair_levels spans levels (omega (arith, as_many)))

none_of : (spans : List ℕ) (levels : List LevelFilter) (id : ℕ) → ((k : ℕ) → k < length spans → get_or spans k 0 ≡ id → ⊥) → list_any (is_of_span id) (open_levels spans levels) ≡ false
none_of [] levels id none = refl
none_of (x ∷ spans) [] id none = refl
none_of (x ∷ spans) (y ∷ levels) id none =
    ap (λ b. b || list_any (is_of_span id) (open_levels spans levels)) (ne_eqb x id (none 0 (omega arith))) ∙ none_of spans levels id (λ k within. none (suc k) (omega (arith, within)))

some_of : (spans : List ℕ) (levels : List LevelFilter) (id at : ℕ) → length levels ≡ length spans → at < length spans → get_or spans at 0 ≡ id → list_any (is_of_span id) (open_levels spans levels) ≡ true
some_of [] levels id at as_many within is = absurd (omega (arith, within))
some_of (x ∷ spans) [] id at as_many within is = absurd (omega (arith, as_many))
some_of (x ∷ spans) (y ∷ levels) id zero as_many within is = ap (λ b. b || list_any (is_of_span id) (open_levels spans levels)) (eq-eqb x id is)
some_of (x ∷ spans) (y ∷ levels) id (suc at) as_many within is = elim (cases_Bool (x == id)) [
  | inl here ↦ ap (λ b. b || list_any (is_of_span id) (open_levels spans levels)) here
  | inr not_here ↦ ap (λ b. b || list_any (is_of_span id) (open_levels spans levels)) not_here ∙ some_of spans levels id at (omega (arith, as_many)) (omega (arith, within)) is
]

pub pair_none : (spans : List ℕ) (levels : List LevelFilter) (id : ℕ) → ((k : ℕ) → k < length spans → get_or spans k 0 ≡ id → ⊥) → open_levels spans levels ≡ without_last (is_of_span id) (open_levels spans levels)
pair_none [] levels id none = refl
pair_none (x ∷ spans) [] id none = refl
pair_none (x ∷ spans) (y ∷ levels) id none =
    let e : OpenLevel = record { span = x; level = y } in
    let rest = none_of spans levels id (λ k within. none (suc k) (omega (arith, within))) in
    sym (cond-false {A = List OpenLevel} (list_any (is_of_span id) (open_levels spans levels)) _ _ rest ∙ cond-false {A = List OpenLevel} (x == id) _ _ (ne_eqb x id (none 0 (omega arith))))

pub pair_removed : (spans : List ℕ) (levels : List LevelFilter) (id at : ℕ) → length levels ≡ length spans → at < length spans → get_or spans at 0 ≡ id
    → ((k : ℕ) → at < k → k < length spans → get_or spans k 0 ≡ id → ⊥) → open_levels (remove spans at) (remove levels at) ≡ without_last (is_of_span id) (open_levels spans levels)
pair_removed [] levels id at as_many within is last = absurd (omega (arith, within))
pair_removed (x ∷ spans) [] id at as_many within is last = absurd (omega (arith, as_many))
pair_removed (x ∷ spans) (y ∷ levels) id zero as_many within is last =
    let rest = none_of spans levels id (λ k within. last (suc k) (omega arith) (omega (arith, within))) in
    sym (cond-false {A = List OpenLevel} (list_any (is_of_span id) (open_levels spans levels)) _ _ rest ∙ cond-true {A = List OpenLevel} (x == id) _ _ (eq-eqb x id is))
pair_removed (x ∷ spans) (y ∷ levels) id (suc at) as_many within is last =
    let some = some_of spans levels id at (omega (arith, as_many)) (omega (arith, within)) is in
    ap (λ (es : List OpenLevel). let e : OpenLevel = record { span = x; level = y } in e ∷ es)
    (pair_removed spans levels id at (omega (arith, as_many)) (omega (arith, within)) is (λ k after below. last (suc k) (omega (arith, after)) (omega (arith, below))))
    ∙ sym (cond-true {A = List OpenLevel} (list_any (is_of_span id) (open_levels spans levels)) _ _ some)
