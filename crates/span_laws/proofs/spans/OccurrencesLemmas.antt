-- How often a span stands in a list, and how many slots hold it.
use Rattle.span_laws.proofs.Common.{Bool, List, None, Option, Scope, Some, [], any_counted, ap, arith, cases_Bool, cases_eq, cond, count_by, false, filter, get_or, holds_span, inl, inr, is_in, length, named_within, nat_lt, nat_tests, occurrences, refl, slice_set, slot_at, suc, sum_by-append, sum_by-cons, sum_by-set, sum_by_push, sym, true, zero, ℕ, ◌++◌, ◌+◌, ◌==◌, ◌∙◌, ◌∷◌, ◌≡◌}
use Rattle.std.proofs.lemmas.List.{get_or-set_other}

pub occurs_cons : (s x : ℕ) (xs : List ℕ) → occurrences s (x ∷ xs) ≡ cond (x == s) 1 0 + occurrences s xs
occurs_cons s x xs = sum_by-cons (λ x. cond (x == s) 1 0) x xs

pub occurs_append : (s : ℕ) (xs ys : List ℕ) → occurrences s (xs ++ ys) ≡ occurrences s xs + occurrences s ys
occurs_append s xs ys = sum_by-append (λ x. cond (x == s) 1 0) xs ys

pub is_in_counted : (s : ℕ) (xs : List ℕ) → is_in s xs ≡ nat_lt 0 (occurrences s xs)
is_in_counted s xs = any_counted (λ x. x == s) xs

-- nothing stands in a list where no span does
pub none_in : (xs : List ℕ) → ((s : ℕ) → occurrences s xs ≡ 0) → xs ≡ []
none_in [] none = refl
none_in (x ∷ xs) none = absurd (let here = occurs_cons x x xs in let is = none x in grind (arith, nat_tests, here, is))

-- a filter by a test on spans keeps all of a span's occurrences, or none
pub occurs_filter : (p : ℕ → Bool) (s : ℕ) (xs : List ℕ) → occurrences s (filter p xs) ≡ cond (p s) (occurrences s xs) 0
occurs_filter p s [] = elim (cases_Bool (p s)) [ inl passes ↦ rw passes refl | inr fails ↦ rw fails refl ]
occurs_filter p s (x ∷ xs) =
    let rest = occurs_filter p s xs in
    let all = occurs_cons s x xs in
    elim (cases_Bool (p x)) [
      | inl passes ↦ rw passes (occurs_cons s x (filter p xs) ∙ elim (cases_eq x s) [
        | inl same ↦ (let here : p s ≡ true = ap p (sym same) ∙ passes in grind (arith, nat_tests, rest, all, here))
        | inr other ↦ grind (arith, nat_tests, rest, all, other)
      ])
      | inr fails ↦ rw fails (elim (cases_eq x s) [
        | inl same ↦ (let here : p s ≡ false = ap p (sym same) ∙ fails in grind (arith, nat_tests, rest, all, here))
        | inr other ↦ grind (arith, nat_tests, rest, all, other)
      ])
    ]

-- how many unspent handles hold a span
abbrev pub held : List (Option Scope) → ℕ → ℕ
held hs s = count_by (holds_span s) hs

pub held_push : (hs : List (Option Scope)) (o : Option Scope) (s : ℕ) → held (hs ++ o ∷ []) s ≡ held hs s + cond (holds_span s o) 1 0
held_push hs o s = sum_by_push (λ x. cond (holds_span s x) 1 0) hs o

pub held_set : (hs : List (Option Scope)) (handle : ℕ) (scope : Scope) (t : ℕ) → slot_at hs handle ≡ Some scope → held (slice_set hs handle None) t + cond (holds_span t (Some scope)) 1 0 ≡ held hs t
held_set hs handle scope t there =
    let change = sum_by-set (λ slot. cond (holds_span t slot) 1 0) hs handle None None (named_within hs handle scope there) in
    let mine = ap (λ slot. cond {A = ℕ} (holds_span t slot) 1 0) there in
    omega (arith, change, mine)

-- a name that isn't spent stays with one more
pub slot_push : {A : Type 0} (slots : List (Option A)) (o : Option A) (n : ℕ) (x : A) → slot_at slots n ≡ Some x → slot_at (slots ++ o ∷ []) n ≡ Some x
slot_push [] o n x there = absurd (cc there)
slot_push (s ∷ ss) o zero x there = there
slot_push (s ∷ ss) o (suc n) x there = slot_push ss o n x there

-- and while another one is spent
pub slot_kept : {A : Type 0} (slots : List (Option A)) (i n : ℕ) (x : A) → (n ≡ i → ⊥) → slot_at slots n ≡ Some x → slot_at (slice_set slots i None) n ≡ Some x
slot_kept slots i n x other there = get_or-set_other slots i n None None other ∙ there

pub get_push_other : {A : Type 0} (xs : List A) (y d : A) (i : ℕ) → (i ≡ length xs → ⊥) → get_or (xs ++ y ∷ []) i d ≡ get_or xs i d
get_push_other [] y d zero other = absurd (other refl)
get_push_other [] y d (suc i) other = refl
get_push_other (x ∷ xs) y d zero other = refl
get_push_other (x ∷ xs) y d (suc i) other = get_push_other xs y d i (λ e. other (ap suc e))
