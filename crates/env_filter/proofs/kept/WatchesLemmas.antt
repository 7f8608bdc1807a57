-- What is noted, one after another.
use Rattle.std.proofs.Common.{◌≡◌, ℕ, zero, suc, ◌+◌, ◌<◌, List, [], ◌∷◌, length, take, get_or, set, Bool, true, false, refl, sym, ap, ◌∙◌, arith, inl, inr, ◌++◌, append_assoc, map, ◌||◌, nat_lt}
use Rattle.env_filter.proofs.Common.{cases_lt, cond-true, cond-false, take_more, map-append, Value, Ask, Care, more_met, with_met_at, all_asks, found_in, is_given}
use Rattle.std.proofs.lemmas.List.{append-nil}

pub more_none : (met : List Bool) → more_met met [] ≡ met
more_none [] = refl
more_none (m ∷ met) = refl

pub length_more : (met found : List Bool) → length (more_met met found) ≡ length met
length_more [] found = refl
length_more (m ∷ met) [] = refl
length_more (m ∷ met) (f ∷ found) = ap suc (length_more met found)

lt_true : (a b : ℕ) → a < b → nat_lt a b ≡ true
lt_true a b h = grind arith

lt_false : (a b : ℕ) → (a < b → ⊥) → nat_lt a b ≡ false
lt_false a b h = grind arith

noted_in : (met : List Bool) (at : ℕ) → at < length met → with_met_at met at true ≡ set met at true
noted_in met at within = cond-true {A = List Bool} (nat_lt at (length met)) (set met at true) met (lt_true at (length met) within)

noted_out : (met : List Bool) (at : ℕ) → (at < length met → ⊥) → with_met_at met at true ≡ met
noted_out met at out = cond-false {A = List Bool} (nat_lt at (length met)) (set met at true) met (lt_false at (length met) out)

noted_after : (m : Bool) (met : List Bool) (at : ℕ) (found : Bool) → with_met_at (m ∷ met) (suc at) found ≡ m ∷ with_met_at met at found
noted_after m met at true = elim (cases_lt at (length met)) [
  | inl within ↦ noted_in (m ∷ met) (suc at) (omega (arith, within)) ∙ ap (λ (ms : List Bool). m ∷ ms) (sym (noted_in met at within))
  | inr out ↦ noted_out (m ∷ met) (suc at) (λ h. absurd (omega (arith, out, h))) ∙ ap (λ (ms : List Bool). m ∷ ms) (sym (noted_out met at (λ h. absurd (omega (arith, out, h)))))
]
noted_after m met at false = refl

or_noted : (m f : Bool) (met : List Bool) → with_met_at (m ∷ met) 0 f ≡ (m || f) ∷ met
or_noted true true met = noted_in (true ∷ met) 0 (omega arith)
or_noted true false met = refl
or_noted false true met = noted_in (false ∷ met) 0 (omega arith)
or_noted false false met = refl

noted_empty : (at : ℕ) (found : Bool) → with_met_at [] at found ≡ []
noted_empty at true = noted_out [] at (λ h. absurd (omega (arith, h)))
noted_empty at false = refl

take_suc : (f : Bool) (found : List Bool) (at : ℕ) → take (suc at + 1) (f ∷ found) ≡ f ∷ take (at + 1) found
take_suc f found at = let e : suc at + 1 ≡ suc (at + 1) = omega arith in ap (λ (n : ℕ). take n (f ∷ found)) e

pub noted_more : (met found : List Bool) (at : ℕ) → at < length found → with_met_at (more_met met (take at found)) at (get_or found at false) ≡ more_met met (take (at + 1) found)
noted_more [] found at within = noted_empty at (get_or found at false)
noted_more (m ∷ met) [] at within = absurd (omega (arith, within))
noted_more (m ∷ met) (f ∷ found) zero within = or_noted m f met ∙ ap (λ (ms : List Bool). (m || f) ∷ ms) (sym (more_none met))
noted_more (m ∷ met) (f ∷ found) (suc at) within =
    noted_after (m || f) (more_met met (take at found)) at (get_or found at false) ∙ ap (λ (ms : List Bool). (m || f) ∷ ms) (noted_more met found at (omega (arith, within)))
    ∙ ap (λ (fs : List Bool). more_met (m ∷ met) fs) (sym (take_suc f found at))

all_asks_append : (xs ys : List Care) → all_asks (xs ++ ys) ≡ all_asks xs ++ all_asks ys
all_asks_append [] ys = refl
all_asks_append (x ∷ xs) ys = ap (λ (qs : List Ask). x.asks ++ qs) (all_asks_append xs ys) ∙ sym (append_assoc x.asks (all_asks xs) (all_asks ys))

pub found_more : (given : List (ℕ × Value)) (cares : List Care) (at : ℕ) (d : Care) → at < length cares
    → found_in given (take (at + 1) cares) ≡ found_in given (take at cares) ++ map (is_given given) (get_or cares at d).asks
found_more given cares at d within =
    let one : all_asks (get_or cares at d ∷ []) ≡ (get_or cares at d).asks = append-nil (get_or cares at d).asks in
    ap (λ (cs : List Care). found_in given cs) (take_more cares at d within)
    ∙ ap (λ (qs : List Ask). map (is_given given) qs) (all_asks_append (take at cares) (get_or cares at d ∷ []) ∙ ap (λ (qs : List Ask). all_asks (take at cares) ++ qs) one)
    ∙ map-append (is_given given) (all_asks (take at cares)) (get_or cares at d).asks
