-- Where no two ids of a list are equal, each has its own place.
use Rattle.trace_lines.proofs.Common.{HaveDistinctIds, List, [], all_differ, and_parts, ap, arith, eqb-false, false, id_at, length, list_any, not, not-true, or_parts, refl, suc, sym, true, zero, ℕ, ◌<◌, ◌==◌, ◌∷◌, ◌≡◌}

-- an id that is equal to none stands at no place
other : (n : ℕ) (ns : List ℕ) (m : ℕ) → m < length ns → list_any (λ x. n == x) ns ≡ false → n ≡ id_at ns m → ⊥
other n [] m within none same = omega (arith, within)
other n (x ∷ ns) zero within none same = eqb-false n x (or_parts (n == x) _ none).0 same
other n (x ∷ ns) (suc m) within none same = other n ns m (omega (arith, within)) (or_parts (n == x) _ none).1 same

pub own_ids : (ns : List ℕ) → all_differ ns ≡ true → HaveDistinctIds ns
own_ids [] differ n m here there same = absurd (omega (arith, here))
own_ids (x ∷ ns) differ zero zero here there same = refl
own_ids (x ∷ ns) differ zero (suc m) here there same =
    absurd (other x ns m (omega (arith, there)) (not-true _ (and_parts (not (list_any (λ y. x == y) ns)) _ differ).0) same)
own_ids (x ∷ ns) differ (suc n) zero here there same =
    absurd (other x ns n (omega (arith, here)) (not-true _ (and_parts (not (list_any (λ y. x == y) ns)) _ differ).0) (sym same))
own_ids (x ∷ ns) differ (suc n) (suc m) here there same =
    ap suc (own_ids ns (and_parts (not (list_any (λ y. x == y) ns)) _ differ).1 n m (omega (arith, here)) (omega (arith, there)) same)
