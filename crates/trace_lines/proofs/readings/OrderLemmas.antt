-- How names compare.
use Rattle.trace_lines.proofs.Common.{Greater, Less, List, [], ap, arith, get_or, length, nat_cmp, ordering_then, slice_cmp, ℕ, ◌<◌, ◌∷◌, ◌≡◌}
use Rattle.std.specs.Cmp.{nat_cmp_is}

-- the first bytes tell how names compare, where they differ
pub first_less : (k l : List ℕ) → 0 < length k → 0 < length l → get_or k 0 0 < get_or l 0 0 → Less ≡ slice_cmp nat_cmp k l
first_less [] l some there less = absurd (omega (arith, some))
first_less (x ∷ k) [] some there less = absurd (omega (arith, there))
first_less (x ∷ k) (y ∷ l) some there less = ap (λ o. ordering_then o (slice_cmp nat_cmp k l)) (nat_cmp_is x y Less less)

pub first_greater : (k l : List ℕ) → 0 < length k → 0 < length l → get_or l 0 0 < get_or k 0 0 → Greater ≡ slice_cmp nat_cmp k l
first_greater [] l some there greater = absurd (omega (arith, some))
first_greater (x ∷ k) [] some there greater = absurd (omega (arith, there))
first_greater (x ∷ k) (y ∷ l) some there greater = ap (λ o. ordering_then o (slice_cmp nat_cmp k l)) (nat_cmp_is x y Greater greater)
