-- One field more is fixed.
use Rattle.std.proofs.Common.{◌≡◌, ℕ, zero, suc, ◌+◌, ◌<◌, List, [], ◌∷◌, ◌++◌, length, take, drop, map, get_or, set, sym, ap, ◌∙◌, arith}
use Rattle.env_filter.proofs.Common.{Match, fixed_field}

fixed_at : (old : List Match) (at : ℕ) (w : Match) → at < length old → w ≡ get_or (map fixed_field (take at old) ++ drop at old) at w
    → set (map fixed_field (take at old) ++ drop at old) at (fixed_field w) ≡ map fixed_field (take (at + 1) old) ++ drop (at + 1) old
fixed_at [] at w within is = absurd (omega (arith, within))
fixed_at (x ∷ old) zero w within is = ap (λ (y : Match). fixed_field y ∷ old) is
fixed_at (x ∷ old) (suc at) w within is =
    let e : suc at + 1 ≡ suc (at + 1) = omega arith in
    ap (λ (ys : List Match). fixed_field x ∷ ys) (fixed_at old at w (omega (arith, within)) is) ∙ ap (λ (n : ℕ). map fixed_field (take n (x ∷ old)) ++ drop n (x ∷ old)) (sym e)

pub fixed_more : (old items : List Match) (at : ℕ) (v w : Match) → items ≡ map fixed_field (take at old) ++ drop at old → at < length old → w ≡ get_or items at w → v ≡ fixed_field w
    → set items at v ≡ map fixed_field (take (at + 1) old) ++ drop (at + 1) old
fixed_more old items at v w so_far within read is =
    ap (λ (y : Match). set items at y) is ∙ ap (λ (xs : List Match). set xs at (fixed_field w)) so_far ∙ fixed_at old at w within (read ∙ ap (λ (xs : List Match). get_or xs at w) so_far)
