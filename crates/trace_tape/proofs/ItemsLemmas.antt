-- The first items of a list, one more.
use Rattle.std.proofs.Common.{◌≡◌, ℕ, zero, suc, ◌+◌, ◌<◌, List, [], ◌∷◌, ◌++◌, length, map, take, get_or, add-one, sym, ap, arith}

pub map_more : {A B : Type 0} (f : A → B) (xs : List A) (i : ℕ) (x : A) → i < length xs → x ≡ get_or xs i x → map f (take (i + 1) xs) ≡ map f (take i xs) ++ f x ∷ []
map_more {A} {B} f xs i x less is = rw add-one (go xs i less is) where
  go : (ys : List A) (n : ℕ) → n < length ys → x ≡ get_or ys n x → map f (take (suc n) ys) ≡ map f (take n ys) ++ f x ∷ []
  go [] n less is = absurd (omega (arith, less))
  go (y ∷ ys) zero less is = ap (λ (z : A). f z ∷ []) (sym is)
  go (y ∷ ys) (suc n) less is = ap (λ (zs : List B). f y ∷ zs) (go ys n (omega (arith, less)) is)
