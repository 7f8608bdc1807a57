-- Where a list of two parts holds an item, it stands in one of them.
use Rattle.std.proofs.Common.{◌≡◌, List, [], ◌∷◌, ◌++◌, refl, sym, ap, ◌∙◌, ◌⊎◌, inl, inr}

pub heads : {A : Type 0} (a b : A) (x y : List A) → ◌≡◌ {A = List A} (a ∷ x) (b ∷ y) → a ≡ b
heads a b x y e = cc e

pub tails : {A : Type 0} (a b : A) (x y : List A) → ◌≡◌ {A = List A} (a ∷ x) (b ∷ y) → x ≡ y
tails a b x y e = cc e

-- nothing has no item
pub no_item : {A : Type 0} (a : A) (x y : List A) → ◌≡◌ {A = List A} [] (x ++ a ∷ y) → ⊥
no_item a [] y e = absurd (cc e)
no_item a (b ∷ x) y e = absurd (cc e)

module _ {A : Type 0} (p : A) (rest : List A) where
  abbrev Parted : List A → List A → List A → Type 0
  Parted xs ys front = ((r : List A) × (xs ≡ front ++ p ∷ r)) ⊎ ((f : List A) × (front ≡ xs ++ f) × (ys ≡ f ++ p ∷ rest))

  pub parted : (xs ys front : List A) → xs ++ ys ≡ front ++ p ∷ rest → Parted xs ys front
  parted [] ys front is = inr (front, refl, is)
  parted (x ∷ xs) ys [] is = inl (xs, ap (λ (y : A). y ∷ xs) (heads x p (xs ++ ys) rest is))
  parted (x ∷ xs) ys (f ∷ front) is = elim (parted xs ys front (tails x f (xs ++ ys) (front ++ p ∷ rest) is)) [
    | inl found ↦ (let both = ap (λ (y : A). y ∷ xs) (heads x f (xs ++ ys) (front ++ p ∷ rest) is) ∙ ap (λ (l : List A). f ∷ l) found.1 in inl (found.0, both))
    | inr found ↦ (let both = ap (λ (y : A). y ∷ front) (sym (heads x f (xs ++ ys) (front ++ p ∷ rest) is)) ∙ ap (λ (l : List A). x ∷ l) found.1 in inr (found.0, both, found.2))
  ]
