-- The first that a filter keeps is the first that a search finds.
use Rattle.std.specs.List.{filter, find}
use Rattle.std.proofs.Common.{refl, sym, ◌∙◌, ap, get_or, ◌≡◌, ℕ, ◌<◌, length, drop, List, [], ◌∷◌, Bool, true, false, Option, Some, None}
use Rattle.std.proofs.Math.Seq.{drop-cons}

module _ {X : Type 0} (test : X → Bool) where
  -- the first item, if there is one
  abbrev pub first : List X → Option X
  first [] = None
  first (x ∷ xs) = Some x

  pub first-filter : (xs : List X) → first (filter test xs) ≡ find test xs
  first-filter [] = refl
  first-filter (x ∷ xs) = by (test x) refl (first-filter xs)
    where
      by : (b : Bool) → test x ≡ b → first (filter test xs) ≡ find test xs → first (filter test (x ∷ xs)) ≡ find test (x ∷ xs)
      by true is rest = rw is refl
      by false is rest = rw is rest

  pub found : (xs : List X) (x : X) (rest : List X) → filter test xs ≡ x ∷ rest → find test xs ≡ Some x
  found xs x rest is = sym (first-filter xs) ∙ ap first is

  pub not_found : (xs : List X) → filter test xs ≡ [] → find test xs ≡ None
  not_found xs is = sym (first-filter xs) ∙ ap first is

  pub found_at : (xs : List X) (i : ℕ) (x : X) → i < length xs → x ≡ get_or xs i x → test x ≡ true → find test (drop i xs) ≡ Some x
  found_at xs i x within is passes = rw (drop-cons xs i x within, ← is, passes)
