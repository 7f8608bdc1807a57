-- The first value stays the first, and the last stands at its number.
use Rattle.std.proofs.Common.{◌≡◌, ℕ, ◌<◌, zero, suc, List, ◌∷◌, Option, Some, slice_get, refl, ap, sym, subst, arith}
use mathlib.Core.List.{IsPrefix}
use Rattle.value_reader.specs.declared.numbered.Numbered.{Numbered}
use Rattle.value_reader.specs.declared.order.View.{View}
use Rattle.value_reader.specs.Order.{EndsWith}
use Rattle.value_reader.specs.Knowing.{IsLast, seen_by}
use Rattle.value_reader.proofs.Lists.{prefix_get}

-- a value that has replaced others stands at its number, behind the first one
pub ends_at : {A : Type 0} (first : A) (seen : List A) (t : Numbered A) → EndsWith seen t → ¬ (t.number ≡ 0) → slice_get (first ∷ seen) t.number ≡ Some t.value
ends_at first seen t ends some = by t.number refl
  where
    by : (n : ℕ) → t.number ≡ n → slice_get (first ∷ seen) n ≡ Some t.value
    by zero is = absurd (some is)
    by (suc k) is = ends.last k is

pub stands : {A : Type 0} (first : A) (v : View A) (t : Numbered A) → IsLast first v t → slice_get (first ∷ v.seen) t.number ≡ Some t.value
stands first v t last = by t.number refl
  where
    by : (n : ℕ) → t.number ≡ n → slice_get (first ∷ v.seen) n ≡ Some t.value
    by zero is = ap (λ x. Some x) (sym (last.alone is))
    by (suc k) is = last.ends.last k is

-- what was seen at its number is there too where more is seen
pub stays_at : {A : Type 0} (first : A) (seen more : List A) (n : ℕ) (x : A) → IsPrefix seen more → slice_get (first ∷ seen) n ≡ Some x → slice_get (first ∷ more) n ≡ Some x
stays_at first seen more zero x begins at = at
stays_at first seen more (suc n) x begins at = prefix_get seen more n x begins at

-- a value past a number that was found stands at its own number
pub found_at : {A : Type 0} (first : A) (seen : List A) (n : ℕ) (t : Numbered A) → n < t.number → EndsWith seen t → slice_get (first ∷ seen) t.number ≡ Some t.value
found_at first seen n t later ends = ends_at first seen t ends (λ none. absurd (omega (arith, later, none)))

-- what a reader had seen begins what it sees when it has looked again
pub sees_more : {A : Type 0} (first : A) (o : Option (View A)) (v w : View A) (values : List A) → first ∷ seen_by o ≡ values → o ≡ Some v → IsPrefix v.seen w.seen → IsPrefix values (first ∷ w.seen)
sees_more {A} first o v w values is was more =
    subst (λ (xs : List A). IsPrefix xs (first ∷ w.seen)) is (subst (λ (p : Option (View A)). IsPrefix (first ∷ seen_by p) (first ∷ w.seen)) (sym was) (more.0, ap (λ ys. first ∷ ys) more.1))

-- the first value is the one that was seen first
pub first_is : {A : Type 0} (first : A) (seen values : List A) → first ∷ seen ≡ values → Some first ≡ slice_get values 0
first_is first seen values is = ap (λ xs. slice_get xs 0) is
