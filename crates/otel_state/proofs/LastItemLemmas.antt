-- The last of some items that passes, by its place.
use Rattle.std.proofs.Common.{◌≡◌, ℕ, ◌<◌, List, [], ◌∷◌, length, drop, Bool, true, false, Some, None, refl, sym, ap, ◌∙◌, arith, zero, suc, get_or, add-one}
use Rattle.std.specs.Prelude.{if◌then◌else◌, ◌||◌}
use Rattle.std.specs.List.{list_any, remove}
use Rattle.trace_base.specs.Spans.{without_last}
use Rattle.otel_state.specs.Stack.{last_passing, IsLastPlace}

or_true : (b : Bool) → (b || true) ≡ true
or_true true = refl
or_true false = refl

or_parts : (a b : Bool) → (a || b) ≡ false → (a ≡ false) × (b ≡ false)
or_parts true b is = cc
or_parts false b is = (refl, is)

module _ {X : Type 0} (p : X → Bool) where
  any_at : (xs : List X) (i : ℕ) (d : X) → i < length xs → p (get_or xs i d) ≡ true → list_any p xs ≡ true
  any_at [] i d less passes = absurd (omega (arith, less))
  any_at (x ∷ xs) zero d less passes = ap (λ (b : Bool). b || list_any p xs) passes
  any_at (x ∷ xs) (suc i) d less passes = ap (λ (b : Bool). p x || b) (any_at xs i d (omega (arith, less)) passes) ∙ or_true (p x)

  pub taken : (xs : List X) (i : ℕ) (d : X) → i < length xs → p (get_or xs i d) ≡ true → list_any p (drop (suc i) xs) ≡ false
      → (without_last p xs ≡ remove xs i) × (last_passing p xs ≡ Some (get_or xs i d)) × (list_any p xs ≡ true)
  taken [] i d less passes none = absurd (omega (arith, less))
  taken (x ∷ xs) zero d less passes none = (
    ap (λ (b : Bool). if b then x ∷ without_last p xs else if p x then xs else x ∷ xs) none ∙ ap (λ (b : Bool). if b then xs else x ∷ xs) passes,
    ap (λ (b : Bool). if b then last_passing p xs else if p x then Some x else None) none ∙ ap (λ (b : Bool). if b then Some x else None) passes,
    ap (λ (b : Bool). b || list_any p xs) passes,
  )
  taken (x ∷ xs) (suc i) d less passes none =
      let later = taken xs i d (omega (arith, less)) passes none in (
        ap (λ (b : Bool). if b then x ∷ without_last p xs else if p x then xs else x ∷ xs) later.2 ∙ ap (λ (ys : List X). x ∷ ys) later.0,
        ap (λ (b : Bool). if b then last_passing p xs else if p x then Some x else None) later.2 ∙ later.1,
        any_at (x ∷ xs) (suc i) d less passes,
      )

  pub none_taken : (xs : List X) → list_any p xs ≡ false → (without_last p xs ≡ xs) × (last_passing p xs ≡ None)
  none_taken [] none = (refl, refl)
  none_taken (x ∷ xs) none =
      let parts = or_parts (p x) (list_any p xs) none in (
        ap (λ (b : Bool). if b then x ∷ without_last p xs else if p x then xs else x ∷ xs) parts.1 ∙ ap (λ (b : Bool). if b then xs else x ∷ xs) parts.0,
        ap (λ (b : Bool). if b then last_passing p xs else if p x then Some x else None) parts.1 ∙ ap (λ (b : Bool). if b then Some x else None) parts.0,
      )

  -- what stood at the last place, as the code takes it out
  pub popped : (slice inside self after : List X) (at : ℕ) (x : X) → slice ≡ inside → inside ≡ self → IsLastPlace p slice at → x ≡ get_or inside at x → after ≡ remove inside at
      → (after ≡ without_last p self) × (Some x ≡ last_passing p self)
  popped slice inside self after at x same is last value items =
      let taken_out = taken slice at x last.is_in (last.passes x) (rw add-one at last.is_last) in (
        items ∙ ap (λ (xs : List X). remove xs at) (sym same) ∙ sym taken_out.0 ∙ ap (λ (xs : List X). without_last p xs) (same ∙ is),
        ap (λ (y : X). Some y) (value ∙ ap (λ (xs : List X). get_or xs at x) (sym same)) ∙ sym taken_out.1 ∙ ap (λ (xs : List X). last_passing p xs) (same ∙ is),
      )
