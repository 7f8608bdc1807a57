-- Values by their numbers. Inner definitions.
use Rattle.std.specs.Prelude.{◌≡◌, ℕ, ◌+◌, ◌-◌, ◌<◌, ◌==◌, if◌then◌else◌, List, Option, Some, None, IfSome, Result, Ok, Err, option_map, slice_get, slice_index_or, slice_set}

-- the values by their numbers, none where one was taken out, and for how many more numbers and values there is room
pub record SlotsValue (X : Type 0) : Type 0 where
  pub items : List (Option X)
  pub room : ℕ
  pub value_room : ℕ

-- what stands at a place, which is counted from 1
abbrev pub value_at : {X : Type 0} → List (ℕ × X) → ℕ → Option X
value_at live place = if place == 0 then None else option_map (λ e. e.1) (slice_get live (place - 1))

-- the number of the value at an index
abbrev pub number_at : {X : Type 0} → List (ℕ × X) → ℕ → Option ℕ
number_at live index = option_map (λ e. e.0) (slice_get live index)

-- at the place of a number stands its value, and a value stands at the place of its number
pub record AreLinked {X : Type 0} (places : List ℕ) (live : List (ℕ × X)) : Type 0 where
  pub found : (n : ℕ) → 0 < slice_index_or places n 0 → number_at live (slice_index_or places n 0 - 1) ≡ Some n
  pub placed : (index : ℕ) → IfSome (slice_get live index) (λ e. slice_index_or places e.0 0 ≡ index + 1)

-- The value of a number is taken out where a test answers Ok of it; else it stays, and the test's error comes back.
abbrev pub TakesIf : {X E : Type 0} → (X → Result (Unit {0}) E → Type 0) → ℕ → List (Option X) → Option (Result X E) → List (Option X) → Type 0
TakesIf answers number old None new = (slice_index_or old number None ≡ None) × (new ≡ old)
TakesIf answers number old (Some (Ok x)) new = (slice_index_or old number None ≡ Some x) × answers x (Ok tt) × (new ≡ slice_set old number None)
TakesIf {X} answers number old (Some (Err error)) new = (x : X) × (slice_index_or old number None ≡ Some x) × answers x (Err error) × (new ≡ old)
