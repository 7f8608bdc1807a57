-- Pairs of an id and a value, of which the last of an id is taken.
use Rattle.std.specs.Prelude.{◌≡◌, ℕ, ◌+◌, ◌<◌, ◌==◌, true, false, length, drop, slice_index_or, Bool, List, [], ◌∷◌, Option, None, Some, if◌then◌else◌}
use Rattle.std.specs.List.{list_any}

-- the pair is of the id
abbrev pub is_pair_of : {T : Type 0} → ℕ → ℕ × T → Bool
is_pair_of id pair = pair.0 == id

-- the last of some items that passes, if one does
abbrev pub last_passing : {X : Type 0} → (X → Bool) → List X → Option X
last_passing p [] = None
last_passing p (x ∷ xs) = if list_any p xs then last_passing p xs else if p x then Some x else None

-- the place of the last of some items that passes
pub record IsLastPlace {X : Type 0} (p : X → Bool) (xs : List X) (at : ℕ) : Type 0 where
  pub is_in : at < length xs
  pub passes : (d : X) → p (slice_index_or xs at d) ≡ true
  pub is_last : list_any p (drop (at + 1) xs) ≡ false
