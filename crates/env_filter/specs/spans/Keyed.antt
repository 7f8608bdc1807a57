-- Entries at numbers, and functions of numbers with another value at one of them.
use Rattle.std.specs.Prelude.{ℕ, ◌==◌, if◌then◌else◌, List, Option, nat_eq}
use Rattle.std.specs.Map.{lookup}

-- what stands at a number
abbrev pub value_at_key : {V : Type 0} → List (ℕ × V) → ℕ → Option V
value_at_key entries k = lookup (nat_eq k) entries

-- a function with another value at a number, and one that is made from its own there
abbrev pub put : {V : Type 0} → (ℕ → V) → ℕ → V → ℕ → V
put f k value = λ other. if nat_eq k other then value else f other

abbrev pub map_at : {V : Type 0} → (ℕ → V) → ℕ → (V → V) → ℕ → V
map_at f k step = put f k (step (f k))
