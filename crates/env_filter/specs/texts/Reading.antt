-- What stands under the names of variables.
use Rattle.std.specs.Prelude.{◌≡◌, ℕ, List, Option, None, Some, bytes_eq, option_map}
use Rattle.std.specs.List.{find}
use Rattle.std.specs.Option.{unwrap_or}

-- variables by name; it may not be told what stands under them
abbrev pub KnownVariables : Type 0
KnownVariables = Option (List ℕ → Option (List ℕ))

-- what was read under a name is what stands there, where that is told
abbrev pub IsReadUnder : KnownVariables → List ℕ → Option (List ℕ) → Type 0
IsReadUnder None name read = Unit {0}
IsReadUnder (Some variables) name read = read ≡ variables name

-- of pairs of names and texts the first of a name counts
abbrev pub first_named : List (List ℕ × List ℕ) → List ℕ → Option (List ℕ)
first_named pairs name = option_map (λ pair. pair.1) (find (λ pair. bytes_eq pair.0 name) pairs)
