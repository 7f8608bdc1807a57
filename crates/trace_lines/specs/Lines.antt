-- The lines of some bytes.
use Rattle.std.specs.Prelude.{ℕ, List, [], ◌∷◌, Bool, ◌||◌, ◌==◌, if◌then◌else◌}
use Rattle.std.specs.List.{list_all}

-- a byte in front of the first line
abbrev pub with_byte_first : ℕ → List (List ℕ) → List (List ℕ)
with_byte_first b [] = (b ∷ []) ∷ []
with_byte_first b (line ∷ lines) = (b ∷ line) ∷ lines

-- the pieces between line feeds; a last piece that is empty is no line
abbrev pub lines_of : List ℕ → List (List ℕ)
lines_of [] = []
lines_of (b ∷ bs) = if b == 10 then [] ∷ lines_of bs else with_byte_first b (lines_of bs)

-- a space, a tab or a carriage return
abbrev pub is_space : ℕ → Bool
is_space b = b == 32 || b == 9 || b == 13

-- a line of these alone is left out, but it is counted
abbrev pub is_blank : List ℕ → Bool
is_blank line = list_all is_space line
