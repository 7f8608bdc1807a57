-- The parts of the JSON that lines are written in.
use Rattle.std.specs.Prelude.{ℕ, List, [], ◌∷◌, ◌++◌}
use Rattle.serde_json.specs.Data.{Data, unsigned, number, array, Items, no_items, item, Members, no_members, put}
use Rattle.serde_json.specs.Written.{compact_text}

-- the members of an object, which stand in the order of their names
abbrev pub by_name : List (List ℕ × Data) → Members
by_name [] = no_members
by_name (m ∷ ms) = put m.0 m.1 (by_name ms)

-- the items of an array, each given by an element of a list
abbrev pub items : {A : Type 0} → (A → Data) → List A → Items
items f [] = no_items
items f (x ∷ xs) = item (f x) (items f xs)

-- an array with an item for each element of a list
abbrev pub array_of : {A : Type 0} → (A → Data) → List A → Data
array_of f xs = array (items f xs)

-- a whole number that isn't negative
abbrev pub whole_number : ℕ → Data
whole_number n = number (unsigned n)

-- a value's text on a line of its own
unfoldable pub line_of : Data → List ℕ
line_of d = compact_text d ++ 10 ∷ []
