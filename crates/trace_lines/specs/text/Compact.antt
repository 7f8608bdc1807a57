-- What a compact text begins with: a value and its reading, apart from the tree.
use Rattle.std.specs.Prelude.{◌≡◌, ◌≤◌, ◌++◌, List, ℕ, [], ◌∷◌, Some, false, unwrap_or}
use Rattle.std.specs.Borrow.{Bor}
use Rattle.json.specs.Tree.{HasNumbers, ItemsHaveNumbers, MembersHaveNumbers, depth, items_depth, members_depth}
use Rattle.serde_json.specs.Data.{Data, null, boolean, unsigned, negative, number, string, array, object, Items, Members, no_members, member}
use Rattle.serde_json.specs.Read.{of_json, of_items, of_members}
use Rattle.serde_json.specs.Written.{outline, items_outline, members_outline, compact_text, items_text, members_text}
use Rattle.trace_lines.specs.reading.Spelled.{line_value}
use Rattle.trace_lines.specs.declared.read.plain.Plain.{Plain}
use Rattle.trace_lines.specs.declared.read.plain.Plain.TheVariants.{Whole, Negative, Text, Flag, Nested}

-- an array or an object as it is, and null in the place of another value
abbrev pub nested_value : Data → Data
nested_value null = null
nested_value (boolean b) = null
nested_value (number n) = null
nested_value (string s) = null
nested_value (array ds) = array ds
nested_value (object ms) = object ms

-- the value that stands plainly, of which what nests is still a text
abbrev pub plain_data : Plain → Data
plain_data (Whole n) = number (unsigned n)
plain_data (Negative z) = number (negative z)
plain_data (Text s) = string s.now
plain_data (Flag b) = boolean b
plain_data (Nested s) = nested_value (unwrap_or (line_value s.now) null)

-- members as they stand, in front of others
abbrev pub with_members_first : List (Bor (List ℕ) × Plain) → Members → Members
with_members_first [] ms = ms
with_members_first (e ∷ es) ms = member e.0.now (plain_data e.1) (with_members_first es ms)

-- the same, with none behind them
abbrev pub members_of : List (Bor (List ℕ) × Plain) → Members
members_of es = with_members_first es no_members

-- What is written as `raw`, with members in any order and more than once, is read as d. It nests so deep at
-- the most.
abbrev pub ReadsValue : ℕ → Data → Data → Type 0
ReadsValue deep raw d = HasNumbers (outline raw) × (depth (outline raw) ≤ deep) × (of_json (outline raw) ≡ Some d)

-- the text begins with a value that is read as d
abbrev pub BeginsWithValue : ℕ → List ℕ → Data → List ℕ → Type 0
BeginsWithValue deep text d rest = (raw : Data) × (text ≡ compact_text raw ++ rest) × ReadsValue deep raw d

-- the text begins with the items of an array and its closing bracket
abbrev pub BeginsItems : ℕ → List ℕ → List ℕ → Type 0
BeginsItems deep text rest =
    (raw : Items) × (ds : Items) × (text ≡ items_text false raw ++ rest)
    × ItemsHaveNumbers (items_outline raw) × (items_depth (items_outline raw) ≤ deep)
    × (of_items (items_outline raw) ≡ Some ds)

-- the text begins with the members of an object and its closing bracket
abbrev pub BeginsMembers : ℕ → List ℕ → List ℕ → Type 0
BeginsMembers deep text rest =
    (raw : Members) × (ms : Members) × (text ≡ members_text false raw ++ rest)
    × MembersHaveNumbers (members_outline raw) × (members_depth (members_outline raw) ≤ deep)
    × (of_members (members_outline raw) no_members ≡ Some ms)

-- the text begins with an array or an object
abbrev pub BeginsNested : ℕ → List ℕ → List ℕ → Type 0
BeginsNested deep text rest = (d : Data) × (nested_value d ≡ d) × BeginsWithValue deep text d rest
