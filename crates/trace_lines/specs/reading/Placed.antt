-- Places in the list of an object's members.
use Rattle.std.specs.Prelude.{◌≡◌, ◌≤◌, ◌<◌, ℕ, List, Option, Some, None, ⊤, length, get_or, remove, insert}
use Rattle.std.specs.Ordering.{nat_cmp}
use Rattle.std.specs.declared.cmp.Ordering.TheVariants.{Less}
use Rattle.std.specs.Cmp.Lexicographic.{slice_cmp}
use Rattle.std.specs.Borrow.{Bor}
use Rattle.serde_json.specs.Data.{Data, Members, no_members, member, put}
use Rattle.serde_json.specs.Find.{get_member}
use Rattle.trace_lines.specs.forms.Forms.{without_member}
use Rattle.trace_lines.specs.text.Compact.{plain_data, with_members_first, members_of}
use Rattle.trace_lines.specs.declared.read.plain.Plain.{Plain}

-- where the member of a name stands, if there is one
abbrev pub FindsMember : List ℕ → List (Bor (List ℕ) × Plain) → Option ℕ → Type 0
FindsMember name es None = (get_member name (members_of es) ≡ None) × (without_member name (members_of es) ≡ members_of es)
FindsMember name es (Some i) =
    (i < length es)
    × ((d : Bor (List ℕ) × Plain) → get_member name (members_of es) ≡ Some (plain_data (get_or es i d).1))
    × (without_member name (members_of es) ≡ members_of (remove es i))

-- the name comes before all the members, which is that it comes before the first
abbrev pub Before : List ℕ → Members → Type 0
Before k no_members = ⊤
Before k (member l d ms) = slice_cmp nat_cmp k l ≡ Less

-- where a member of a new name goes
abbrev pub FitsIn : List ℕ → List (Bor (List ℕ) × Plain) → ℕ → Type 0
FitsIn name es i =
    (i ≤ length es)
    × ((e : Bor (List ℕ) × Plain) → e.0.now ≡ name
    → put name (plain_data e.1) (members_of es) ≡ members_of (insert es i e))
