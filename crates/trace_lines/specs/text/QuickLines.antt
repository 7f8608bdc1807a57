-- Common request lines, whose members may come in any order.
use Rattle.std.specs.Prelude.{◌≡◌, ℕ, List, [], ◌∷◌, ◌++◌, Option, Some, None, option_map, codes, ⊤}
use Rattle.std.specs.Str.{IsUtf8}
use Rattle.json.specs.Print.{quoted}
use Rattle.serde_json.specs.Data.{Data, string, Members, no_members, member, put}
use Rattle.trace_base.specs.declared.field.Value.{Value}
use Rattle.span_script.specs.declared.request.Request.{Request}
use Rattle.span_script.specs.declared.request.RequestParent.{RequestParent}
use Rattle.span_script.specs.declared.request.RequestParent.TheVariants.{Contextual, Root, Under}
use Rattle.trace_lines.specs.forms.Forms.{all_of}
use Rattle.trace_lines.specs.forms.FieldForm.{fields_of}
use Rattle.trace_lines.specs.forms.RequestForm.{request_form}
use Rattle.trace_lines.specs.reading.Object.{whole_number}
use Rattle.trace_lines.specs.reading.Spelled.{line_members}
use Rattle.trace_lines.specs.text.Compact.{BeginsWithValue}
use Rattle.trace_lines.specs.declared.read.quick.CallKind.{CallKind}
use Rattle.trace_lines.specs.declared.read.quick.CallKind.TheVariants as kind
use Rattle.trace_lines.specs.declared.read.quick.RequestMembers.{RequestMembers}

-- a member of a name, if it has a value, in front of others
abbrev pub with_member_if : List ℕ → Option Data → Members → Members
with_member_if name None ms = ms
with_member_if name (Some d) ms = member name d ms

-- the members that have values
abbrev pub present_members : List (List ℕ × Option Data) → Members
present_members [] = no_members
present_members (e ∷ es) = with_member_if e.0 e.1 (present_members es)

-- the word of a kind of call
abbrev pub kind_value : CallKind → Data
kind_value kind.New = string (codes "new")
kind_value kind.Event = string (codes "event")
kind_value kind.Enter = string (codes "enter")
kind_value kind.Exit = string (codes "exit")
kind_value kind.Drop = string (codes "drop")

-- what stands for a parent, unless it is the current span
abbrev pub parent_value : RequestParent → Option Data
parent_value Contextual = None
parent_value Root = Some (string (codes "root"))
parent_value (Under handle) = Some (whole_number handle)

-- the names in their order, with their values; the fields are spelled by `d`
abbrev pub member_values : RequestMembers → Option Data → List (List ℕ × Option Data)
member_values m d =
    (codes "at", option_map whole_number m.at)
    ∷ (codes "do", option_map kind_value m.kind)
    ∷ (codes "fields", d)
    ∷ (codes "guard", option_map whole_number m.guard)
    ∷ (codes "handle", option_map whole_number m.handle)
    ∷ (codes "lane", option_map whole_number m.lane)
    ∷ (codes "parent", parent_value m.parent)
    ∷ (codes "site", option_map whole_number m.site) ∷ []

-- fields, if there are some, are spelled by a value
abbrev pub AreSpelled : Option (List (List ℕ × Value)) → Option Data → Type 0
AreSpelled None None = ⊤
AreSpelled None (Some d) = ⊥
AreSpelled (Some fields) None = ⊥
AreSpelled (Some fields) (Some d) = fields_of d ≡ Some fields

-- the text is a front and a value, which is read as `d`, and what stands behind it
abbrev pub HasValue : List ℕ → List ℕ → Data → List ℕ → Type 0
HasValue text front d rest = (value : List ℕ) × (text ≡ front ++ value) × (IsUtf8 rest → IsUtf8 value) × BeginsWithValue 18 value d rest

-- the text begins with a member, which is put among those that were read
abbrev pub ReadsMember : RequestMembers → RequestMembers → List ℕ → List ℕ → Type 0
ReadsMember old new text rest =
    (name : List ℕ) × (d : Data) × HasValue text (quoted name ++ 58 ∷ []) d rest × (IsUtf8 rest → IsUtf8 text)
    × ((before : Option Data) → AreSpelled old.fields before → (after : Option Data) × AreSpelled new.fields after
    × (present_members (member_values new after) ≡ put name d (present_members (member_values old before))))

-- the line is an object of these members
abbrev pub HasMembers : List ℕ → RequestMembers → Type 0
HasMembers line m = (d : Option Data) × AreSpelled m.fields d × (line_members line ≡ Some (present_members (member_values m d)))

-- the members are those of the request
abbrev pub AreMembersOf : RequestMembers → Request → Type 0
AreMembersOf m request = (d : Option Data) → AreSpelled m.fields d → all_of request_form (present_members (member_values m d)) ≡ Some request
