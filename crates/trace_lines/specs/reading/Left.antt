-- The members that an object has left, of a text or of a tree.
use Rattle.std.specs.Prelude.{ℕ, List, drop}
use Rattle.std.specs.Borrow.{Bor}
use Rattle.serde_json.specs.Data.{Data, Members}
use Rattle.serde_json.specs.View.{view, members_view}
use Rattle.trace_lines.specs.text.Compact.{plain_data, members_of}
use Rattle.trace_lines.specs.declared.read.plain.Plain.{Plain}
use Rattle.trace_lines.specs.declared.read.syntax.flat.FlatMembers.{FlatMembers}
use Rattle.trace_lines.specs.declared.read.syntax.object.Object.{Object}
use Rattle.trace_lines.specs.declared.read.syntax.object.Object.TheVariants.{Flat, Tree}
use Rattle.trace_lines.specs.declared.read.syntax.value.Value.{Value}
use Rattle.trace_lines.specs.declared.read.syntax.value.Value.TheVariants as value

abbrev pub value_data : Value → Data
value_data (value.Plain plain) = plain_data plain
value_data (value.Tree tree) = view tree

-- the members of a text that are left: those behind the ones that are taken
abbrev pub flat_members_left : FlatMembers → List (Bor (List ℕ) × Plain)
flat_members_left flat = drop flat.taken flat.members.items

abbrev pub members_left : Object → Members
members_left (Flat members) = members_of (flat_members_left members)
members_left (Tree members) = members_view members.entries
