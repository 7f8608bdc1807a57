-- How fields and the values that they ask for are ordered.
use Rattle.std.specs.Prelude.{ℕ, List, is_some}
use Rattle.std.specs.Cmp.Lexicographic.{slice_cmp}
use Rattle.std.specs.Option.{option_cmp}
use Rattle.std.specs.declared.cmp.Ordering.{Ordering}
use Rattle.std.specs.Ordering.{on, then_cmp, nat_cmp, int_cmp, bool_cmp}
use Rattle.env_directives.specs.declared.env.field.Match.{Match}
use Rattle.env_directives.specs.declared.env.field.ValueMatch.{ValueMatch}
use Rattle.env_directives.specs.declared.env.field.ValueMatch.TheVariants.{Bool as Truth, U64, I64, Pat, Debug}

-- texts by their bytes
abbrev pub text_cmp : List ℕ → List ℕ → Ordering
text_cmp = slice_cmp nat_cmp

-- truth values, then numbers that aren't negative, then other numbers, then patterns, then fixed texts
abbrev pub kind_place : ValueMatch → ℕ
kind_place (Truth a) = 0
kind_place (U64 a) = 1
kind_place (I64 a) = 2
kind_place (Pat a) = 3
kind_place (Debug a) = 4

-- two values of one kind in the kind's own order, others by their kinds
abbrev pub value_cmp : ValueMatch → ValueMatch → Ordering
value_cmp (Truth a) (Truth b) = bool_cmp a b
value_cmp (U64 a) (U64 b) = nat_cmp a b
value_cmp (I64 a) (I64 b) = int_cmp a b
value_cmp (Pat a) (Pat b) = text_cmp a b
value_cmp (Debug a) (Debug b) = text_cmp a b
value_cmp a b = nat_cmp (kind_place a) (kind_place b)

-- fields that ask for no value first, then by name, then by value
abbrev pub field_cmp : Match → Match → Ordering
field_cmp = then_cmp (on (λ m. is_some m.value) bool_cmp) (then_cmp (on (λ m. m.name) text_cmp) (on (λ m. m.value) (option_cmp value_cmp)))
