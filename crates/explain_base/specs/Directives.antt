-- The lines that tell of directives, and the words that tell of which kind one and a field's value are.
use Rattle.std.specs.Prelude.{ℕ, List, [], ◌∷◌, ◌++◌, if◌then◌else◌, Bool, ◌||◌, Option, None, Some, is_some, codes, flat_map}
use Rattle.std.specs.List.{list_any}
use Rattle.trace_base.specs.words.Level.{level_filter_text}
use Rattle.env_directives.specs.printed.Printed.{directive_text, match_text}
use Rattle.env_directives.specs.declared.env.directive.Directive.{Directive}
use Rattle.env_directives.specs.declared.env.field.Match.{Match}
use Rattle.env_directives.specs.declared.env.field.ValueMatch.{ValueMatch}
use Rattle.env_directives.specs.declared.env.field.ValueMatch.TheVariants.{Bool as Truth, U64, I64, Pat, Debug}

-- the kind of the value that a field has to have
abbrev pub value_kind_text : Option ValueMatch → List ℕ
value_kind_text None = codes "any value"
value_kind_text (Some (Truth a)) = codes "truth value"
value_kind_text (Some (U64 a)) = codes "number"
value_kind_text (Some (I64 a)) = codes "negative number"
value_kind_text (Some (Pat a)) = codes "pattern"
value_kind_text (Some (Debug a)) = codes "text"

-- some field has to have a value
abbrev pub asks_values : List Match → Bool
asks_values fields = list_any (λ field. is_some field.value) fields

-- a directive with neither a span name nor a value, in which no field stands or some do
abbrev pub tables_text_without_values : List Match → List ℕ
tables_text_without_values [] = codes "static"
tables_text_without_values (field ∷ fields) = codes "static and dynamic"

-- static is what has neither a span name nor a value, dynamic what has a span name or a field
abbrev pub tables_text : Directive → List ℕ
tables_text d = if is_some d.in_span || asks_values d.fields then codes "dynamic" else tables_text_without_values d.fields

-- the target, the span name and a field with the kind of its value, as the line of a directive has them
abbrev pub target_part : Option (List ℕ) → List ℕ
target_part None = []
target_part (Some target) = codes " target " ++ target

abbrev pub span_part : Option (List ℕ) → List ℕ
span_part None = []
span_part (Some name) = codes " span `" ++ (name ++ codes "`")

abbrev pub field_part : Match → List ℕ
field_part field = codes " field " ++ (match_text field ++ (codes " (" ++ (value_kind_text field.value ++ codes ")")))

-- the line of a directive: its tables, its parts, and how it prints
abbrev pub directive_line : Directive → List ℕ
directive_line d = codes "  " ++ (tables_text d ++ (target_part d.target ++ (span_part d.in_span ++ (flat_map field_part d.fields
    ++ (codes " level " ++ (level_filter_text d.level ++ (codes ": " ++ (directive_text d ++ codes "\n"))))))))
