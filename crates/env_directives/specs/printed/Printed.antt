-- What directives and their parts print.
use Rattle.std.specs.Prelude.{◌≢◌, ℕ, pos, List, [], ◌∷◌, ◌++◌, Bool, true, false, Option, None, Some, codes, is_some, length, not, ◌||◌, ◌==◌, if◌then◌else◌}
use Rattle.std.specs.Fmt.{decimal, signed_decimal}
use Rattle.std.specs.List.{join_by}
use Rattle.trace_base.specs.words.Level.{level_filter_text}
use Rattle.env_directives.specs.declared.env.directive.Directive.{Directive}
use Rattle.env_directives.specs.declared.env.field.Match.{Match}
use Rattle.env_directives.specs.declared.env.field.ValueMatch.{ValueMatch}
use Rattle.env_directives.specs.declared.env.field.ValueMatch.TheVariants.{Bool as Truth, U64, I64, Pat, Debug}

abbrev pub truth_text : Bool → List ℕ
truth_text true = codes "true"
truth_text false = codes "false"

-- a truth value as its word, a number as its decimal, a text or a pattern as it stands
abbrev pub value_text : ValueMatch → List ℕ
value_text (Truth truth) = truth_text truth
value_text (U64 number) = decimal number
value_text (I64 number) = signed_decimal number
value_text (Pat pattern) = pattern
value_text (Debug text) = text

-- `=` and the value, if there is one
abbrev pub behind_name : Option ValueMatch → List ℕ
behind_name None = []
behind_name (Some value) = codes "=" ++ value_text value

abbrev pub match_text : Match → List ℕ
match_text field = field.name ++ behind_name field.value

-- a text, nothing where there is none
abbrev pub text_if_any : Option (List ℕ) → List ℕ
text_if_any None = []
text_if_any (Some text) = text

-- fields between braces, with commas between them; nothing where there are none
abbrev pub fields_text : List Match → List ℕ
fields_text [] = []
fields_text (field ∷ fields) = codes "{" ++ (join_by match_text (codes ",") (field ∷ fields) ++ codes "}")

-- whether a directive speaks of spans: it has a span name or a field
abbrev pub has_bracket : Directive → Bool
has_bracket d = is_some d.in_span || not (length d.fields == 0)

-- then `[span{fields}]`
abbrev pub bracket_text : Directive → List ℕ
bracket_text d = if has_bracket d then codes "[" ++ (text_if_any d.in_span ++ (fields_text d.fields ++ codes "]")) else []

-- `=` behind a target or a bracket
abbrev pub equals_text : Directive → List ℕ
equals_text d = if is_some d.target || has_bracket d then codes "=" else []

-- the target, the bracket, `=`, and the level in lower case
abbrev pub directive_text : Directive → List ℕ
directive_text d = text_if_any d.target ++ (bracket_text d ++ (equals_text d ++ level_filter_text d.level))

-- no field asks for the number 0 as one that was read behind a minus; such a number prints without it
abbrev pub HasNoMinusZero : List Match → Type 0
HasNoMinusZero [] = Unit {0}
HasNoMinusZero (field ∷ fields) = (field.value ≢ Some (I64 (pos 0))) × HasNoMinusZero fields
