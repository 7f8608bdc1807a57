-- The forms of fields, and of their values.
use Rattle.std.specs.Prelude.{ℕ, ℤ, List, Option, Some, None, option_map, option_and_then, codes}
use Rattle.serde_json.specs.Data.{Data, null, boolean, number, string, array, object, no_items, item, Members}
use Rattle.serde_json.specs.Find.{as_str, as_array, as_i64, as_u64}
use Rattle.trace_base.specs.declared.field.Value.{Value}
use Rattle.trace_base.specs.declared.field.Value.TheVariants.{Bool, I64, U64, I128, U128, Str, Debug, Error}
use Rattle.trace_lines.specs.text.Decimals.{u128_of_word, i128_of_word}
use Rattle.trace_lines.specs.forms.Forms.{Form, ◌>>=◌, give, text, texts, optional, as_whole, each, pair_with, all_of}

-- a signed number where there is one, else a number without a sign
abbrev pub whole_value : Option ℤ → Option ℕ → Option Value
whole_value (Some z) n = Some (I64 z)
whole_value None n = option_map U64 n

-- ---- values whose type is named, as the one member of an object

abbrev pub u64_of : Data → Option Value
u64_of d = option_map U64 (as_whole d)

abbrev pub i128_of : Data → Option Value
i128_of d = option_map I128 (option_and_then i128_of_word (as_str d))

abbrev pub u128_of : Data → Option Value
u128_of d = option_map U128 (option_and_then u128_of_word (as_str d))

abbrev pub debug_of : Data → Option Value
debug_of d = option_map Debug (as_str d)

-- an error: what it prints, and what each of its sources prints
unfoldable pub error_form : Form Value
error_form = do
  message ← text (codes "error")
  chain ← texts (codes "chain")
  give (Error message chain)

-- what a member is, or something else where it isn't there
abbrev pub or_else : {A : Type 0} → (Data → Option A) → (Members → Option (A × Members)) → Option Data → Members → Option (A × Members)
or_else f otherwise (Some d) ms = option_map (λ a. (a, ms)) (f d)
or_else f otherwise None ms = otherwise ms

abbrev pub named_or : {A : Type 0} → List ℕ → (Data → Option A) → (Members → Option (A × Members)) → Members → Option (A × Members)
named_or name f otherwise = do
  there ← optional name
  or_else f otherwise there

-- the member that is there names the type
unfoldable pub typed_form : Form Value
typed_form =
    named_or (codes "u64") u64_of (named_or (codes "i128") i128_of
    (named_or (codes "u128") u128_of (named_or (codes "debug") debug_of error_form)))

-- ---- values

-- the value of a field that a JSON value spells
abbrev pub value_spelled : Data → Option Value
value_spelled null = None
value_spelled (boolean b) = Some (Bool b)
value_spelled (number n) = whole_value (as_i64 n) (as_u64 n)
value_spelled (string s) = Some (Str s)
value_spelled (array ds) = None
value_spelled (object ms) = all_of typed_form ms

-- ---- fields

-- a name and a value, as an array
abbrev pub field_data : List ℕ → Data → Data
field_data name value = array (item (string name) (item value no_items))

-- a field has a name and a value
abbrev pub field_of : Data → Option (List ℕ × Value)
field_of d = option_and_then (pair_with value_spelled) (as_array d)

-- the fields that an array spells, in its order
abbrev pub fields_of : Data → Option (List (List ℕ × Value))
fields_of d = option_and_then (each field_of) (as_array d)
