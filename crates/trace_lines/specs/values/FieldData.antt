-- The value that fields are read from: their form in the other direction.
use Rattle.std.specs.Prelude.{◌<◌, ◌^◌, ℕ, ℤ, pos, negsuc, List, [], ◌∷◌, codes, decimal}
use Rattle.std.specs.Fmt.{signed_decimal}
use Rattle.serde_json.specs.Data.{Data, boolean, number, string, array, object, unsigned, no_items, item, no_members, member}
use Rattle.serde_json.specs.Find.{of_integer}
use Rattle.otel_base.specs.declared.value.KeyValue.{KeyValue}
use Rattle.otel_base.specs.declared.value.OtelValue.{OtelValue}
use Rattle.otel_base.specs.declared.value.OtelValue.TheVariants as otel
use Rattle.trace_base.specs.declared.field.Value.{Value}
use Rattle.trace_base.specs.declared.field.Value.TheVariants.{Bool, I64, U64, I128, U128, Str, Debug, Error}
use Rattle.trace_lines.specs.reading.Object.{by_name, array_of}

-- a value whose type is named by its member
abbrev pub typed_value : List ℕ → Data → Data
typed_value name d = object (member name d no_members)

-- a value
abbrev pub written_value : Value → Data
written_value (Bool b) = boolean b
written_value (I64 z) = number (of_integer z)
written_value (U64 n) = typed_value (codes "u64") (number (unsigned n))
written_value (I128 z) = typed_value (codes "i128") (string (signed_decimal z))
written_value (U128 n) = typed_value (codes "u128") (string (decimal n))
written_value (Str s) = string s
written_value (Debug s) = typed_value (codes "debug") (string s)
written_value (Error message chain) =
    object (by_name ((codes "error", string message) ∷ (codes "chain", array_of string chain) ∷ []))

-- a field: its name and its value
abbrev pub written_field : List ℕ × Value → Data
written_field field = array (item (string field.0) (item (written_value field.1) no_items))

-- a signed number, of so many bits beside its sign
abbrev pub HasBits : ℕ → ℤ → Type 0
HasBits bits (pos n) = n < 2 ^ bits
HasBits bits (negsuc n) = n < 2 ^ bits

-- a number has the bits of its type
abbrev pub IsValueInRange : Value → Type 0
IsValueInRange (Bool b) = Unit {0}
IsValueInRange (I64 z) = HasBits 63 z
IsValueInRange (U64 n) = n < 2 ^ 64
IsValueInRange (I128 z) = HasBits 127 z
IsValueInRange (U128 n) = n < 2 ^ 128
IsValueInRange (Str s) = Unit {0}
IsValueInRange (Debug s) = Unit {0}
IsValueInRange (Error message chain) = Unit {0}

abbrev pub AreValuesInRange : List (List ℕ × Value) → Type 0
AreValuesInRange [] = Unit {0}
AreValuesInRange (field ∷ fields) = IsValueInRange field.1 × AreValuesInRange fields

-- ---- attributes

abbrev pub IsOtelValueInRange : OtelValue → Type 0
IsOtelValueInRange (otel.Bool b) = Unit {0}
IsOtelValueInRange (otel.I64 z) = HasBits 63 z
IsOtelValueInRange (otel.Str s) = Unit {0}
IsOtelValueInRange (otel.List texts) = Unit {0}

abbrev pub AreAttributesInRange : List KeyValue → Type 0
AreAttributesInRange [] = Unit {0}
AreAttributesInRange (attribute ∷ attributes) = IsOtelValueInRange attribute.value × AreAttributesInRange attributes
