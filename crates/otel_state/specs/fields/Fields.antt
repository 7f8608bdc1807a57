-- What is the same for the fields of spans and of events: which fields there are, the texts of values, and errors.
use Rattle.std.specs.Prelude.{ℕ, ℤ, pos, List, [], ◌∷◌, ◌++◌, Bool, Option, None, Some, if◌then◌else◌, codes, slice_get, option_map}
use Rattle.std.specs.Option.{option_to_list, option_map_or}
use Rattle.std.specs.Fmt.{decimal, signed_decimal}
use Rattle.otel_base.specs.declared.value.KeyValue.{KeyValue}
use Rattle.otel_base.specs.declared.value.OtelValue.TheVariants as otel
use Rattle.trace_base.specs.declared.callsite.Callsite.{Callsite}
use Rattle.trace_base.specs.declared.field.Value.{Value}
use Rattle.trace_base.specs.declared.field.Value.TheVariants as given
use Rattle.trace_base.specs.words.Level.{level_text}
use Rattle.trace_base.specs.words.Quote.{in_quotes}

-- what the value at a place of a callsite's fields makes of something; a place past the fields changes nothing
abbrev pub by_name : {A : Type 0} → (A → List ℕ → Value → A) → Callsite → A → ℕ × Value → A
by_name step c a pair = option_map_or (λ name. step a name pair.1) (slice_get c.fields pair.0) a

-- ---- attributes

abbrev pub text_attribute : List ℕ → List ℕ → KeyValue
text_attribute key text = record { key = key; value = otel.Str text }

abbrev pub integer_attribute : List ℕ → ℤ → KeyValue
integer_attribute key n = record { key = key; value = otel.I64 n }

-- some attributes, if they are wanted
abbrev pub if_wanted : Bool → List KeyValue → List KeyValue
if_wanted is_on attributes = if is_on then attributes else []

-- the attribute of a text, or of a number, if it is known
abbrev pub text_attribute_if_known : List ℕ → Option (List ℕ) → List KeyValue
text_attribute_if_known key text = option_to_list (option_map (text_attribute key) text)

abbrev pub integer_attribute_if_known : List ℕ → Option ℕ → List KeyValue
integer_attribute_if_known key n = option_to_list (option_map (λ m. integer_attribute key (pos m)) n)

-- the file, the module and the line of a callsite
abbrev pub location_attributes : Callsite → List KeyValue
location_attributes c = text_attribute_if_known (codes "code.file.path") c.file ++ text_attribute_if_known (codes "code.module.name") c.module_path ++ integer_attribute_if_known (codes "code.line.number") c.line

-- the level of a callsite in upper case, and its target
abbrev pub level_attributes : Callsite → List KeyValue
level_attributes c = text_attribute (codes "level") (level_text c.level) ∷ []

abbrev pub target_attributes : Callsite → List KeyValue
target_attributes c = text_attribute (codes "target") c.target ∷ []

-- ---- texts of values

-- a text, a debug text, and the decimal of a number that may need more than 63 bits
abbrev pub plain_text : Value → Option (List ℕ)
plain_text (given.Str text) = Some text
plain_text (given.Debug text) = Some text
plain_text (given.U64 n) = Some (decimal n)
plain_text (given.I128 z) = Some (signed_decimal z)
plain_text (given.U128 n) = Some (decimal n)
plain_text _ = None

-- the same in debug form, in which a text is quoted
abbrev pub debug_text : Value → Option (List ℕ)
debug_text (given.Str text) = Some (in_quotes text)
debug_text value = plain_text value

-- ---- errors

-- an error as an exception: its message, and the messages of its sources
abbrev pub exception_attributes : List ℕ → List (List ℕ) → List KeyValue
exception_attributes message chain = text_attribute (codes "exception.message") message ∷ record { key = codes "exception.stacktrace"; value = otel.List chain } ∷ []

-- an error under its own name, and its sources under that name and `.chain`
abbrev pub error_attributes : List ℕ → List ℕ → List (List ℕ) → List KeyValue
error_attributes name message chain = text_attribute name message ∷ record { key = name ++ codes ".chain"; value = otel.List chain } ∷ []
