-- The forms of attributes, and of a status.
use Rattle.std.specs.Prelude.{ℕ, List, [], Option, Some, None, option_map, option_and_then, if◌then◌else◌, codes, bytes_eq}
use Rattle.serde_json.specs.Data.{Data, null, boolean, number, string, array, object}
use Rattle.serde_json.specs.Find.{as_str, as_array, as_i64}
use Rattle.otel_base.specs.declared.status.Status.{Status}
use Rattle.otel_base.specs.declared.status.Status.TheVariants as status
use Rattle.otel_base.specs.declared.value.KeyValue.{KeyValue}
use Rattle.otel_base.specs.declared.value.OtelValue.{OtelValue}
use Rattle.otel_base.specs.declared.value.OtelValue.TheVariants as otel
use Rattle.trace_lines.specs.forms.Forms.{Form, ◌>>=◌, give, when, text, optional, if_absent, each, pair_with, object_of}

-- a list of texts
abbrev pub text_list_of : Data → Option OtelValue
text_list_of d = option_map otel.List (option_and_then (each as_str) (as_array d))

-- the value of an attribute that a JSON value spells: a bool, a signed number of 64 bits, a text, or a list of texts
abbrev pub otel_value_of : Data → Option OtelValue
otel_value_of null = None
otel_value_of (boolean b) = Some (otel.Bool b)
otel_value_of (number n) = option_map otel.I64 (as_i64 n)
otel_value_of (string s) = Some (otel.Str s)
otel_value_of (array ds) = text_list_of (array ds)
otel_value_of (object ms) = None

-- an attribute has a key and a value
abbrev pub key_value : List ℕ × OtelValue → KeyValue
key_value pair = record { key = pair.0; value = pair.1 }

abbrev pub attribute_spelled : Data → Option KeyValue
attribute_spelled d = option_map key_value (option_and_then (pair_with otel_value_of) (as_array d))

-- the attributes that an array spells, in its order
abbrev pub attributes_spelled : Data → Option (List KeyValue)
attributes_spelled d = option_and_then (each attribute_spelled) (as_array d)

-- the attributes that are given, which are none where nothing is said
abbrev pub attributes_form : Form (List KeyValue)
attributes_form = do
  there ← optional (codes "attributes")
  when (if_absent [] attributes_spelled there)

-- ---- statuses

-- the words of the statuses that have no description
abbrev pub status_of_word : List ℕ → Option Status
status_of_word word =
    if bytes_eq word (codes "unset") then Some status.Unset else
    (if bytes_eq word (codes "ok") then Some status.Ok else None)

-- an error, with its description
unfoldable pub error_status_form : Form Status
error_status_form = do
  description ← text (codes "error")
  give (status.Error description)

-- the status that a value names: by a word, or as an error
abbrev pub status_by : Option (List ℕ) → Data → Option Status
status_by (Some word) d = status_of_word word
status_by None d = object_of error_status_form d

abbrev pub status_spelled : Data → Option Status
status_spelled d = status_by (as_str d) d
