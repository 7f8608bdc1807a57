-- What fields write on a span, a row for each case.
use Rattle.std.specs.Prelude.{ℕ, List, [], ◌∷◌, ◌++◌, Option, None, Some, if◌then◌else◌, codes, bytes_eq, fold}
use Rattle.std.specs.Str.{str_eq_ignore_ascii_case}
use Rattle.otel_base.specs.declared.record.SpanKind.{SpanKind}
use Rattle.otel_base.specs.declared.record.SpanKind.TheVariants.{Server, Client, Producer, Consumer, Internal}
use Rattle.otel_base.specs.declared.status.Status.{Status}
use Rattle.otel_base.specs.declared.status.Status.TheVariants.{Unset, Error, Ok}
use Rattle.otel_base.specs.declared.value.KeyValue.{KeyValue}
use Rattle.otel_base.specs.declared.value.OtelValue.TheVariants as otel
use Rattle.trace_base.specs.declared.callsite.Callsite.{Callsite}
use Rattle.trace_base.specs.declared.field.Value.{Value}
use Rattle.trace_base.specs.declared.field.Value.TheVariants as given
use Rattle.trace_base.specs.declared.field.ValueSet.{ValueSet}
use Rattle.otel_state.specs.declared.fields.span.Special.{Special}
use Rattle.otel_state.specs.declared.fields.span.Special.TheVariants as special
use Rattle.otel_state.specs.declared.settings.LayerSettings.{LayerSettings}
use Rattle.otel_state.specs.declared.update.Update.{Update}
use Rattle.otel_state.specs.fields.Fields.{by_name, text_attribute, integer_attribute, if_wanted, plain_text, exception_attributes, error_attributes}

-- the names that don't stand for an attribute
abbrev pub special_of : List ℕ → Option Special
special_of name =
    if bytes_eq name (codes "otel.name") then Some special.Name else
    if bytes_eq name (codes "otel.kind") then Some special.Kind else
    if bytes_eq name (codes "otel.status_code") then Some special.StatusCode else
    if bytes_eq name (codes "otel.status_description") then Some special.StatusDescription else
    None

-- the kind of a word, in any case of ASCII
abbrev pub kind_of_word : List ℕ → Option SpanKind
kind_of_word word =
    if str_eq_ignore_ascii_case word (codes "server") then Some Server else
    if str_eq_ignore_ascii_case word (codes "client") then Some Client else
    if str_eq_ignore_ascii_case word (codes "producer") then Some Producer else
    if str_eq_ignore_ascii_case word (codes "consumer") then Some Consumer else
    if str_eq_ignore_ascii_case word (codes "internal") then Some Internal else
    None

-- the status of a code, in any case of ASCII
abbrev pub status_of_code : List ℕ → Status
status_of_code code =
    if str_eq_ignore_ascii_case code (codes "ok") then Ok else
    if str_eq_ignore_ascii_case code (codes "error") then Error [] else
    Unset

abbrev pub no_update : Update
no_update = record { name = None; kind = None; status = None; attributes = [] }

abbrev pub with_attributes : Update → List KeyValue → Update
with_attributes update attributes = record update { attributes = update.attributes ++ attributes }

-- what a text writes: of several of a kind the last counts, and an unknown word leaves no kind
abbrev pub with_special : Update → Special → List ℕ → Update
with_special update special.Name text = record update { name = Some text }
with_special update special.Kind text = record update { kind = kind_of_word text }
with_special update special.StatusCode text = record update { status = Some (status_of_code text) }
with_special update special.StatusDescription text = record update { status = Some (Error text) }

-- under a special name or another
abbrev pub with_named : Update → Option Special → List ℕ → List ℕ → Update
with_named update (Some name) field text = with_special update name text
with_named update None field text = with_attributes update (text_attribute field text ∷ [])

abbrev pub with_any_text : Update → List ℕ → Option (List ℕ) → Update
with_any_text update name None = update
with_any_text update name (Some text) = with_named update (special_of name) name text

-- what a value writes under a name
abbrev pub with_value : LayerSettings → Update → List ℕ → Value → Update
with_value settings update name (given.Bool b) = with_attributes update (record { key = name; value = otel.Bool b } ∷ [])
with_value settings update name (given.I64 n) = with_attributes update (integer_attribute name n ∷ [])
with_value settings update name (given.Error message chain) =
    record update { attributes = update.attributes ++ if_wanted settings.error_fields_to_exceptions (exception_attributes message chain) ++ error_attributes name message chain }
with_value settings update name value = with_any_text update name (plain_text value)

-- what a list of fields writes
abbrev pub span_update : Callsite → ValueSet → LayerSettings → Update
span_update c values settings = fold (by_name (with_value settings) c) no_update values.pairs
