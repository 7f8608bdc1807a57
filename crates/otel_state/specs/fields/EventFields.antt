-- What the fields of an event tell, of the event and on its span, a row for each case.
use Rattle.std.specs.Prelude.{ℕ, List, [], ◌∷◌, ◌++◌, Bool, true, false, Option, None, Some, if◌then◌else◌, codes, bytes_eq, fold, ◌&&◌}
use Rattle.std.specs.Fmt.{signed_decimal}
use Rattle.otel_base.specs.declared.status.Status.TheVariants.{Error}
use Rattle.otel_base.specs.declared.value.KeyValue.{KeyValue}
use Rattle.otel_base.specs.declared.value.OtelValue.TheVariants as otel
use Rattle.trace_base.specs.declared.callsite.Callsite.{Callsite}
use Rattle.trace_base.specs.declared.field.Value.{Value}
use Rattle.trace_base.specs.declared.field.Value.TheVariants as given
use Rattle.trace_base.specs.declared.field.ValueSet.{ValueSet}
use Rattle.trace_base.specs.declared.level.Level.{Level}
use Rattle.trace_base.specs.declared.level.Level.TheVariants as level
use Rattle.otel_state.specs.declared.fields.event.Event.{Event}
use Rattle.otel_state.specs.declared.op.Op.{Op}
use Rattle.otel_state.specs.declared.op.Op.TheVariants as ops
use Rattle.otel_state.specs.declared.settings.LayerSettings.{LayerSettings}
use Rattle.otel_state.specs.fields.Fields.{by_name, text_attribute, integer_attribute, if_wanted, location_attributes, level_attributes, target_attributes, plain_text, debug_text, exception_attributes, error_attributes}

-- each event tells its level and its target first; the name is empty while there is none
abbrev pub begun_event : Callsite → Event
begun_event c = record {
  name = [];
  attributes = level_attributes c ++ target_attributes c;
  status = None;
  on_span = [];
}

abbrev pub with_attribute : Event → KeyValue → Event
with_attribute e attribute = record e { attributes = e.attributes ++ attribute ∷ [] }

abbrev pub is_empty_name : List ℕ → Bool
is_empty_name [] = true
is_empty_name (b ∷ bs) = false

-- the special error, whose description is in debug form
abbrev pub with_error : LayerSettings → Event → List ℕ → Event
with_error settings e description = record e {
  name = if settings.error_events_to_exceptions then codes "exception" else e.name;
  attributes = e.attributes ++ text_attribute (if settings.error_events_to_exceptions then codes "exception.message" else codes "error") description ∷ [];
  status = if settings.error_events_to_status then Some (Error description) else e.status;
}

-- the field `message` names the event, and `error` is special while it has no name
abbrev pub with_field_text : LayerSettings → Event → List ℕ → (text debug : List ℕ) → Event
with_field_text settings e name text debug =
    if bytes_eq name (codes "message") then record e { name = text } else
    if bytes_eq name (codes "error") && is_empty_name e.name then with_error settings e debug else
    with_attribute e (text_attribute name text)

abbrev pub with_texts : LayerSettings → Event → List ℕ → Option (List ℕ) → Option (List ℕ) → Event
with_texts settings e name (Some text) (Some debug) = with_field_text settings e name text debug
with_texts settings e name _ _ = e

-- a truth value or a number: its own print names the event, or it is an attribute
abbrev pub with_printed : Event → KeyValue → List ℕ → Event
with_printed e attribute printed = if bytes_eq attribute.key (codes "message") then record e { name = printed } else with_attribute e attribute

abbrev pub bool_text : Bool → List ℕ
bool_text true = codes "true"
bool_text false = codes "false"

-- an error under any name, which may be an exception of the event and of the span
abbrev pub with_error_value : LayerSettings → Event → (name message : List ℕ) → List (List ℕ) → Event
with_error_value settings e name message chain = record e {
  attributes = e.attributes ++ if_wanted settings.error_fields_to_exceptions (exception_attributes message chain) ++ error_attributes name message chain;
  on_span = e.on_span ++ if_wanted settings.error_records_to_exceptions (exception_attributes message chain);
}

-- what a value tells under a name
abbrev pub with_field : LayerSettings → Event → List ℕ → Value → Event
with_field settings e name (given.Bool b) = with_printed e (record { key = name; value = otel.Bool b }) (bool_text b)
with_field settings e name (given.I64 n) = with_printed e (integer_attribute name n) (signed_decimal n)
with_field settings e name (given.Error message chain) = with_error_value settings e name message chain
with_field settings e name value = with_texts settings e name (plain_text value) (debug_text value)

abbrev pub is_error : Level → Bool
is_error level.ERROR = true
is_error _ = false

-- a name, or another where it is empty
abbrev pub name_or : List ℕ → List ℕ → List ℕ
name_or name other = if is_empty_name name then other else name

-- the op of an event: without a name it has that of its callsite, and the location comes last
abbrev pub op_of_event : Event → Callsite → LayerSettings → ℕ → Op
op_of_event e c settings at =
    ops.Event (is_error c.level)
    (record { name = None; kind = None; status = e.status; attributes = e.on_span })
    (record { name = name_or e.name c.name; time = at; attributes = e.attributes ++ if_wanted settings.location (location_attributes c) })

-- what an event of a callsite with some fields does at a moment
abbrev pub event_op : Callsite → ValueSet → LayerSettings → ℕ → Op
event_op c values settings at = op_of_event (fold (by_name (with_field settings) c) (begun_event c) values.pairs) c settings at
