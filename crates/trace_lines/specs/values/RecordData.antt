-- The JSON of a record.
use Rattle.std.specs.Prelude.{ℕ, List, [], ◌∷◌, ◌++◌, codes, decimal, Option, Some, None}
use Rattle.serde_json.specs.Data.{Data, boolean, number, string, array, object, no_items, item}
use Rattle.serde_json.specs.Find.{of_integer}
use Rattle.otel_base.specs.declared.record.Record.{Record}
use Rattle.otel_base.specs.declared.record.SpanKind.{SpanKind}
use Rattle.otel_base.specs.declared.record.SpanKind.TheVariants.{Server, Client, Producer, Consumer, Internal}
use Rattle.otel_base.specs.declared.record.OtelEvent.{OtelEvent}
use Rattle.otel_base.specs.declared.record.Link.{Link}
use Rattle.otel_base.specs.declared.status.Status.{Status}
use Rattle.otel_base.specs.declared.status.Status.TheVariants as status
use Rattle.otel_base.specs.declared.value.KeyValue.{KeyValue}
use Rattle.otel_base.specs.declared.value.OtelValue.{OtelValue}
use Rattle.otel_base.specs.declared.value.OtelValue.TheVariants as otel
use Rattle.trace_lines.specs.text.Hex.{hex16, hex32}
use Rattle.trace_lines.specs.reading.Object.{by_name, array_of, whole_number}

-- an attribute's value
abbrev pub attribute_value : OtelValue → Data
attribute_value (otel.Bool b) = boolean b
attribute_value (otel.I64 z) = number (of_integer z)
attribute_value (otel.Str text) = string text
attribute_value (otel.List texts) = array_of string texts

-- an attribute: its key and its value
abbrev pub attribute_data : KeyValue → Data
attribute_data attribute =
    array (item (string attribute.key) (item (attribute_value attribute.value) no_items))

-- attributes, in order
abbrev pub attributes_data : List KeyValue → Data
attributes_data attributes = array_of attribute_data attributes

-- an event: its attributes, its name and its time
abbrev pub event_data : OtelEvent → Data
event_data event = object (by_name (
    (codes "name", string event.name)
    ∷ (codes "time", whole_number event.time)
    ∷ (codes "attributes", attributes_data event.attributes) ∷ []))

-- a link: its attributes and the ids of the other span
abbrev pub link_data : Link → Data
link_data link = object (by_name (
    (codes "trace", string (hex32 link.context.trace))
    ∷ (codes "span", string (hex16 link.context.span))
    ∷ (codes "attributes", attributes_data link.attributes) ∷ []))

-- the name of a kind
abbrev pub kind_name : SpanKind → List ℕ
kind_name Server = codes "server"
kind_name Client = codes "client"
kind_name Producer = codes "producer"
kind_name Consumer = codes "consumer"
kind_name Internal = codes "internal"

-- a status: its name, or the description of the error
abbrev pub status_data : Status → Data
status_data status.Unset = string (codes "unset")
status_data (status.Error description) = object (by_name ((codes "error", string description) ∷ []))
status_data status.Ok = string (codes "ok")

-- the lane that is told, if one is
abbrev pub lane_members : Option ℕ → List (List ℕ × Data)
lane_members None = []
lane_members (Some lane) = (codes "lane", whole_number lane) ∷ []

-- its text behind other members
abbrev pub lane_text : Option ℕ → List ℕ
lane_text None = []
lane_text (Some lane) = codes ",\"lane\":" ++ decimal lane

-- the record with a number, and the lane on which its span closed, if that is told
unfoldable pub record_object : Option ℕ → ℕ → Record → Data
record_object lane n finished = object (by_name (lane_members lane ++
    (codes "record", whole_number n)
    ∷ (codes "name", string finished.name)
    ∷ (codes "kind", string (kind_name finished.kind))
    ∷ (codes "trace", string (hex32 finished.context.trace))
    ∷ (codes "span", string (hex16 finished.context.span))
    ∷ (codes "parent", string (hex16 finished.parent))
    ∷ (codes "start", whole_number finished.start)
    ∷ (codes "end", whole_number finished.end)
    ∷ (codes "attributes", attributes_data finished.attributes)
    ∷ (codes "events", array_of event_data finished.events)
    ∷ (codes "links", array_of link_data finished.links)
    ∷ (codes "status", status_data finished.status) ∷ []))

-- the record with a number
abbrev pub record_data : ℕ → Record → Data
record_data n finished = record_object None n finished
