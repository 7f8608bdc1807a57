-- The value that a request is read from: the form in the other direction.
use Rattle.std.specs.Prelude.{◌<◌, ◌≤◌, ◌^◌, ℕ, List, [], ◌∷◌, ◌++◌, fold, codes, Option, Some, None, IfSome}
use Rattle.serde_json.specs.Data.{Data, number, string, object, unsigned, Members, no_members, put}
use Rattle.otel_base.specs.declared.value.KeyValue.{KeyValue}
use Rattle.span_script.specs.declared.request.Request.{Request}
use Rattle.span_script.specs.declared.request.TheConstants.{LAST_MOMENT}
use Rattle.span_script.specs.declared.request.Call.{Call}
use Rattle.span_script.specs.declared.request.Call.TheVariants as call
use Rattle.span_script.specs.declared.request.RequestParent.{RequestParent}
use Rattle.span_script.specs.declared.request.RequestParent.TheVariants as request_parent
use Rattle.trace_base.specs.declared.field.Value.{Value}
use Rattle.trace_lines.specs.values.FieldData.{written_field, AreValuesInRange, IsOtelValueInRange, AreAttributesInRange}
use Rattle.trace_lines.specs.text.Hex.{hex16, hex32}
use Rattle.trace_lines.specs.reading.Object.{array_of}
use Rattle.trace_lines.specs.values.RecordData.{attribute_value, attributes_data, status_data}

-- a call at a moment on a lane
abbrev pub request_of : ℕ → ℕ → Call → Request
request_of at lane call = record { at = at; lane_place = lane; call = call }

-- ids have 128 and 64 bits, numbers of fields and attributes those of their types, and a time is a moment
abbrev pub IsInRange : Call → Type 0
IsInRange (call.New site put fields) = AreValuesInRange fields
IsInRange call.Current = Unit {0}
IsInRange (call.Clone handle) = Unit {0}
IsInRange (call.OrCurrent handle) = Unit {0}
IsInRange (call.Drop handle) = Unit {0}
IsInRange (call.Enter handle) = Unit {0}
IsInRange (call.Entered handle) = Unit {0}
IsInRange (call.Exit guard) = Unit {0}
IsInRange (call.Record handle fields) = AreValuesInRange fields
IsInRange (call.HasField handle name) = Unit {0}
IsInRange (call.Enabled site) = Unit {0}
IsInRange (call.Reload text) = Unit {0}
IsInRange (call.Event site put fields) = AreValuesInRange fields
IsInRange (call.Remote ids) = (ids.trace < 2 ^ 128) × (ids.span < 2 ^ 64)
IsInRange (call.Context handle) = Unit {0}
IsInRange (call.Attach context) = Unit {0}
IsInRange (call.Detach guard) = Unit {0}
IsInRange (call.Follows handle from) = Unit {0}
IsInRange (call.SetParent handle context) = Unit {0}
IsInRange (call.AddLink handle context attributes) = AreAttributesInRange attributes
IsInRange (call.SetAttribute handle key value) = IsOtelValueInRange value
IsInRange (call.SetStatus handle status) = Unit {0}
IsInRange (call.AddEvent handle name attributes time) = AreAttributesInRange attributes × IfSome time (λ at. at ≤ LAST_MOMENT)

-- the word of `do`
abbrev pub word_of : Call → List ℕ
word_of (call.New site put fields) = codes "new"
word_of call.Current = codes "current"
word_of (call.Clone handle) = codes "clone"
word_of (call.OrCurrent handle) = codes "or_current"
word_of (call.Drop handle) = codes "drop"
word_of (call.Enter handle) = codes "enter"
word_of (call.Entered handle) = codes "entered"
word_of (call.Exit guard) = codes "exit"
word_of (call.Record handle fields) = codes "record"
word_of (call.HasField handle name) = codes "has_field"
word_of (call.Enabled site) = codes "enabled"
word_of (call.Reload text) = codes "reload"
word_of (call.Event site put fields) = codes "event"
word_of (call.Remote ids) = codes "remote"
word_of (call.Context handle) = codes "context"
word_of (call.Attach context) = codes "attach"
word_of (call.Detach guard) = codes "detach"
word_of (call.Follows handle from) = codes "follows"
word_of (call.SetParent handle context) = codes "set_parent"
word_of (call.AddLink handle context attributes) = codes "add_link"
word_of (call.SetAttribute handle key value) = codes "set_attribute"
word_of (call.SetStatus handle status) = codes "set_status"
word_of (call.AddEvent handle name attributes time) = codes "add_event"

-- a member that names something by its number
abbrev pub number_member : List ℕ → ℕ → List (List ℕ × Data)
number_member name n = (name, number (unsigned n)) ∷ []

-- the member that says where a new span or an event is put
abbrev pub parent_member : RequestParent → List (List ℕ × Data)
parent_member request_parent.Contextual = []
parent_member request_parent.Root = (codes "parent", string (codes "root")) ∷ []
parent_member (request_parent.Under handle) = number_member (codes "parent") handle

-- the member that gives fields
abbrev pub fields_member : List (List ℕ × Value) → List (List ℕ × Data)
fields_member fields = (codes "fields", array_of written_field fields) ∷ []

-- the member that gives attributes
abbrev pub attributes_member : List KeyValue → List (List ℕ × Data)
attributes_member attributes = (codes "attributes", attributes_data attributes) ∷ []

-- the member that says when an event happened
abbrev pub time_member : Option ℕ → List (List ℕ × Data)
time_member None = []
time_member (Some time) = number_member (codes "time") time

-- what a call names
abbrev pub members_of_call : Call → List (List ℕ × Data)
members_of_call (call.New site put fields) = number_member (codes "site") site ++ (parent_member put ++ fields_member fields)
members_of_call call.Current = []
members_of_call (call.Clone handle) = number_member (codes "handle") handle
members_of_call (call.OrCurrent handle) = number_member (codes "handle") handle
members_of_call (call.Drop handle) = number_member (codes "handle") handle
members_of_call (call.Enter handle) = number_member (codes "handle") handle
members_of_call (call.Entered handle) = number_member (codes "handle") handle
members_of_call (call.Exit guard) = number_member (codes "guard") guard
members_of_call (call.Record handle fields) = number_member (codes "handle") handle ++ fields_member fields
members_of_call (call.HasField handle name) = number_member (codes "handle") handle ++ (codes "name", string name) ∷ []
members_of_call (call.Enabled site) = number_member (codes "site") site
members_of_call (call.Reload text) = (codes "text", string text) ∷ []
members_of_call (call.Event site put fields) = number_member (codes "site") site ++ (parent_member put ++ fields_member fields)
members_of_call (call.Remote ids) =
    (codes "trace", string (hex32 ids.trace)) ∷ (codes "span", string (hex16 ids.span)) ∷ []
members_of_call (call.Context handle) = number_member (codes "handle") handle
members_of_call (call.Attach context) = number_member (codes "context") context
members_of_call (call.Detach guard) = number_member (codes "guard") guard
members_of_call (call.Follows handle from) = number_member (codes "handle") handle ++ number_member (codes "from") from
members_of_call (call.SetParent handle context) = number_member (codes "handle") handle ++ number_member (codes "context") context
members_of_call (call.AddLink handle context attributes) =
    number_member (codes "handle") handle ++ (number_member (codes "context") context ++ attributes_member attributes)
members_of_call (call.SetAttribute handle key value) =
    number_member (codes "handle") handle ++ (codes "key", string key) ∷ (codes "value", attribute_value value) ∷ []
members_of_call (call.SetStatus handle status) =
    number_member (codes "handle") handle ++ (codes "status", status_data status) ∷ []
members_of_call (call.AddEvent handle name attributes time) =
    number_member (codes "handle") handle ++ (codes "name", string name) ∷ (attributes_member attributes ++ time_member time)

-- the members of an object, from their names and values
abbrev pub put_all : List (List ℕ × Data) → Members
put_all pairs = fold (λ ms pair. put pair.0 pair.1 ms) no_members pairs

-- the value of a request
abbrev pub request_data : Request → Data
request_data request = object (put_all (
    (codes "at", number (unsigned request.at)) ∷
    (codes "lane", number (unsigned request.lane_place)) ∷
    (codes "do", string (word_of request.call)) ∷ members_of_call request.call))
