-- What calls make of what is recorded, where events may be counted.
use Rattle.std.specs.Prelude.{◌≡◌, ℕ, Bool, true, false, Option, Some, None}
use Rattle.trace_base.specs.declared.callsite.Callsite.{Callsite}
use Rattle.trace_base.specs.declared.field.ValueSet.{ValueSet}
use Rattle.trace_base.specs.Spans.{Spans, entries_on, parent_on}
use Rattle.trace_base.specs.Calls.{SubscriberCall, NewSpan, Records, Follows, Event, Enter, Exit, CloneSpan, TryClose}
use Rattle.otel_state.specs.declared.op.Op.TheVariants as ops
use Rattle.otel_state.specs.fields.EventFields.{event_op}
use Rattle.otel_layer.specs.Recording.{Recording, with_applied, with_event, RecordsCall}
use Rattle.env_filter.specs.Filtering.{FilterState, enables_in}

-- an event is counted, and applied after that if it is taken
abbrev pub with_counted : Bool → ℕ → ℕ → Callsite → ValueSet → Recording → Recording
with_counted true id at callsite values r = with_applied id at (event_op callsite values r.settings at) (with_applied id at ops.Counted r)
with_counted false id at callsite values r = with_applied id at ops.Counted r

-- the same of one that may reach no span, on a lane, where a filter counts or none does
abbrev pub with_event_by : Option FilterState → Option ℕ → ℕ → ℕ → Callsite → ValueSet → Recording → Recording
with_event_by None reached lane at callsite values r = with_event reached at callsite values r
with_event_by (Some f) None lane at callsite values r = r
with_event_by (Some f) (Some id) lane at callsite values r = with_counted (enables_in f lane callsite) id at callsite values r

-- each call but an event is as it is where none is counted
abbrev pub RecordsCallBy : Option FilterState → Spans → Recording → SubscriberCall → Recording → Type 0
RecordsCallBy counting_filter spans r (Event lane at parent site callsite values) t =
    t ≡ with_event_by counting_filter (parent_on (entries_on lane.id spans.lanes) parent) lane.id at callsite values r
RecordsCallBy counting_filter spans r (NewSpan lane at parent site callsite values) t = RecordsCall spans r (NewSpan lane at parent site callsite values) t
RecordsCallBy counting_filter spans r (Records id at callsite values) t = RecordsCall spans r (Records id at callsite values) t
RecordsCallBy counting_filter spans r (Follows id from at) t = RecordsCall spans r (Follows id from at) t
RecordsCallBy counting_filter spans r (Enter id at before later) t = RecordsCall spans r (Enter id at before later) t
RecordsCallBy counting_filter spans r (Exit id at before later) t = RecordsCall spans r (Exit id at before later) t
RecordsCallBy counting_filter spans r (CloneSpan id) t = RecordsCall spans r (CloneSpan id) t
RecordsCallBy counting_filter spans r (TryClose id at) t = RecordsCall spans r (TryClose id at) t
