-- The record of a making, the ops after it and the moment of the close.
use Rattle.std.specs.Prelude.{ℕ, ◌+◌, List, [], ◌∷◌, ◌++◌, Bool, if◌then◌else◌, codes, pos, min, count_by, flat_map, filter_map}
use Rattle.otel_base.specs.declared.context.Context.{Context}
use Rattle.otel_base.specs.declared.record.Link.{Link}
use Rattle.otel_base.specs.declared.record.OtelEvent.{OtelEvent}
use Rattle.otel_base.specs.declared.record.Record.{Record}
use Rattle.otel_base.specs.declared.value.KeyValue.{KeyValue}
use Rattle.otel_base.specs.declared.value.OtelValue.TheVariants.{I64}
use Rattle.otel_base.specs.Ids.{ids_of, ids_or_zeros, parent_id}
use Rattle.otel_state.specs.declared.times.TheConstants.{GREATEST}
use Rattle.otel_state.specs.Deeds.{TimedOp, deed}
use Rattle.otel_state.specs.Opening.{ids_of_start, name_of, kind_of, parent_context_of}
use Rattle.otel_state.specs.Statuses.{status_of}
use Rattle.otel_state.specs.Times.{busy_of, last_exit, end_of, idle_of}

-- the making of a span: its name, its parent's context, its moment, its first attributes, and what its close will tell
pub record Making : Type 0 where
  pub name : List ℕ
  pub parent : Context
  pub made_at : ℕ
  pub first : List KeyValue
  pub counting : Bool
  pub inactivity : Bool

-- what the ops add, in order
abbrev pub attributes_of : List TimedOp → List KeyValue
attributes_of ops = flat_map (λ op. (deed op.op).attributes) ops

abbrev pub events_of : List TimedOp → List OtelEvent
events_of ops = filter_map (λ op. (deed op.op).event) ops

abbrev pub links_of : List TimedOp → List Link
links_of ops = filter_map (λ op. (deed op.op).link) ops

-- how many events were counted; the count stands still at its greatest
abbrev pub counted_of : List TimedOp → ℕ
counted_of ops = min (count_by (λ op. (deed op.op).counts) ops) GREATEST

-- an attribute that tells a number
abbrev pub number_attribute : List ℕ → ℕ → KeyValue
number_attribute key n = record { key = key; value = I64 (pos n) }

-- the attributes that a close adds: the count where events are counted, then the times where inactivity is tracked
abbrev pub closing_count_attributes : Bool → ℕ → List KeyValue
closing_count_attributes counting counted = if counting then number_attribute (codes "otel.tracing_event_count") counted ∷ [] else []

abbrev pub closing_times_attributes : Bool → ℕ → ℕ → List KeyValue
closing_times_attributes inactivity busy idle = if inactivity then number_attribute (codes "busy_ns") busy ∷ number_attribute (codes "idle_ns") idle ∷ [] else []

-- how many these are
abbrev pub closing_room : Bool → Bool → ℕ
closing_room counting inactivity = (if counting then 1 else 0) + (if inactivity then 2 else 0)

-- the record
abbrev pub content : Making → List TimedOp → ℕ → Record
content making ops closed =
    let left = last_exit ops in
    let busy = busy_of making.made_at ops in
    record {
      name = name_of making.name ops;
      kind = kind_of ops;
      context = ids_or_zeros (ids_of_start ops);
      parent = parent_id (ids_of (parent_context_of making.parent ops));
      start = making.made_at;
      end = end_of left closed;
      attributes = making.first ++ attributes_of ops ++ closing_count_attributes making.counting (counted_of ops)
          ++ closing_times_attributes making.inactivity busy (idle_of left making.made_at busy);
      events = events_of ops;
      links = links_of ops;
      status = status_of ops;
    }
