-- What a span's state has come to by its ops, one step for each op.
use Rattle.std.specs.Prelude.{◌≡◌, ℕ, ◌+◌, ◌≤◌, ◌-◌, min, max, if◌then◌else◌, Bool, true, false, List, [], ◌∷◌, ◌++◌, length, fold, Option, Some, None, Ok, Err, IfSome, is_some}
use Rattle.std.specs.Option.{option_to_list}
use Rattle.otel_base.specs.declared.context.Context.{Context}
use Rattle.otel_base.specs.declared.context.SpanContext.{SpanContext}
use Rattle.otel_base.specs.declared.record.Link.{Link}
use Rattle.otel_base.specs.declared.record.OtelEvent.{OtelEvent}
use Rattle.otel_base.specs.declared.record.Record.{Record}
use Rattle.otel_base.specs.declared.record.SpanKind.{SpanKind}
use Rattle.otel_base.specs.declared.record.SpanKind.TheVariants.{Internal}
use Rattle.otel_base.specs.declared.status.Status.{Status}
use Rattle.otel_base.specs.declared.status.Status.TheVariants.{Unset}
use Rattle.otel_base.specs.declared.value.KeyValue.{KeyValue}
use Rattle.otel_base.specs.Ids.{ids_of, ids_or_zeros, parent_id}
use Rattle.otel_state.specs.declared.op.Op.{Op}
use Rattle.otel_state.specs.declared.op.Op.TheVariants as ops
use Rattle.otel_state.specs.declared.op.OpReply.{OpReply}
use Rattle.otel_state.specs.declared.op.OpReply.TheVariants.{Done, Parent}
use Rattle.otel_state.specs.declared.op.SetParentError.TheVariants.{AlreadyStarted}
use Rattle.otel_state.specs.declared.times.TheConstants.{GREATEST}
use Rattle.otel_state.specs.Deeds.{Deed, TimedOp, deed}
use Rattle.otel_state.specs.Statuses.{statuses_written, greatest_status}
use Rattle.otel_state.specs.Times.{open_after, busy_between, end_of, idle_of, MomentsRise}
use Rattle.otel_state.specs.Content.{Making, content, closing_count_attributes, closing_times_attributes}

-- what a span has come to
pub record SpanData : Type 0 where
  pub name : List ℕ
  pub kind : SpanKind
  pub parent : Context
  pub made_at : ℕ
  pub counting : Bool
  pub inactivity : Bool
  pub own : Option SpanContext
  pub attributes : List KeyValue
  pub events : List OtelEvent
  pub links : List Link
  pub status : Status
  pub counted : ℕ
  -- how many entries are open, the moment of the last op, the busy time up to it, and the last exit
  pub entries : ℕ
  pub last : ℕ
  pub busy : ℕ
  pub left_at : Option ℕ

-- how many attributes, events and links more need no memory; the attributes of the close aren't counted
pub record Room : Type 0 where
  pub attributes : ℕ
  pub events : ℕ
  pub links : ℕ

-- a state: what the span has come to, and the spare room
pub record StateValue : Type 0 where
  pub span_data : SpanData
  pub room : Room

-- a span without ops
abbrev pub data_at_making : Making → SpanData
data_at_making making = record {
  name = making.name;
  kind = Internal;
  parent = making.parent;
  made_at = making.made_at;
  counting = making.counting;
  inactivity = making.inactivity;
  own = None;
  attributes = making.first;
  events = [];
  links = [];
  status = Unset;
  counted = 0;
  entries = 0;
  last = min making.made_at GREATEST;
  busy = 0;
  left_at = None;
}

-- ---- one op more

-- a moment counts from the last one on, and up to the greatest
abbrev pub moment_after : ℕ → ℕ → ℕ
moment_after last at = min (max at last) GREATEST

-- what is written counts unless the span has started
abbrev pub unless_started : {A : Type 0} → Option SpanContext → A → Option A → A
unless_started own before None = before
unless_started own before (Some written) = if is_some own then before else written

-- the first start counts
abbrev pub first_start : Option SpanContext → Option SpanContext → Option SpanContext
first_start own None = own
first_start None (Some given) = Some given
first_start (Some own) (Some given) = Some own

abbrev pub with_all : {A : Type 0} → List A → List A → List A
with_all items [] = items
with_all items (more ∷ mores) = items ++ more ∷ mores

abbrev pub with_one : {A : Type 0} → List A → Option A → List A
with_one items None = items
with_one items (Some one) = items ++ one ∷ []

-- time passes up to a moment
abbrev pub after_time : SpanData → ℕ → SpanData
after_time span_data at = record span_data { busy = span_data.busy + busy_between span_data.entries span_data.last (moment_after span_data.last at); last = moment_after span_data.last at }

-- what an op does at the last moment
abbrev pub after_deed : SpanData → Deed → SpanData
after_deed span_data d =
    let own = first_start span_data.own d.own in
    record span_data {
      name = unless_started own span_data.name d.name;
      kind = unless_started own span_data.kind d.kind;
      parent = unless_started own span_data.parent d.parent;
      own = own;
      attributes = with_all span_data.attributes d.attributes;
      events = with_one span_data.events d.event;
      links = with_one span_data.links d.link;
      status = greatest_status span_data.status (statuses_written d);
      counted = if d.counts then min (span_data.counted + 1) GREATEST else span_data.counted;
      entries = open_after span_data.entries d;
      left_at = if d.exits then Some span_data.last else span_data.left_at;
    }

abbrev pub after_op : SpanData → ℕ → Op → SpanData
after_op span_data at op = after_deed (after_time span_data at) (deed op)

-- ---- a list of ops

abbrev pub after_stamped : SpanData → TimedOp → SpanData
after_stamped span_data op = after_op span_data op.at op.op

-- a state stands for a making and the ops since
abbrev pub Represents : Making → List TimedOp → SpanData → Type 0
Represents making ops span_data = span_data ≡ fold after_stamped (data_at_making making) ops

-- a state stands for one op more, whatever making and ops it stood for
abbrev pub AppendsOp : ℕ → Op → SpanData → SpanData → Type 0
AppendsOp at op before now = (making : Making) (ops : List TimedOp) → Represents making ops before → Represents making (ops ++ record { at = at; op = op } ∷ []) now

-- a value is read off the making and the ops that a state stands for
abbrev pub IsReadOff : {A : Type 0} → (Making → List TimedOp → A) → SpanData → A → Type 0
IsReadOff read span_data value = (making : Making) (ops : List TimedOp) → Represents making ops span_data → value ≡ read making ops

-- a state gets the parent and the moment of its making anew, and no time has passed since
abbrev pub with_making : Context → ℕ → SpanData → SpanData
with_making parent made_at span_data = record span_data { parent = parent; made_at = made_at; last = min made_at GREATEST; busy = 0; left_at = None }

-- a state that stood for a making and no ops stands for the same making with another parent and moment, and no ops
abbrev pub BeginsAt : Context → ℕ → SpanData → SpanData → Type 0
BeginsAt parent made_at before now = (making : Making) → Represents making [] before → Represents (record making { parent = parent; made_at = made_at }) [] now

-- a record is the content of the making and the ops that a state stands for, where moments don't fall
abbrev pub IsContent : ℕ → SpanData → Record → Type 0
IsContent at span_data result = (making : Making) (ops : List TimedOp) → Represents making ops span_data → MomentsRise making.made_at ops → result ≡ content making ops at

-- ---- answers

-- what an op answers: a parent is set exactly before the first start
abbrev pub reply_after : Option SpanContext → Op → OpReply
reply_after own (ops.SetParent context) = Parent (if is_some own then Err AlreadyStarted else Ok tt)
reply_after own _ = Done

abbrev pub reply : SpanData → Op → OpReply
reply span_data op = reply_after span_data.own op

-- the ops for which memory may be wanted
abbrev pub is_growing : Op → Bool
is_growing (ops.Update update) = true
is_growing (ops.Event is_error update event) = true
is_growing (ops.AddEvent event) = true
is_growing (ops.Link link) = true
is_growing (ops.SetAttribute pair) = true
is_growing _ = false

-- there is the room that an op fills
pub record HasRoom (room : Room) (op : Op) : Type 0 where
  pub attributes : length (deed op).attributes ≤ room.attributes
  pub events : length (option_to_list (deed op).event) ≤ room.events
  pub links : length (option_to_list (deed op).link) ≤ room.links

-- the room that an op leaves of some room
abbrev pub room_after : Room → Deed → Room
room_after room d = record {
  attributes = room.attributes - length d.attributes;
  events = room.events - length (option_to_list d.event);
  links = room.links - length (option_to_list d.link);
}

-- there still is so much room
pub record KeepsRoom (room now : Room) : Type 0 where
  pub attributes : room.attributes ≤ now.attributes
  pub events : room.events ≤ now.events
  pub links : room.links ≤ now.links

-- ---- the close

-- the record of a state that is closed at a moment
abbrev pub record_of : SpanData → ℕ → Record
record_of span_data closed = record {
  name = span_data.name;
  kind = span_data.kind;
  context = ids_or_zeros span_data.own;
  parent = parent_id (ids_of span_data.parent);
  start = span_data.made_at;
  end = end_of span_data.left_at closed;
  attributes = span_data.attributes ++ closing_count_attributes span_data.counting span_data.counted
      ++ closing_times_attributes span_data.inactivity span_data.busy (idle_of span_data.left_at span_data.made_at span_data.busy);
  events = span_data.events;
  links = span_data.links;
  status = span_data.status;
}

-- ---- what always holds of what is kept

-- times are moments in order, a count is within its type, and the close has its room
pub record IsSoundState (counted entries busy last : ℕ) (left : Option ℕ) (length closing capacity : ℕ) : Type 0 where
  pub is_within : busy ≤ last
  pub is_moment : last ≤ GREATEST
  pub is_past : IfSome left (λ l. l ≤ last)
  pub count_fits : counted ≤ GREATEST
  pub entries_fit : entries ≤ GREATEST
  pub has_room : length + closing ≤ capacity
