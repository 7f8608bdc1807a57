-- The spans that a layer knows, by id, with what each has come to.
use Rattle.std.specs.Prelude.{◌≡◌, ◌≤◌, ℕ, suc, ◌+◌, ◌==◌, if◌then◌else◌, Bool, true, List, [], ◌∷◌, ◌++◌, ◌&&◌, Option, Some, None, is_some, length, map}
use Rattle.std.specs.List.{list_any}
use Rattle.std.specs.Map.{lookup, keys_of}
use Rattle.otel_base.specs.declared.context.Context.{Context}
use Rattle.otel_base.specs.declared.context.SpanContext.{SpanContext}
use Rattle.otel_base.specs.Ids.{ids_of}
use Rattle.otel_base.specs.declared.record.Link.{Link}
use Rattle.otel_state.specs.declared.op.Op.{Op}
use Rattle.otel_state.specs.declared.op.Op.TheVariants as ops
use Rattle.otel_state.specs.States.{SpanData, Room, StateValue, after_op, HasRoom}
use Rattle.otel_layer.specs.declared.table.Entry.{Entry}

-- a table: the spans, the spare room of each, and how many more spans there is room for
pub record SpanTableValue : Type 0 where
  pub spans : List (ℕ × SpanData)
  pub rooms : List (ℕ × Room)
  pub room : ℕ

-- what is read off the states, by id; an entry without one is a gap, and left out
abbrev pub with_entry_read : {A : Type 0} → ℕ → (StateValue → A) → Option StateValue → List (ℕ × A) → List (ℕ × A)
with_entry_read id f None others = others
with_entry_read id f (Some state) others = (id, f state) ∷ others

abbrev pub read_off : {A : Type 0} → (StateValue → A) → List Entry → List (ℕ × A)
read_off f [] = []
read_off f (e ∷ es) = with_entry_read e.id f e.state (read_off f es)

abbrev pub all_data : List Entry → List (ℕ × SpanData)
all_data entries = read_off (λ state. state.span_data) entries

abbrev pub rooms : List Entry → List (ℕ × Room)
rooms entries = read_off (λ state. state.room) entries

-- the ids, those of gaps too
abbrev pub entry_ids : List Entry → List ℕ
entry_ids entries = map (λ e. e.id) entries

abbrev pub span_table_value : List Entry → ℕ → SpanTableValue
span_table_value entries room = record { spans = all_data entries; rooms = rooms entries; room = room }

abbrev pub is_of_id : ℕ → Entry → Bool
is_of_id id = λ e. (e.id == id) && is_some e.state

abbrev pub is_id : ℕ → ℕ → Bool
is_id id = λ k. k == id

-- what a span has come to, if it is known
abbrev pub data_at : ℕ → List (ℕ × SpanData) → Option SpanData
data_at id spans = lookup (is_id id) spans

abbrev pub knows_span : ℕ → List (ℕ × SpanData) → Bool
knows_span id spans = list_any (is_id id) (keys_of spans)

-- one span more
abbrev pub with_span_data : ℕ → SpanData → List (ℕ × SpanData) → List (ℕ × SpanData)
with_span_data id span_data spans = spans ++ (id, span_data) ∷ []

-- the spans with one of them changed; nothing changes where it isn't known
abbrev pub update : ℕ → (SpanData → SpanData) → List (ℕ × SpanData) → List (ℕ × SpanData)
update id f [] = []
update id f (e ∷ es) = if e.0 == id then (e.0, f e.1) ∷ es else e ∷ update id f es

abbrev pub with_op : ℕ → ℕ → Op → List (ℕ × SpanData) → List (ℕ × SpanData)
with_op id at op spans = update id (λ span_data. after_op span_data at op) spans

-- how many spans haven't started
abbrev pub one_if_unstarted : Option SpanContext → ℕ
one_if_unstarted None = 1
one_if_unstarted (Some own) = 0

abbrev pub unstarted_count : List (ℕ × SpanData) → ℕ
unstarted_count [] = 0
unstarted_count (e ∷ es) = one_if_unstarted e.1.own + unstarted_count es

-- the context that a span will start under, if it is known and hasn't started
abbrev pub context_unless_started : Option SpanContext → Context → Option Context
context_unless_started None context = Some context
context_unless_started (Some own) context = None

abbrev pub start_context : Option SpanData → Option Context
start_context None = None
start_context (Some span_data) = context_unless_started span_data.own span_data.parent

-- the own context of a span, the other one where it isn't known
abbrev pub own_context_or : Context → Option SpanData → Context
own_context_or other None = other
own_context_or other (Some span_data) = record { span = span_data.own }

-- the ids of a span, if it is known
abbrev pub ids_if_known : Option SpanData → Option SpanContext
ids_if_known None = None
ids_if_known (Some span_data) = Some (ids_of (record { span = span_data.own }))

-- the room for one op at a span
abbrev pub RoomFor : ℕ → Op → List (ℕ × Room) → Type 0
RoomFor id op rooms = (room : Room) → lookup (is_id id) rooms ≡ Some room → HasRoom room op

-- the room for a link at a span, whichever it is
pub record RoomForLink (id : ℕ) (rooms : List (ℕ × Room)) : Type 0 where
  pub any : (link : Link) → RoomFor id (ops.Link link) rooms

-- the ids rise, from the first argument on
abbrev pub IdsRise : ℕ → List ℕ → Type 0
IdsRise least [] = Unit {0}
IdsRise least (id ∷ ids) = (least ≤ id) × IdsRise (suc id) ids

-- those of the entries do, if that is said
abbrev pub IdsRiseIf : Bool → List Entry → Type 0
IdsRiseIf rising entries = rising ≡ true → IdsRise 0 (entry_ids entries)

-- they do with one more
abbrev pub RisesTo : ℕ → List Entry → Type 0
RisesTo id entries = IdsRise 0 (entry_ids entries ++ id ∷ [])

-- what a table says of its entries: whether the ids rise, and how many aren't gaps
pub record IsSpanTable (rising : Bool) (known : ℕ) (entries : List Entry) : Type 0 where
  pub rises : IdsRiseIf rising entries
  pub counts : known ≡ length (all_data entries)
