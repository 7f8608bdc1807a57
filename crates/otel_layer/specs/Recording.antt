-- What a layer over a recorder keeps, but for its room, and what each hook and each call makes of it.
use Rattle.std.specs.Prelude.{◌≡◌, ◌≢◌, ℕ, ◌+◌, ◌==◌, if◌then◌else◌, Bool, true, false, List, [], ◌∷◌, ◌++◌, length, fold, Option, Some, None}
use Rattle.std.specs.Map.{remove_entry}
use Rattle.otel_base.specs.declared.context.Context.{Context}
use Rattle.otel_base.specs.declared.context.SpanContext.{SpanContext}
use Rattle.otel_base.specs.declared.record.Record.{Record}
use Rattle.otel_base.specs.Ids.{ids_of}
use Rattle.otel_base.specs.Recorder.{RecorderValue}
use Rattle.otel_base.specs.RecorderIds.{recorder_ids}
use Rattle.otel_base.specs.Stack.{has_number, without_number, empty_context}
use Rattle.trace_base.specs.declared.callsite.Callsite.{Callsite}
use Rattle.trace_base.specs.declared.field.ValueSet.{ValueSet}
use Rattle.trace_base.specs.declared.lane.Lane.{Lane}
use Rattle.trace_base.specs.declared.span.Parent.{Parent}
use Rattle.trace_base.specs.Calls.{SubscriberCall, NewSpan, Records, Follows, Event, Enter, Exit, CloneSpan, TryClose}
use Rattle.trace_base.specs.Gate.{WorldValue}
use Rattle.trace_base.specs.layers.Hooks.{Hook, OnNewSpan, OnRecord, OnFollows, OnEvent, OnEnter, OnExit, OnClose}
use Rattle.trace_base.specs.Spans.{Spans, span_at, entries_on, current_of, parent_on, without_last}
use Rattle.span_registry.specs.declared.layered.Layered.{Layered}
use Rattle.span_registry.specs.Registering.{RegistryValue}
use Rattle.span_handles.specs.Worlds.{read_subscriber, ReleasesChain, closed_in}
use Rattle.otel_state.specs.declared.op.Op.{Op}
use Rattle.otel_state.specs.declared.op.Op.TheVariants as ops
use Rattle.otel_state.specs.declared.settings.LayerSettings.{LayerSettings}
use Rattle.otel_state.specs.fields.EventFields.{event_op}
use Rattle.otel_state.specs.Settings.{default_settings}
use Rattle.otel_state.specs.fields.SpanFields.{span_update}
use Rattle.otel_state.specs.Stack.{last_passing}
use Rattle.otel_state.specs.States.{SpanData, after_op, record_of}
use Rattle.otel_layer.specs.declared.layer.tokens.Token.{Token}
use Rattle.otel_layer.specs.Core.{Core, CoreWithRoom, is_token}
use Rattle.otel_layer.specs.Parts.{PartCall, Applies, GivesContext, AppliesIn, own_context_if_known}
use Rattle.otel_layer.specs.Steps.{IfKnown, parent_source, lane_context, context_from, new_span_data, with_link}
use Rattle.otel_layer.specs.Table.{data_at, knows_span, with_span_data, with_op, start_context, own_context_or, ids_if_known, is_id}

-- the spans that are known, with what each has come to, the open entries, how many spans the recorder has started, the
-- finished ones that weren't taken, and the settings
pub record Recording : Type 0 where
  pub spans : List (ℕ × SpanData)
  pub tokens : List Token
  pub started : ℕ
  pub finished : List Record
  pub settings : LayerSettings
  pub counting : Bool

abbrev pub recording_of : Core RecorderValue → Recording
recording_of c = record {
  spans = c.spans;
  tokens = c.tokens;
  started = c.tracer.started;
  finished = c.tracer.finished;
  settings = c.settings;
  counting = c.counting;
}

abbrev pub no_recording : Recording
no_recording = record { spans = []; tokens = []; started = 0; finished = []; settings = default_settings; counting = false }

-- ---- what hooks make of it

abbrev pub with_applied : ℕ → ℕ → Op → Recording → Recording
with_applied id at op r = record r { spans = with_op id at op r.spans }

-- a span starts under a context as the recorder's next one
abbrev pub with_start_under : Option Context → ℕ → ℕ → Recording → Recording
with_start_under None id at r = r
with_start_under (Some under) id at r = record r {
  started = r.started + 1;
  spans = with_op id at (ops.Start (recorder_ids (r.started + 1) (ids_of under))) r.spans;
}

-- a span starts, if it is known and hasn't
abbrev pub with_start : ℕ → ℕ → Recording → Recording
with_start id at r = with_start_under (start_context (data_at id r.spans)) id at r

-- the span that is named starts, if one is
abbrev pub with_start_if_some : Option ℕ → ℕ → Recording → Recording
with_start_if_some None at r = r
with_start_if_some (Some id) at r = with_start id at r

-- the span that starts where a setting is on: at an entry with activation, or at its making
abbrev pub id_if_on : Bool → ℕ → Option ℕ
id_if_on on id = if on then Some id else None

-- a span is made, after the one started that gives its parent's context
abbrev pub with_span_under : Option ℕ → ℕ → Lane → ℕ → Parent → Callsite → ValueSet → LayerSettings → Bool → Recording → Recording
with_span_under source id lane at parent callsite values settings counting r = record r {
  spans = with_span_data id (new_span_data callsite lane values (context_from r.spans (lane_context lane parent) source) at settings counting) r.spans;
}

-- and where spans start early it starts at once
abbrev pub with_new_span : ℕ → Lane → ℕ → Parent → Option ℕ → Callsite → ValueSet → Recording → Recording
with_new_span id lane at parent current callsite values r =
    let source = parent_source r.settings.activation parent current in
    with_start_if_some (id_if_on r.settings.eager id) at (with_span_under source id lane at parent callsite values r.settings r.counting (with_start_if_some source at r))

-- a span is linked to another, which is started
abbrev pub with_started_link : ℕ → ℕ → ℕ → Recording → Recording
with_started_link id from at r = record r { spans = with_link id at (ids_if_known (data_at from r.spans)) r.spans }

abbrev pub with_follow : ℕ → ℕ → ℕ → Recording → Recording
with_follow id from at r = with_started_link id from at (with_start from at r)

-- an event is told to the span that it reaches
abbrev pub with_event : Option ℕ → ℕ → Callsite → ValueSet → Recording → Recording
with_event None at callsite values r = r
with_event (Some id) at callsite values r = with_applied id at (event_op callsite values r.settings at) r

-- an entry, which attached a context as that number, or none
abbrev pub with_entry_op : ℕ → ℕ → ℕ → Option ℕ → Recording → Recording
with_entry_op id lane at attached r = record r {
  spans = with_op id at ops.Enter r.spans;
  tokens = r.tokens ++ record { lane = lane; id = id; attached = attached } ∷ [];
}

abbrev pub with_entry : ℕ → ℕ → ℕ → Option ℕ → Recording → Recording
with_entry id lane at attached r = with_entry_op id lane at attached (with_start_if_some (id_if_on r.settings.activation id) at r)

-- an exit takes off the span's last entry on the lane
abbrev pub with_exit : ℕ → ℕ → ℕ → Recording → Recording
with_exit id lane at r = record r {
  spans = with_op id at ops.Exit r.spans;
  tokens = without_last (is_token lane id) r.tokens;
}

-- a known span's record is the next that is finished
abbrev pub with_span_finished : Option SpanData → ℕ → ℕ → Recording → Recording
with_span_finished None id at r = r
with_span_finished (Some span_data) id at r = record r { spans = remove_entry (is_id id) r.spans; finished = r.finished ++ record_of span_data at ∷ [] }

abbrev pub with_close_of_started : ℕ → ℕ → Recording → Recording
with_close_of_started id at r = with_span_finished (data_at id r.spans) id at r

-- a span starts, if it hasn't, and closes
abbrev pub with_close : ℕ → ℕ → Recording → Recording
with_close id at r = with_close_of_started id at (with_start id at r)

-- ---- lanes

-- a context is attached above all others, under a number that none of them has
pub record AttachesAs (own : Context) (before later : Lane) (attached : Option ℕ) : Type 0 where
  pub number : ℕ
  pub is : attached ≡ Some number
  pub fresh : has_number number before.contexts.live ≡ false
  pub live : later.contexts.live ≡ before.contexts.live ++ (number, own) ∷ []

-- with activation the span's own context is attached to the lane
abbrev pub AttachesOwnContext : Bool → Context → Lane → Lane → Option ℕ → Type 0
AttachesOwnContext true own before later attached = AttachesAs own before later attached
AttachesOwnContext false own before later attached = (later.contexts.live ≡ before.contexts.live) × (attached ≡ None)

-- what an entry attached is detached
abbrev pub Detaches : Option ℕ → Lane → Lane → Type 0
Detaches None before later = later.contexts.live ≡ before.contexts.live
Detaches (Some number) before later = later.contexts.live ≡ without_number number before.contexts.live

pub record Enters (r : Recording) (id at : ℕ) (before later : Lane) (t : Recording) : Type 0 where
  pub attached : Option ℕ
  pub lane : AttachesOwnContext r.settings.activation (own_context_or empty_context (data_at id (with_start_if_some (id_if_on r.settings.activation id) at r).spans)) before later attached
  pub is : t ≡ with_entry id before.id at attached r

pub record Exits (r : Recording) (id at : ℕ) (before later : Lane) (t : Recording) : Type 0 where
  pub token : Token
  pub last : last_passing (is_token before.id id) r.tokens ≡ Some token
  pub lane : Detaches (if r.settings.activation then token.attached else None) before later
  pub is : t ≡ with_exit id before.id at r

-- nothing happens
abbrev pub ChangesNothing : Recording → Lane → Lane → Recording → Type 0
ChangesNothing r before later t = (t ≡ r) × (later.contexts.live ≡ before.contexts.live)

-- ---- all hooks and all calls

abbrev pub RecordsHook : Recording → Hook → Recording → Type 0
RecordsHook r (OnNewSpan id lane at parent current callsite values) t = t ≡ with_new_span id lane at parent current callsite values r
RecordsHook r (OnRecord id at callsite values) t = t ≡ with_applied id at (ops.Update (span_update callsite values r.settings)) r
RecordsHook r (OnFollows id from at) t = t ≡ with_follow id from at r
RecordsHook r (OnEvent reached lane at callsite values) t = t ≡ with_event reached at callsite values r
RecordsHook r (OnEnter id at before later) t = IfKnown (knows_span id r.spans) (Enters r id at before later t) (ChangesNothing r before later t)
RecordsHook r (OnExit id at before later) t = IfKnown (knows_span id r.spans) (Exits r id at before later t) (ChangesNothing r before later t)
RecordsHook r (OnClose id at) t = t ≡ with_close id at r

-- a call is its hook; a release is one where the span closes
abbrev pub RecordsCall : Spans → Recording → SubscriberCall → Recording → Type 0
RecordsCall spans r (NewSpan lane at parent site callsite values) t = RecordsHook r (OnNewSpan (length spans.made) lane at parent (current_of (entries_on lane.id spans.lanes)) callsite values) t
RecordsCall spans r (Records id at callsite values) t = RecordsHook r (OnRecord id at callsite values) t
RecordsCall spans r (Follows id from at) t = RecordsHook r (OnFollows id from at) t
RecordsCall spans r (Event lane at parent site callsite values) t = RecordsHook r (OnEvent (parent_on (entries_on lane.id spans.lanes) parent) lane at callsite values) t
RecordsCall spans r (Enter id at before later) t = RecordsHook r (OnEnter id at before later) t
RecordsCall spans r (Exit id at before later) t = RecordsHook r (OnExit id at before later) t
RecordsCall spans r (CloneSpan id) t = t ≡ r
RecordsCall spans r (TryClose id at) t = t ≡ (if (span_at spans.made id).holds == 1 then with_close id at r else r)

-- a chain of closes: each span that closes, in order
pub record RecordsChain (at : ℕ) (next : Option ℕ) (x y : Spans) (before later : Recording) : Type 0 where
  pub chain : ReleasesChain next x y
  pub is : later ≡ fold (λ r id. with_close id at r) before (closed_in next x y chain)

-- a call from outside: an op is applied, or a span starts whose own context is shown
abbrev pub RecordsPart : Recording → PartCall → Recording → Type 0
RecordsPart r (Applies id at op answer) t = AppliesIn r.spans id at op answer t.spans × (t ≡ record r { spans = t.spans })
RecordsPart r (GivesContext id at answer) t = (t ≡ with_start id at r) × (answer ≡ own_context_if_known (data_at id t.spans))

-- ---- the stack

-- what the layer straight over the registry keeps
abbrev pub layer_recording : Layered (CoreWithRoom RecorderValue) RegistryValue → Recording
layer_recording s = recording_of s.layer.core

-- worlds whose subscribers are such stacks
abbrev pub RecordingWorlds : Type 0
RecordingWorlds = WorldValue (Layered (CoreWithRoom RecorderValue) RegistryValue)

abbrev pub recording_in : RecordingWorlds → ℕ → Recording
recording_in world dispatch = read_subscriber layer_recording no_recording world dispatch

-- ---- the state of any span

-- what an op of one span makes of the state of any
abbrev pub data_after : Bool → ℕ → Op → Option SpanData → Option SpanData
data_after false at op span_data = span_data
data_after true at op None = None
data_after true at op (Some span_data) = Some (after_op span_data at op)

-- the same for a start as the recorder's next span, if there is a context to start under
abbrev pub data_after_start : Option Context → Bool → ℕ → ℕ → Option SpanData → Option SpanData
data_after_start None same count at span_data = span_data
data_after_start (Some under) same count at span_data = data_after same at (ops.Start (recorder_ids (count + 1) (ids_of under))) span_data

-- a state with a start as the recorder's next span, where it hasn't started
abbrev pub data_once_started : Option SpanContext → ℕ → ℕ → SpanData → SpanData
data_once_started (Some own) count at span_data = span_data
data_once_started None count at span_data = after_op span_data at (ops.Start (recorder_ids (count + 1) (ids_of span_data.parent)))

abbrev pub count_after : Option SpanContext → ℕ → ℕ
count_after (Some own) count = count
count_after None count = count + 1

-- what a close of a known span leaves
pub record Closes (id at : ℕ) (r : Recording) (span_data : SpanData) (t : Recording) : Type 0 where
  pub finished : t.finished ≡ r.finished ++ record_of (data_once_started span_data.own r.started at span_data) at ∷ []
  pub started : t.started ≡ count_after span_data.own r.started
  pub tokens : t.tokens ≡ r.tokens
  pub settings : t.settings ≡ r.settings
  pub counting : t.counting ≡ r.counting
  pub others : (other : ℕ) → other ≢ id → data_at other t.spans ≡ data_at other r.spans
