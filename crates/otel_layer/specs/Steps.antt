-- What each hook makes of a layer.
use Rattle.std.specs.Prelude.{◌≡◌, ℕ, ◌+◌, ◌-◌, ◌<◌, ◌^◌, suc, zero, if◌then◌else◌, Bool, true, false, List, [], ◌∷◌, ◌++◌, length, Option, Some, None}
use Rattle.std.specs.Map.{remove_entry}
use Rattle.otel_base.specs.declared.context.Context.{Context}
use Rattle.otel_base.specs.declared.context.SpanContext.{SpanContext}
use Rattle.otel_base.specs.Ids.{ids_of}
use Rattle.otel_base.specs.Stack.{has_number, without_number, last_context, empty_context}
use Rattle.otel_base.specs.Tracer.{TracerCall, Start, Reserve, Finish}
use Rattle.trace_base.specs.declared.callsite.Callsite.{Callsite}
use Rattle.trace_base.specs.declared.field.ValueSet.{ValueSet}
use Rattle.trace_base.specs.declared.lane.Lane.{Lane}
use Rattle.trace_base.specs.declared.span.Parent.{Parent}
use Rattle.trace_base.specs.declared.span.Parent.TheVariants as parent
use Rattle.trace_base.specs.Spans.{without_last}
use Rattle.trace_base.specs.lanes.Contexts.{KeepsLane, attached_count}
use Rattle.trace_base.specs.layers.Hooks.{Hook, OnNewSpan, OnRecord, OnFollows, OnEvent, OnEnter, OnExit, OnClose}
use Rattle.otel_state.specs.declared.op.Op.TheVariants as ops
use Rattle.otel_state.specs.declared.settings.LayerSettings.{LayerSettings}
use Rattle.otel_state.specs.fields.EventFields.{event_op}
use Rattle.otel_state.specs.fields.FirstAttributes.{first_attributes}
use Rattle.otel_state.specs.fields.SpanFields.{span_update}
use Rattle.otel_state.specs.Stack.{last_passing}
use Rattle.otel_state.specs.States.{SpanData, data_at_making, after_op, record_of}
use Rattle.otel_layer.specs.declared.layer.tokens.Token.{Token}
use Rattle.otel_layer.specs.Table.{data_at, knows_span, with_span_data, update, with_op, start_context, own_context_or, ids_if_known, is_id}
use Rattle.otel_layer.specs.Core.{Core, on_spans, is_token}

-- ---- room

-- so many rooms are reserved with a tracer
abbrev pub Reserves : {T : Type 0} → (T → TracerCall → T → Type 0) → ℕ → T → T → Type 0
Reserves does zero s t = t ≡ s
Reserves {T} does (suc n) s t = (m : T) × does s Reserve m × Reserves does n m t

-- the same but for room
pub record SameCore {T : Type 0} (does : T → TracerCall → T → Type 0) (c d : Core T) : Type 0 where
  pub count : ℕ
  pub reserves : Reserves does count c.tracer d.tracer
  pub rest : d ≡ record c { tracer = d.tracer; reserved = c.reserved + count }

-- ---- starts

-- a span starts under a context, if there is one to start under: one that is known and hasn't started has one
abbrev pub StartsIf : {T : Type 0} → (T → TracerCall → T → Type 0) → Option Context → ℕ → ℕ → Core T → Core T → Type 0
StartsIf does None id at c d = d ≡ c
StartsIf does (Some under) id at c d =
    (given : SpanContext) × does c.tracer (Start (ids_of under) given) d.tracer × (d ≡ record c { tracer = d.tracer; spans = with_op id at (ops.Start given) c.spans })

abbrev pub StartsSpan : {T : Type 0} → (T → TracerCall → T → Type 0) → ℕ → ℕ → Core T → Core T → Type 0
StartsSpan does id at c d = StartsIf does (start_context (data_at id c.spans)) id at c d

-- the span that is named starts, if one is
abbrev pub StartsIfSome : {T : Type 0} → (T → TracerCall → T → Type 0) → Option ℕ → ℕ → Core T → Core T → Type 0
StartsIfSome does None at c d = d ≡ c
StartsIfSome does (Some id) at c d = StartsSpan does id at c d

-- ---- a making

-- the span that a new one gets its parent's context from: an explicit parent, or without activation the current span
abbrev pub parent_source : Bool → Parent → Option ℕ → Option ℕ
parent_source activation parent.Root current = None
parent_source activation (parent.Of id) current = Some id
parent_source true parent.Current current = None
parent_source false parent.Current current = current

-- the context where there is no such span: the lane's current one for a contextual span, else the empty one
abbrev pub lane_context : Lane → Parent → Context
lane_context lane parent.Root = empty_context
lane_context lane (parent.Of id) = empty_context
lane_context lane parent.Current = last_context empty_context lane.contexts.live

abbrev pub context_from : List (ℕ × SpanData) → Context → Option ℕ → Context
context_from spans other None = other
context_from spans other (Some id) = own_context_or other (data_at id spans)

-- a span that was just made: its first attributes, then what its fields write
abbrev pub new_span_data : Callsite → Lane → ValueSet → Context → ℕ → LayerSettings → Bool → SpanData
new_span_data callsite lane values context at settings counting = after_op
    (data_at_making (record { name = callsite.name; parent = context; made_at = at; first = first_attributes callsite lane settings; counting = counting; inactivity = settings.inactivity }))
    at
    (ops.Update (span_update callsite values settings))

-- a span that was made is added
abbrev pub with_added_span : {T : Type 0} → ℕ → SpanData → Core T → Core T
with_added_span id span_data c = record c { spans = with_span_data id span_data c.spans; span_count = c.span_count + 1 }

-- the span that gives the parent's context starts, the new one is added, and it starts if spans start early
pub record MakesSpan {T : Type 0} (does : T → TracerCall → T → Type 0) (c : Core T) (id : ℕ) (lane : Lane) (at : ℕ) (parent : Parent) (current : Option ℕ) (callsite : Callsite) (values : ValueSet) (d : Core T) : Type 0 where
  pub between : Core T
  pub spare : length c.spans < c.reserved
  pub few : c.span_count + 1 < 2 ^ 62
  pub starts : StartsIfSome does (parent_source c.settings.activation parent current) at c between
  pub added : Core T
  pub rest : added ≡ with_added_span id (new_span_data callsite lane values (context_from between.spans (lane_context lane parent) (parent_source c.settings.activation parent current)) at c.settings c.counting) between
  pub begins : StartsIfSome does (if c.settings.eager then Some id else None) at added d

-- ---- follows

-- a link to a span's own context, none where it isn't known
abbrev pub with_link : ℕ → ℕ → Option SpanContext → List (ℕ × SpanData) → List (ℕ × SpanData)
with_link id at None spans = spans
with_link id at (Some context) spans = with_op id at (ops.Link (record { context = context; attributes = [] })) spans

-- a span is linked to another one's own context
abbrev pub with_link_to : ℕ → ℕ → ℕ → List (ℕ × SpanData) → List (ℕ × SpanData)
with_link_to id from at spans = with_link id at (ids_if_known (data_at from spans)) spans

-- the followed span starts, and the other is linked to it
pub record FollowsSpan {T : Type 0} (does : T → TracerCall → T → Type 0) (c : Core T) (id from at : ℕ) (d : Core T) : Type 0 where
  pub between : Core T
  pub starts : StartsSpan does from at c between
  pub rest : d ≡ on_spans (with_link_to id from at) between

-- ---- events

-- what an event makes of the span that it reaches, by settings, lane, moment, callsite and values
abbrev pub EventEffect : Type 0
EventEffect = LayerSettings → ℕ → ℕ → Callsite → ValueSet → SpanData → SpanData

-- each event is told to its span
abbrev pub all_events_effect : EventEffect
all_events_effect settings lane at callsite values span_data = after_op span_data at (event_op callsite values settings at)

-- ---- entries and exits

-- a context is attached to a lane under a number that no other one has there, and one is detached
pub record AttachesContext (own : Context) (before later : Lane) (attached : Option ℕ) : Type 0 where
  pub number : ℕ
  pub is : attached ≡ Some number
  pub fresh : has_number number before.contexts.live ≡ false
  pub keeps : KeepsLane true before later
  pub live : later.contexts.live ≡ before.contexts.live ++ (number, own) ∷ []

pub record DetachesContext (number : ℕ) (before later : Lane) : Type 0 where
  pub keeps : KeepsLane true before later
  pub attached : 0 < attached_count number before
  pub live : later.contexts.live ≡ without_number number before.contexts.live

abbrev pub DetachesOwnContext : Option ℕ → Lane → Lane → Type 0
DetachesOwnContext None before later = later ≡ before
DetachesOwnContext (Some number) before later = DetachesContext number before later

-- with activation the span's own context is attached
abbrev pub EntersLane : Bool → Context → Lane → Lane → Option ℕ → Type 0
EntersLane true own before later attached = AttachesContext own before later attached
EntersLane false own before later attached = (later ≡ before) × (attached ≡ None)

-- the own context of a span, the empty one where it isn't known
abbrev pub own_context_in : {T : Type 0} → Core T → ℕ → Context
own_context_in c id = own_context_or empty_context (data_at id c.spans)

-- one open entry more, and the last one of a span on a lane taken off
abbrev pub with_token : {T : Type 0} → Token → Core T → Core T
with_token token c = record c { tokens = c.tokens ++ token ∷ [] }

abbrev pub without_token : {T : Type 0} → ℕ → ℕ → Core T → Core T
without_token lane id c = record c { tokens = without_last (is_token lane id) c.tokens }

-- an entry with activation starts the span
pub record EntersSpan {T : Type 0} (does : T → TracerCall → T → Type 0) (c : Core T) (id at : ℕ) (before later : Lane) (d : Core T) : Type 0 where
  pub between : Core T
  pub attached : Option ℕ
  pub starts : StartsIfSome does (if c.settings.activation then Some id else None) at c between
  pub lane : EntersLane c.settings.activation (own_context_in between id) before later attached
  pub rest : d ≡ record between { spans = with_op id at ops.Enter between.spans; tokens = between.tokens ++ record { lane = before.id; id = id; attached = attached } ∷ [] }

-- an exit takes off the span's last entry on the lane, and with activation detaches what that attached
pub record ExitsSpan {T : Type 0} (c : Core T) (id at : ℕ) (before later : Lane) (d : Core T) : Type 0 where
  pub token : Token
  pub last : last_passing (is_token before.id id) c.tokens ≡ Some token
  pub leaves : DetachesOwnContext (if c.settings.activation then token.attached else None) before later
  pub rest : d ≡ record c { spans = with_op id at ops.Exit c.spans; tokens = without_last (is_token before.id id) c.tokens }

-- ---- a close

-- a record was handed to the tracer, in room that was reserved
abbrev pub with_finish : {T : Type 0} → T → Core T → Core T
with_finish tracer c = record c { tracer = tracer; reserved = c.reserved - 1 }

-- the span starts, and its record is finished
pub record ClosesSpan {T : Type 0} (does : T → TracerCall → T → Type 0) (c : Core T) (id at : ℕ) (d : Core T) : Type 0 where
  pub between : Core T
  pub span_data : SpanData
  pub starts : StartsSpan does id at c between
  pub is : data_at id between.spans ≡ Some span_data
  pub finishes : does between.tracer (Finish (record_of span_data at)) d.tracer
  pub rest : d ≡ record between { spans = remove_entry (is_id id) between.spans; reserved = between.reserved - 1; tracer = d.tracer }

-- ---- all hooks

-- nothing where the span isn't known
pub record IfKnown (known : Bool) (does nothing : Type 0) : Type 0 where
  pub is_known : known ≡ true → does
  pub isnt : known ≡ false → nothing

abbrev pub EntersIfKnown : {T : Type 0} → (T → TracerCall → T → Type 0) → Core T → ℕ → ℕ → Lane → Lane → Core T → Type 0
EntersIfKnown does c id at before later d = IfKnown (knows_span id c.spans) (EntersSpan does c id at before later d) ((d ≡ c) × (later ≡ before))

abbrev pub ExitsIfKnown : {T : Type 0} → Core T → ℕ → ℕ → Lane → Lane → Core T → Type 0
ExitsIfKnown c id at before later d = IfKnown (knows_span id c.spans) (ExitsSpan c id at before later d) ((d ≡ c) × (later ≡ before))

abbrev pub ClosesIfKnown : {T : Type 0} → (T → TracerCall → T → Type 0) → Core T → ℕ → ℕ → Core T → Type 0
ClosesIfKnown does c id at d = IfKnown (knows_span id c.spans) (ClosesSpan does c id at d) (d ≡ c)

abbrev pub Step : {T : Type 0} → (T → TracerCall → T → Type 0) → EventEffect → Core T → Hook → Core T → Type 0
Step does events c (OnNewSpan id lane at parent current callsite values) d = MakesSpan does c id lane at parent current callsite values d
Step does events c (OnRecord id at callsite values) d = d ≡ on_spans (with_op id at (ops.Update (span_update callsite values c.settings))) c
Step does events c (OnFollows id from at) d = FollowsSpan does c id from at d
Step does events c (OnEvent None lane at callsite values) d = d ≡ c
Step does events c (OnEvent (Some id) lane at callsite values) d = d ≡ on_spans (update id (events c.settings lane.id at callsite values)) c
Step does events c (OnEnter id at before later) d = EntersIfKnown does c id at before later d
Step does events c (OnExit id at before later) d = ExitsIfKnown c id at before later d
Step does events c (OnClose id at) d = ClosesIfKnown does c id at d

-- a hook, whatever room was taken before
pub record DoesHook {T : Type 0} (does : T → TracerCall → T → Type 0) (events : EventEffect) (c : Core T) (hook : Hook) (d : Core T) : Type 0 where
  pub prepared : Core T
  pub room : SameCore does c prepared
  pub step : Step does events prepared hook d
