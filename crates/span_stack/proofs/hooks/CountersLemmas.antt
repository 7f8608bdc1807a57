-- What the calls of a layer that may count events make of what it keeps.
use Rattle.std.proofs.Common.{◌≡◌, ℕ, List, [], ◌∷◌, length, Bool, true, false, Option, Some, None, refl, sym, ap, ◌∙◌, inl, inr, ◌==◌}
use Rattle.std.specs.Option.{option_map}
use Rattle.span_stack.proofs.Common.{cases_Bool, cases_eq, cond-true, cond-false, RecorderValue, Callsite, Lane, WorldValue, Hook, OnEvent, Spans, parent_to_release, span_at, entries_on, parent_on, SubscriberCall, NewSpan, Records, Follows, Event, Enter, Exit, CloneSpan, TryClose, spans_after_call, Allowed, Layered, DoesBoth, InStep, both_allowed, both_shows, Replaced, read_subscriber, Chain, ended, closes, no_spans, Core, CoreWithRoom, seen_in, PartCall, Applies, GivesContext, Touches, data_at, update, Recording, recording_of, no_recording, RecordsCall, RecordsChain, RecordsPart, FilterState, FilterWithRoom, plain_filter, enables_in, FilteredOpenTelemetryLayer, events_effect, with_counted, with_event_by, RecordsCallBy}
use Rattle.otel_base.specs.Recorder.{DoesRecorder as RecordsBy}
use Rattle.trace_base.specs.declared.field.ValueSet.{ValueSet}
use Rattle.span_registry.specs.Registering.{RegistryValue, DoesRegistry}
use Rattle.otel_state.specs.declared.op.Op.TheVariants as ops
use Rattle.otel_state.specs.fields.EventFields.{event_op}
use Rattle.otel_state.specs.States.{SpanData, after_op}
use Rattle.otel_layer.specs.Counting.{after_counted, IsNoEvent, hook_any}
use Rattle.otel_layer.specs.Steps.{SameCore, DoesHook, Step, all_events_effect}
use Rattle.otel_layer.proofs.FoundSpanLemmas.{told_at_next}
use Rattle.otel_layer.proofs.RecordingHooksLemmas.{room_recording, start_recording}
use Rattle.otel_layer.proofs.RecordingCallsLemmas.{layered_recording, chain_recording}

-- ---- events

update_twice : (id : ℕ) (f g : SpanData → SpanData) (spans : List (ℕ × SpanData)) → update id (λ t. f (g t)) spans ≡ update id f (update id g spans)
update_twice id f g [] = refl
update_twice id f g (e ∷ es) =
    let rest : List (ℕ × SpanData) = (e.0, g e.1) ∷ es in
    elim (cases_Bool (e.0 == id)) [
      | inl here ↦ cond-true {A = List (ℕ × SpanData)} (e.0 == id) ((e.0, f (g e.1)) ∷ es) (e ∷ update id (λ t. f (g t)) es) here
          ∙ sym (cond-true {A = List (ℕ × SpanData)} (e.0 == id) ((e.0, f (g e.1)) ∷ es) ((e.0, g e.1) ∷ update id f es) here)
          ∙ ap (λ (xs : List (ℕ × SpanData)). update id f xs) (sym (cond-true {A = List (ℕ × SpanData)} (e.0 == id) rest (e ∷ update id g es) here))
      | inr apart ↦ cond-false {A = List (ℕ × SpanData)} (e.0 == id) ((e.0, f (g e.1)) ∷ es) (e ∷ update id (λ t. f (g t)) es) apart
          ∙ ap (λ (xs : List (ℕ × SpanData)). e ∷ xs) (update_twice id f g es)
          ∙ sym (cond-false {A = List (ℕ × SpanData)} (e.0 == id) ((e.0, f e.1) ∷ update id g es) (e ∷ update id f (update id g es)) apart)
          ∙ ap (λ (xs : List (ℕ × SpanData)). update id f xs) (sym (cond-false {A = List (ℕ × SpanData)} (e.0 == id) rest (e ∷ update id g es) apart))
    ]

counts_one : (taken : Bool) (id at : ℕ) (callsite : Callsite) (values : ValueSet) (r : Recording)
    → record r { spans = update id (after_counted taken at (event_op callsite values r.settings at)) r.spans } ≡ with_counted taken id at callsite values r
counts_one true id at callsite values r =
    let op = event_op callsite values r.settings at in
    ap (λ (xs : List (ℕ × SpanData)). record r { spans = xs }) (update_twice id (λ t. after_op t at op) (λ t. after_op t at ops.Counted) r.spans)
counts_one false id at callsite values r = refl

-- the filter that counts, without its room
abbrev pub plain_counter : Option FilterWithRoom → Option FilterState
plain_counter o = option_map plain_filter o

abbrev enables : FilterWithRoom → ℕ → Callsite → Bool
enables f = enables_in (plain_filter f)

event_step : (o : Option FilterWithRoom) (c : Core RecorderValue) (reached : Option ℕ) (lane : Lane) (at : ℕ) (callsite : Callsite) (values : ValueSet) (d : Core RecorderValue)
    → Step RecordsBy (events_effect enables o) c (OnEvent reached lane at callsite values) d → recording_of d ≡ with_event_by (plain_counter o) reached lane.id at callsite values (recording_of c)
event_step None c None lane at callsite values d h = ap recording_of h
event_step None c (Some id) lane at callsite values d h = ap recording_of h
event_step (Some f) c None lane at callsite values d h = ap recording_of h
event_step (Some f) c (Some id) lane at callsite values d h = ap recording_of h ∙ counts_one (enables f lane.id callsite) id at callsite values (recording_of c)

event_hook : (o : Option FilterWithRoom) (c : Core RecorderValue) (reached : Option ℕ) (lane : Lane) (at : ℕ) (callsite : Callsite) (values : ValueSet) (d : Core RecorderValue)
    → DoesHook RecordsBy (events_effect enables o) c (OnEvent reached lane at callsite values) d → recording_of d ≡ with_event_by (plain_counter o) reached lane.id at callsite values (recording_of c)
event_hook o c reached lane at callsite values d h =
    event_step o h.prepared reached lane at callsite values d h.step ∙ ap (with_event_by (plain_counter o) reached lane.id at callsite values) (room_recording c h.prepared h.room)

-- ---- the layer over the registry

abbrev pub Layers : Type 0
Layers = FilteredOpenTelemetryLayer RecorderValue FilterWithRoom

abbrev pub Base : Type 0
Base = Layered Layers RegistryValue

abbrev hooks_of : Layers → Hook → Layers → Type 0
hooks_of l hook m = DoesHook RecordsBy (events_effect enables l.filter) l.inner.core hook m.inner.core × (m.filter ≡ l.filter)

abbrev room_of : Layers → Layers → Type 0
room_of l m = SameCore RecordsBy l.inner.core m.inner.core × (m.filter ≡ l.filter)

abbrev active : Layers → Bool
active l = l.inner.core.settings.activation

abbrev spans_of : RegistryValue → Spans
spans_of s = s.spans

abbrev Does : RegistryValue → Layers → SubscriberCall → RegistryValue → Layers → Type 0
Does s l call t m = DoesBoth spans_of DoesRegistry hooks_of room_of active s l call t m

-- the same as of a layer that counts none
abbrev plain_hooks : CoreWithRoom RecorderValue → Hook → CoreWithRoom RecorderValue → Type 0
plain_hooks l hook m = DoesHook RecordsBy all_events_effect l.core hook m.core

abbrev plain_room : CoreWithRoom RecorderValue → CoreWithRoom RecorderValue → Type 0
plain_room l m = SameCore RecordsBy l.core m.core

abbrev plain_active : CoreWithRoom RecorderValue → Bool
plain_active l = l.core.settings.activation

abbrev PlainDoes : RegistryValue → CoreWithRoom RecorderValue → SubscriberCall → RegistryValue → CoreWithRoom RecorderValue → Type 0
PlainDoes s l call t m = DoesBoth spans_of DoesRegistry plain_hooks plain_room plain_active s l call t m

abbrev IsQuiet : SubscriberCall → Type 0
IsQuiet (Event lane at parent site callsite values) = ⊥
IsQuiet (NewSpan lane at parent site callsite values) = Unit {0}
IsQuiet (Records id at callsite values) = Unit {0}
IsQuiet (Follows id from at) = Unit {0}
IsQuiet (Enter id at before later) = Unit {0}
IsQuiet (Exit id at before later) = Unit {0}
IsQuiet (CloneSpan id) = Unit {0}
IsQuiet (TryClose id at) = Unit {0}

as_plain : (l : Layers) (hook : Hook) (m : Layers) → IsNoEvent hook → hooks_of l hook m → plain_hooks l.inner hook m.inner
as_plain l hook m quiet h = hook_any RecordsBy (events_effect enables l.filter) all_events_effect l.inner.core hook m.inner.core quiet h.0

does_plain : (s : RegistryValue) (l : Layers) (call : SubscriberCall) (t : RegistryValue) (m : Layers) → IsQuiet call → Does s l call t m → PlainDoes s l.inner call t m.inner
does_plain s l (Event lane at parent site callsite values) t m quiet d = absurd quiet
does_plain s l (NewSpan lane at parent site callsite values) t m quiet d = (d.0, as_plain l _ m tt d.1)
does_plain s l (Records id at callsite values) t m quiet d = (d.0, as_plain l _ m tt d.1)
does_plain s l (Follows id from at) t m quiet d = (d.0, as_plain l _ m tt d.1)
does_plain s l (Enter id at before later) t m quiet d = record { prepared = d.prepared; between = d.between; room = d.room; first = d.first; second = as_plain l _ m tt d.second }
does_plain s l (Exit id at before later) t m quiet d = record { between = d.between; first = d.first; second = as_plain l _ m tt d.second }
does_plain s l (CloneSpan id) t m quiet d = (d.0, d.1.0)
does_plain s l (TryClose id at) t m quiet d = record { first = d.first; closed = λ one. as_plain l _ m tt (d.closed one); open_still = λ more. (d.open_still more).0 }

abbrev pub base_spans : Base → Spans
base_spans s = s.inner.spans

abbrev pub BaseDoes : Base → SubscriberCall → Base → Type 0
BaseDoes s call t = Does s.inner s.layer call t.inner t.layer

abbrev pub base_recorded : Base → Recording
base_recorded s = recording_of s.layer.inner.core

abbrev pub base_counter : Base → Option FilterState
base_counter s = plain_counter s.layer.filter

abbrev as_layered : Base → Layered (CoreWithRoom RecorderValue) RegistryValue
as_layered s = record { layer = s.layer.inner; inner = s.inner }

quiet_records : (s : Base) (call : SubscriberCall) (t : Base) → IsQuiet call → BaseDoes s call t → RecordsCall (base_spans s) (base_recorded s) call (base_recorded t)
quiet_records s call t quiet d = layered_recording (as_layered s) call (as_layered t) (does_plain s.inner s.layer call t.inner t.layer quiet d)

pub base_records : (s : Base) (call : SubscriberCall) (t : Base) → BaseDoes s call t → RecordsCallBy (base_counter s) (base_spans s) (base_recorded s) call (base_recorded t)
base_records s (Event lane at parent site callsite values) t d =
    event_hook s.layer.filter s.layer.inner.core (parent_on (entries_on lane.id s.inner.spans.lanes) parent) lane at callsite values t.layer.inner.core d.1.0
base_records s (NewSpan lane at parent site callsite values) t d = quiet_records s (NewSpan lane at parent site callsite values) t tt d
base_records s (Records id at callsite values) t d = quiet_records s (Records id at callsite values) t tt d
base_records s (Follows id from at) t d = quiet_records s (Follows id from at) t tt d
base_records s (Enter id at before later) t d = quiet_records s (Enter id at before later) t tt d
base_records s (Exit id at before later) t d = quiet_records s (Exit id at before later) t tt d
base_records s (CloneSpan id) t d = quiet_records s (CloneSpan id) t tt d
base_records s (TryClose id at) t d = quiet_records s (TryClose id at) t tt d

-- the filter that counts stays
pub base_counts : (s : Base) (call : SubscriberCall) (t : Base) → BaseDoes s call t → t.layer.filter ≡ s.layer.filter
base_counts s (Event lane at parent site callsite values) t d = d.1.1
base_counts s (NewSpan lane at parent site callsite values) t d = d.1.1
base_counts s (Records id at callsite values) t d = d.1.1
base_counts s (Follows id from at) t d = d.1.1
base_counts s (Enter id at before later) t d = d.second.1
base_counts s (Exit id at before later) t d = d.second.1
base_counts s (CloneSpan id) t d = d.1.1
base_counts s (TryClose id at) t d = elim (cases_eq (span_at s.inner.spans.made id).holds 1) [ inl one ↦ (d.closed one).1 | inr more ↦ (d.open_still more).1 ]

pub counter_kept : (s : Base) (call : SubscriberCall) (t : Base) → BaseDoes s call t → base_counter t ≡ base_counter s
counter_kept s call t d = ap (λ (o : Option FilterWithRoom). plain_counter o) (base_counts s call t d)

-- ---- chains

abbrev Quietly : Base → SubscriberCall → Base → Type 0
Quietly s call t = BaseDoes s call t × IsQuiet call

base_allowed : (s : Base) (call : SubscriberCall) (t : Base) → Quietly s call t → Allowed (base_spans s) call
base_allowed s call t d = both_allowed spans_of DoesRegistry hooks_of room_of active s.inner t.inner s.layer t.layer call (λ c h. h.allowed) d.0

base_shows : (s : Base) (call : SubscriberCall) (t : Base) → Quietly s call t → base_spans t ≡ spans_after_call (base_spans s) call
base_shows s call t d = both_shows spans_of DoesRegistry hooks_of room_of active s.inner t.inner s.layer t.layer call (λ c h. h.shows) d.0

quiet_chain : (at : ℕ) (next : Option ℕ) (s t : Base) → Chain base_spans BaseDoes at next s t → Chain base_spans Quietly at next s t
quiet_chain at _ _ _ (ended s) = ended s
quiet_chain at _ _ _ (closes id s m t did rest) = closes id s m t (did, tt) (quiet_chain at (parent_to_release (base_spans s).made id) m t rest)

pub base_chain : (at : ℕ) (old new : WorldValue Base) (dispatch id : ℕ) → Replaced (λ s t. Chain base_spans BaseDoes at (Some id) s t) old new dispatch
    → RecordsChain at (Some id) (read_subscriber base_spans no_spans old dispatch) (read_subscriber base_spans no_spans new dispatch) (read_subscriber base_recorded no_recording old dispatch) (read_subscriber base_recorded no_recording new dispatch)
base_chain at old new dispatch id r =
    chain_recording base_spans Quietly base_recorded (λ s call t d. quiet_records s call t d.1 d.0) base_allowed base_shows at old new dispatch id
    (record { before = r.before; later = r.later; there = r.there; did = quiet_chain at (Some id) r.before r.later r.did; others = r.others })

-- ---- room, the next span, and calls from outside

abbrev pub base_room : Base → Base → Type 0
base_room s t = (t.inner ≡ s.inner) × room_of s.layer t.layer

pub base_same : (s t : Base) → base_room s t → base_recorded t ≡ base_recorded s
base_same s t h = room_recording s.layer.inner.core t.layer.inner.core h.1.0

pub counter_same : (s t : Base) → base_room s t → base_counter t ≡ base_counter s
counter_same s t h = ap (λ (o : Option FilterWithRoom). plain_counter o) h.1.1

pub base_next : (s : Base) → InStep s.inner.spans (seen_in s.layer.inner.core) → data_at (length (base_spans s).made) (base_recorded s).spans ≡ None
base_next s step = told_at_next (length s.inner.spans.made) s.layer.inner.core.spans (step.made (length s.inner.spans.made))

pub base_part : (c : Core RecorderValue) (call : PartCall) (d : Core RecorderValue) → Touches RecordsBy c call d → RecordsPart (recording_of c) call (recording_of d)
base_part c (Applies id at op answer) d h = (h.1, ap recording_of h.2)
base_part c (GivesContext id at answer) d h = (start_recording id at c d h.0, h.1)
