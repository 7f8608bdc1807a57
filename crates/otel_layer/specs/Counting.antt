-- A layer that may count the events of each span, and tell it those that a filter takes.
use Rattle.std.proofs.Common.{◌≡◌, ℕ, Bool, true, false, refl, subst, sym, ap, ◌∙◌}
use Rattle.std.specs.Prelude.{if◌then◌else◌, Option, Some, None}
use Rattle.otel_base.specs.Tracer.{TracerCall}
use Rattle.trace_base.specs.declared.callsite.Callsite.{Callsite}
use Rattle.trace_base.specs.declared.field.ValueSet.{ValueSet}
use Rattle.trace_base.specs.layers.Hooks.{Hook, OnNewSpan, OnRecord, OnFollows, OnEvent, OnEnter, OnExit, OnClose}
use Rattle.otel_state.specs.declared.op.Op.{Op}
use Rattle.otel_state.specs.declared.op.Op.TheVariants as ops
use Rattle.otel_state.specs.declared.settings.LayerSettings.{LayerSettings}
use Rattle.otel_state.specs.fields.EventFields.{event_op}
use Rattle.otel_state.specs.States.{SpanData, after_op}
use Rattle.otel_layer.specs.Core.{Core}
use Rattle.otel_layer.specs.laws.HookLemmas.{StartsNoSpan, all_keep_own}
use Rattle.otel_layer.specs.laws.RoomLemmas.{same_core_does}
use Rattle.otel_layer.specs.Steps.{EventEffect, SameCore, Step, DoesHook, all_events_effect}

-- an event is counted, and applied after that if it is taken
abbrev pub after_counted : Bool → ℕ → Op → SpanData → SpanData
after_counted is_taken at op span_data = if is_taken then after_op (after_op span_data at ops.Counted) at op else after_op span_data at ops.Counted

-- what events make of their spans, where a filter decides by lane and callsite which it takes
abbrev pub counted_events_effect : (ℕ → Callsite → Bool) → EventEffect
counted_events_effect enables settings lane at callsite values span_data = after_counted (enables lane callsite) at (event_op callsite values settings at) span_data

-- the same where a filter may be given: without one each event is applied, and none is counted
abbrev pub events_effect : {F : Type 0} → (F → ℕ → Callsite → Bool) → Option F → EventEffect
events_effect enables None = all_events_effect
events_effect enables (Some filter) = counted_events_effect (enables filter)

-- the same layer, which counts or doesn't
abbrev pub counting_core : {T : Type 0} → Bool → Core T → Core T
counting_core counting c = record c { counting = counting }

-- ---- laws

counted_own : (is_taken : Bool) (settings : LayerSettings) (at : ℕ) (callsite : Callsite) (values : ValueSet) (span_data : SpanData) → (after_counted is_taken at (event_op callsite values settings at) span_data).own ≡ span_data.own
counted_own true settings at callsite values span_data = refl
counted_own false settings at callsite values span_data = refl

pub events_keep_own : {F : Type 0} (enables : F → ℕ → Callsite → Bool) (filter : Option F) → StartsNoSpan (events_effect enables filter)
events_keep_own enables None = all_keep_own
events_keep_own enables (Some filter) = λ settings lane at callsite values span_data. counted_own (enables filter lane callsite) settings at callsite values span_data

pub counted_does : {T F : Type 0} (does : T → TracerCall → T → Type 0) (events : F → EventEffect) (c d : Core T) (hook : Hook) (e : Core T) (f g h : F) → SameCore does c d × (g ≡ f)
    → DoesHook does (events g) d hook e × (h ≡ g) → DoesHook does (events f) c hook e × (h ≡ f)
counted_does does events c d hook e f g h same did =
    (subst (λ x. DoesHook does (events x) c hook e) same.1 (same_core_does does (events g) c d hook e same.0 did.0), did.1 ∙ same.1)

-- but for events a layer does alike whatever it counts
abbrev pub IsNoEvent : Hook → Type 0
IsNoEvent (OnEvent reached lane at callsite values) = ⊥
IsNoEvent (OnNewSpan id lane at parent current callsite values) = Unit {0}
IsNoEvent (OnRecord id at callsite values) = Unit {0}
IsNoEvent (OnFollows id from at) = Unit {0}
IsNoEvent (OnEnter id at before later) = Unit {0}
IsNoEvent (OnExit id at before later) = Unit {0}
IsNoEvent (OnClose id at) = Unit {0}

step_any : {T : Type 0} (does : T → TracerCall → T → Type 0) (events others : EventEffect) (c : Core T) (hook : Hook) (d : Core T) → IsNoEvent hook → Step does events c hook d → Step does others c hook d
step_any does events others c (OnEvent reached lane at callsite values) d no_event h = absurd no_event
step_any does events others c (OnNewSpan id lane at parent current callsite values) d no_event h = h
step_any does events others c (OnRecord id at callsite values) d no_event h = h
step_any does events others c (OnFollows id from at) d no_event h = h
step_any does events others c (OnEnter id at before later) d no_event h = h
step_any does events others c (OnExit id at before later) d no_event h = h
step_any does events others c (OnClose id at) d no_event h = h

pub hook_any : {T : Type 0} (does : T → TracerCall → T → Type 0) (events others : EventEffect) (c : Core T) (hook : Hook) (d : Core T) → IsNoEvent hook → DoesHook does events c hook d → DoesHook does others c hook d
hook_any does events others c hook d no_event h = record { prepared = h.prepared; room = h.room; step = step_any does events others h.prepared hook d no_event h.step }
