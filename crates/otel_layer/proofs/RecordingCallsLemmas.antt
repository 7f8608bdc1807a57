-- What the calls of a stack make of what its layer over a recorder keeps.
use Rattle.std.proofs.Common.{◌≡◌, ◌<◌, ℕ, List, [], ◌∷◌, ◌++◌, length, Bool, true, false, Option, Some, None, slice_get, refl, sym, ap, subst, ◌∙◌, inl, inr, arith, ◌==◌, if◌then◌else◌, fold}
use Rattle.std.specs.Option.{option_map_or}
use Rattle.otel_layer.proofs.Common.{cases_eq, cases_Bool, cond-true, cond-false, Context, RecorderValue, has_number, without_number, empty_context, Lane, Hook, Spans, parent_to_release, span_at, DoesBoth, InStep, seen_before, seen_later, last_passing, Core, CoreWithRoom, is_token, seen_in, PartCall, Applies, GivesContext, Touches, TouchesFirst, TouchesNone, IfKnown, SameCore, DoesHook, all_events_effect, data_at, knows_span, own_context_or, Recording, recording_of, no_recording, with_start_if_some, id_if_on, with_entry, with_exit, with_close, AttachesOwnContext, Detaches, Enters, Exits, ChangesNothing, RecordsCall, RecordsChain, RecordsPart, layer_recording}
use Rattle.std.proofs.lemmas.Bool.{true≢false, eq-eqb, ne_eqb}
use Rattle.otel_base.specs.Recorder.{DoesRecorder as RecordsBy}
use Rattle.trace_base.specs.Gate.{WorldValue}
use Rattle.trace_base.specs.Calls.{SubscriberCall, NewSpan, Records, Follows, Event, Enter, Exit, CloneSpan, TryClose, spans_after_call}
use Rattle.trace_base.specs.Conditions.{Allowed}
use Rattle.span_registry.specs.declared.layered.Layered.{Layered}
use Rattle.span_registry.specs.Layering.{both_allowed, both_shows}
use Rattle.span_registry.specs.Registering.{RegistryValue, DoesRegistry}
use Rattle.span_handles.specs.Worlds.{Replaced, read_subscriber, Chain, ended, closes, all_released, releases, closed_in, no_spans}
use Rattle.otel_layer.proofs.FoundSpanLemmas.{told_at_next}
use Rattle.otel_layer.proofs.RecordingHooksLemmas.{room_recording, start_recording, hook_recording}

-- ---- a lane with the same id and contexts

attaches_from : (active : Bool) (own : Context) (between before later : Lane) (attached : Option ℕ) → between.contexts.live ≡ before.contexts.live → AttachesOwnContext active own between later attached → AttachesOwnContext active own before later attached
attaches_from true own between before later attached e h = record {
  number = h.number;
  is = h.is;
  fresh = ap (has_number h.number) (sym e) ∙ h.fresh;
  live = h.live ∙ ap (λ (live : List (ℕ × Context)). live ++ (h.number, own) ∷ []) e;
}
attaches_from false own between before later attached e h = (h.0 ∙ e, h.1)

detaches_from : (o : Option ℕ) (between before later : Lane) → between.contexts.live ≡ before.contexts.live → Detaches o between later → Detaches o before later
detaches_from None between before later e h = h ∙ e
detaches_from (Some number) between before later e h = h ∙ ap (without_number number) e

enters_from : (r : Recording) (id at : ℕ) (between before later : Lane) (t : Recording) → between.id ≡ before.id → between.contexts.live ≡ before.contexts.live → Enters r id at between later t → Enters r id at before later t
enters_from r id at between before later t i e h = record {
  attached = h.attached;
  lane = attaches_from r.settings.activation (own_context_or empty_context (data_at id (with_start_if_some (id_if_on r.settings.activation id) at r).spans)) between before later h.attached e h.lane;
  is = h.is ∙ ap (λ (lane : ℕ). with_entry id lane at h.attached r) i;
}

exits_from : (r : Recording) (id at : ℕ) (between before later : Lane) (t : Recording) → between.id ≡ before.id → between.contexts.live ≡ before.contexts.live → Exits r id at between later t → Exits r id at before later t
exits_from r id at between before later t i e h = record {
  token = h.token;
  last = subst (λ (lane : ℕ). last_passing (is_token lane id) r.tokens ≡ Some h.token) i h.last;
  lane = detaches_from (if r.settings.activation then h.token.attached else None) between before later e h.lane;
  is = h.is ∙ ap (λ (lane : ℕ). with_exit id lane at r) i;
}

-- ---- the layer straight over the registry

abbrev outer : CoreWithRoom RecorderValue → Hook → CoreWithRoom RecorderValue → Type 0
outer l hook m = DoesHook RecordsBy all_events_effect l.core hook m.core

abbrev same_layer : CoreWithRoom RecorderValue → CoreWithRoom RecorderValue → Type 0
same_layer l m = SameCore RecordsBy l.core m.core

abbrev spans_of : RegistryValue → Spans
spans_of s = s.spans

abbrev active : CoreWithRoom RecorderValue → Bool
active l = l.core.settings.activation

abbrev Does : RegistryValue → CoreWithRoom RecorderValue → SubscriberCall → RegistryValue → CoreWithRoom RecorderValue → Type 0
Does s l call t m = DoesBoth spans_of DoesRegistry outer same_layer active s l call t m

both_recording : (s : RegistryValue) (l : CoreWithRoom RecorderValue) (call : SubscriberCall) (t : RegistryValue) (m : CoreWithRoom RecorderValue) → Does s l call t m → RecordsCall s.spans (recording_of l.core) call (recording_of m.core)
both_recording s l (NewSpan lane at parent site callsite values) t m d = hook_recording _ _ _ d.1
both_recording s l (Records id at callsite values) t m d = hook_recording _ _ _ d.1
both_recording s l (Follows id from at) t m d = hook_recording _ _ _ d.1
both_recording s l (Event lane at parent site callsite values) t m d = hook_recording _ _ _ d.1
both_recording s l (Enter id at before later) t m d =
    let h = hook_recording _ _ _ d.second in
    let i = ap (λ (x : Lane). x.id) d.first.lane ∙ d.room.keeps.id in
    let e = ap (λ (x : Lane). x.contexts.live) d.first.lane ∙ d.room.live in
    let r = recording_of l.core in
    record {
      is_known = λ known. enters_from r id at d.between before later (recording_of m.core) i e (h.is_known known);
      isnt = λ unknown. (let n = h.isnt unknown in (n.0, n.1 ∙ e));
    }
both_recording s l (Exit id at before later) t m d =
    let h = hook_recording _ _ _ d.second in
    let i = ap (λ (x : Lane). x.id) d.first.lane in
    let e = ap (λ (x : Lane). x.contexts.live) d.first.lane in
    let r = recording_of l.core in
    record {
      is_known = λ known. exits_from r id at d.between before later (recording_of m.core) i e (h.is_known known);
      isnt = λ unknown. (let n = h.isnt unknown in (n.0, n.1 ∙ e));
    }
both_recording s l (CloneSpan id) t m d = room_recording l.core m.core d.1
both_recording s l (TryClose id at) t m d =
    let holds = (span_at s.spans.made id).holds in
    let r = recording_of l.core in
    elim (cases_eq holds 1) [
      | inl last ↦ hook_recording _ _ _ (d.closed last) ∙ sym (cond-true {A = Recording} (holds == 1) (with_close id at r) r (eq-eqb holds 1 last))
      | inr several ↦ room_recording l.core m.core (d.open_still several) ∙ sym (cond-false {A = Recording} (holds == 1) (with_close id at r) r (ne_eqb holds 1 several))
    ]

-- ---- worlds

module _ {S : Type 0} (spans : S → Spans) (does : S → SubscriberCall → S → Type 0) (read : S → Recording) (reads : (s : S) (call : SubscriberCall) (t : S) → does s call t → RecordsCall (spans s) (read s) call (read t)) where
  pub call_recording : (old new : WorldValue S) (dispatch : ℕ) (call : SubscriberCall) → Replaced (λ s t. does s call t) old new dispatch
      → RecordsCall (read_subscriber spans no_spans old dispatch) (read_subscriber read no_recording old dispatch) call (read_subscriber read no_recording new dispatch)
  call_recording old new dispatch call r =
      let R : S → S → Type 0 = λ s t. does s call t in
      rw (seen_before R old new dispatch r spans no_spans, seen_before R old new dispatch r read no_recording, seen_later R old new dispatch r read no_recording) (reads r.before call r.later r.did)

  module _ (allowed : (s : S) (call : SubscriberCall) (t : S) → does s call t → Allowed (spans s) call) (shows : (s : S) (call : SubscriberCall) (t : S) → does s call t → spans t ≡ spans_after_call (spans s) call) (at : ℕ) where
    chained : (next : Option ℕ) (s t : S) → Chain spans does at next s t → (x : Spans) → x ≡ spans s → RecordsChain at next x (spans t) (read s) (read t)
    chained _ _ _ (ended s) x is = subst (λ (z : Spans). RecordsChain at None z (spans s) (read s) (read s)) (sym is) (record { chain = all_released (spans s); is = refl })
    chained _ _ _ (closes id s m t did rest) x is =
        subst (λ (z : Spans). RecordsChain at (Some id) z (spans t) (read s) (read t)) (sym is)
        (let next = parent_to_release (spans s).made id in
        let x' = spans_after_call (spans s) (TryClose id at) in
        let more = chained next m t rest x' (sym (shows s (TryClose id at) m did)) in
        let says = reads s (TryClose id at) m did in
        let holds = (span_at (spans s).made id).holds in
        let those = closed_in next x' (spans t) more.chain in
        let close : Recording → ℕ → Recording = λ r n. with_close n at r in
        record {
          chain = releases id at (spans s) (spans t) (allowed s (TryClose id at) m did) more.chain;
          is = elim (cases_eq holds 1) [
            | inl last ↦ (
                let now = says ∙ cond-true {A = Recording} (holds == 1) (with_close id at (read s)) (read s) (eq-eqb holds 1 last) in
                more.is ∙ ap (λ (l : Recording). fold close l those) now ∙ ap (λ (ids : List ℕ). fold close (read s) ids) (sym (cond-true {A = List ℕ} (holds == 1) (id ∷ those) those (eq-eqb holds 1 last))))
            | inr several ↦ (
                let now = says ∙ cond-false {A = Recording} (holds == 1) (with_close id at (read s)) (read s) (ne_eqb holds 1 several) in
                more.is ∙ ap (λ (l : Recording). fold close l those) now ∙ ap (λ (ids : List ℕ). fold close (read s) ids) (sym (cond-false {A = List ℕ} (holds == 1) (id ∷ those) those (ne_eqb holds 1 several))))
          ];
        })

    pub chain_recording : (old new : WorldValue S) (dispatch id : ℕ) → Replaced (λ s t. Chain spans does at (Some id) s t) old new dispatch
        → RecordsChain at (Some id) (read_subscriber spans no_spans old dispatch) (read_subscriber spans no_spans new dispatch) (read_subscriber read no_recording old dispatch) (read_subscriber read no_recording new dispatch)
    chain_recording old new dispatch id r =
        let R : S → S → Type 0 = λ s t. Chain spans does at (Some id) s t in
        rw (seen_before R old new dispatch r spans no_spans, seen_later R old new dispatch r spans no_spans, seen_before R old new dispatch r read no_recording, seen_later R old new dispatch r read no_recording)
        (chained (Some id) r.before r.later r.did (spans r.before) refl)

pub layered_recording : (s : Layered (CoreWithRoom RecorderValue) RegistryValue) (call : SubscriberCall) (t : Layered (CoreWithRoom RecorderValue) RegistryValue) → Does s.inner s.layer call t.inner t.layer → RecordsCall s.inner.spans (layer_recording s) call (layer_recording t)
layered_recording s call t d = both_recording s.inner s.layer call t.inner t.layer d

abbrev Stack : Type 0
Stack = Layered (CoreWithRoom RecorderValue) RegistryValue

abbrev stack_spans : Stack → Spans
stack_spans s = s.inner.spans

abbrev StackDoes : Stack → SubscriberCall → Stack → Type 0
StackDoes s call t = Does s.inner s.layer call t.inner t.layer

stack_allowed : (s : Stack) (call : SubscriberCall) (t : Stack) → StackDoes s call t → Allowed (stack_spans s) call
stack_allowed s call t d =
    both_allowed spans_of DoesRegistry outer same_layer active s.inner t.inner s.layer t.layer call (λ c h. h.allowed) d

stack_shows : (s : Stack) (call : SubscriberCall) (t : Stack) → StackDoes s call t → stack_spans t ≡ spans_after_call (stack_spans s) call
stack_shows s call t d =
    both_shows spans_of DoesRegistry outer same_layer active s.inner t.inner s.layer t.layer call (λ c h. h.shows) d

pub stack_chain : (at : ℕ) (old new : WorldValue Stack) (dispatch id : ℕ) → Replaced (λ s t. Chain stack_spans StackDoes at (Some id) s t) old new dispatch
    → RecordsChain at (Some id) (read_subscriber stack_spans no_spans old dispatch) (read_subscriber stack_spans no_spans new dispatch) (read_subscriber layer_recording no_recording old dispatch) (read_subscriber layer_recording no_recording new dispatch)
stack_chain at old new dispatch id r = chain_recording stack_spans StackDoes layer_recording layered_recording stack_allowed stack_shows at old new dispatch id r

-- room is taken
pub same_recording : (old new : WorldValue Stack) (dispatch : ℕ) → Replaced (λ s t. (t.inner ≡ s.inner) × same_layer s.layer t.layer) old new dispatch
    → read_subscriber layer_recording no_recording new dispatch ≡ read_subscriber layer_recording no_recording old dispatch
same_recording old new dispatch r =
    let R : Stack → Stack → Type 0 = λ s t. (t.inner ≡ s.inner) × same_layer s.layer t.layer in
    seen_later R old new dispatch r layer_recording no_recording ∙ room_recording r.before.layer.core r.later.layer.core r.did.1 ∙ sym (seen_before R old new dispatch r layer_recording no_recording)

-- no span is known yet under the id of the next one
pub next_untold : (world : WorldValue Stack) (dispatch : ℕ) (s : Stack) → slice_get world.subscribers dispatch ≡ Some s → InStep s.inner.spans (seen_in s.layer.core)
    → data_at (length (read_subscriber stack_spans no_spans world dispatch).made) (read_subscriber layer_recording no_recording world dispatch).spans ≡ None
next_untold world dispatch s there step =
    let spans = ap (λ (o : Option Stack). option_map_or stack_spans o no_spans) there in
    let own = ap (λ (o : Option Stack). option_map_or layer_recording o no_recording) there in
    rw (spans, own) (told_at_next (length s.inner.spans.made) s.layer.core.spans (step.made (length s.inner.spans.made)))

-- a call from outside
part_recording : (c : Core RecorderValue) (call : PartCall) (d : Core RecorderValue) → Touches RecordsBy c call d → RecordsPart (recording_of c) call (recording_of d)
part_recording c (Applies id at op answer) d h = (h.1, ap recording_of h.2)
part_recording c (GivesContext id at answer) d h = (start_recording id at c d h.0, h.1)

abbrev StackTouches : Stack → PartCall → Stack → Type 0
StackTouches s call t = TouchesFirst true (λ (l : CoreWithRoom RecorderValue) (c : PartCall) (m : CoreWithRoom RecorderValue). Touches RecordsBy l.core c m.core) (λ (x : RegistryValue) (c : PartCall) (y : RegistryValue). TouchesNone x c y) s.layer s.inner call t.layer t.inner

pub asks_recording : (old new : WorldValue Stack) (dispatch : ℕ) (call : PartCall) → Replaced (λ s t. StackTouches s call t) old new dispatch
    → RecordsPart (read_subscriber layer_recording no_recording old dispatch) call (read_subscriber layer_recording no_recording new dispatch)
asks_recording old new dispatch call r =
    let R : Stack → Stack → Type 0 = λ s t. StackTouches s call t in
    rw (seen_before R old new dispatch r layer_recording no_recording, seen_later R old new dispatch r layer_recording no_recording) (part_recording r.before.layer.core call r.later.layer.core r.did.0)
