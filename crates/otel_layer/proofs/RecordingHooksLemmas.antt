-- What the hooks of a layer over a recorder make of what it keeps.
use Rattle.std.proofs.Common.{◌≡◌, ℕ, suc, zero, ◌+◌, List, [], ◌∷◌, ◌++◌, Bool, true, false, Option, Some, None, refl, sym, ap, subst, ◌∙◌, inl, inr, if◌then◌else◌, is_some}
use Rattle.otel_layer.proofs.Common.{remove_entry, cases_Bool, Context, SpanContext, Record, ids_of, RecorderValue, recorder_ids, without_number, empty_context, Lane, Hook, OnNewSpan, OnRecord, OnFollows, OnEvent, OnEnter, OnExit, OnClose, SpanData, record_of, Core, Reserves, SameCore, StartsIf, StartsSpan, StartsIfSome, parent_source, MakesSpan, FollowsSpan, EntersLane, DetachesOwnContext, EntersSpan, ExitsSpan, ClosesSpan, IfKnown, all_events_effect, Step, DoesHook, data_at, knows_span, with_op, start_context, context_unless_started, own_context_or, is_id, Recording, recording_of, with_applied, with_start_under, with_start, with_start_if_some, with_span_under, with_new_span, with_started_link, with_follow, id_if_on, with_entry_op, with_entry, with_span_finished, with_close_of_started, with_close, AttachesOwnContext, Detaches, Enters, Exits, ChangesNothing, RecordsHook}
use Rattle.std.proofs.lemmas.Map.Made.{is_some-lookup}
use Rattle.std.proofs.lemmas.Bool.{true≢false}
use Rattle.otel_base.specs.Recorder.{DoesRecorder as RecordsBy}
use Rattle.otel_state.specs.declared.op.Op.TheVariants as ops

-- ---- room

reserves_finished : (n : ℕ) (s t : RecorderValue) → Reserves RecordsBy n s t → (t.finished ≡ s.finished) × (t.started ≡ s.started)
reserves_finished zero s t h = (ap (λ (r : RecorderValue). r.finished) h, ap (λ (r : RecorderValue). r.started) h)
reserves_finished (suc n) s t h =
    let rest = reserves_finished n h.0 t h.2 in
    (rest.0 ∙ ap (λ (r : RecorderValue). r.finished) h.1, rest.1 ∙ ap (λ (r : RecorderValue). r.started) h.1)

pub room_recording : (c d : Core RecorderValue) → SameCore RecordsBy c d → recording_of d ≡ recording_of c
room_recording c d h =
    let t = reserves_finished h.count c.tracer d.tracer h.reserves in
    ap recording_of h.rest
    ∙ ap (λ (f : List Record). let x : Recording = record (recording_of c) { started = d.tracer.started; finished = f } in x) t.0
    ∙ ap (λ (n : ℕ). let x : Recording = record (recording_of c) { started = n } in x) t.1

-- ---- starts

if_recording : (under : Option Context) (id at : ℕ) (c d : Core RecorderValue) → StartsIf RecordsBy under id at c d → recording_of d ≡ with_start_under under id at (recording_of c)
if_recording None id at c d h = ap recording_of h
if_recording (Some under) id at c d h =
    ap recording_of h.2
    ∙ ap (λ (t : RecorderValue). let x : Recording = record (recording_of c) { started = t.started; finished = t.finished; spans = with_op id at (ops.Start h.0) c.spans } in x) h.1.1
    ∙ ap (λ (own : SpanContext). let x : Recording = record (recording_of c) { started = c.tracer.started + 1; spans = with_op id at (ops.Start own) c.spans } in x) h.1.0

pub start_recording : (id at : ℕ) (c d : Core RecorderValue) → StartsSpan RecordsBy id at c d → recording_of d ≡ with_start id at (recording_of c)
start_recording id at c d h = if_recording (start_context (data_at id c.spans)) id at c d h

starts_recording : (o : Option ℕ) (at : ℕ) (c d : Core RecorderValue) → StartsIfSome RecordsBy o at c d → recording_of d ≡ with_start_if_some o at (recording_of c)
starts_recording None at c d h = ap recording_of h
starts_recording (Some id) at c d h = start_recording id at c d h

-- ---- lanes

attaches : (active : Bool) (own : Context) (before later : Lane) (attached : Option ℕ) → EntersLane active own before later attached → AttachesOwnContext active own before later attached
attaches true own before later attached h = record { number = h.number; is = h.is; fresh = h.fresh; live = h.live }
attaches false own before later attached h = (ap (λ (l : Lane). l.contexts.live) h.0, h.1)

detaches : (o : Option ℕ) (before later : Lane) → DetachesOwnContext o before later → Detaches o before later
detaches None before later h = ap (λ (l : Lane). l.contexts.live) h
detaches (Some number) before later h = h.live

enters : (c d : Core RecorderValue) (id at : ℕ) (before later : Lane) → EntersSpan RecordsBy c id at before later d → Enters (recording_of c) id at before later (recording_of d)
enters c d id at before later h =
    let active = c.settings.activation in
    let between = starts_recording (id_if_on active id) at c h.between h.starts in
    record {
      attached = h.attached;
      lane = subst (λ (r : Recording). AttachesOwnContext active (own_context_or empty_context (data_at id r.spans)) before later h.attached) between
          (attaches active (own_context_or empty_context (data_at id h.between.spans)) before later h.attached h.lane);
      is = ap recording_of h.rest ∙ ap (λ (r : Recording). with_entry_op id before.id at h.attached r) between;
    }

exits : (c d : Core RecorderValue) (id at : ℕ) (before later : Lane) → ExitsSpan c id at before later d → Exits (recording_of c) id at before later (recording_of d)
exits c d id at before later h = record {
  token = h.token;
  last = h.last;
  lane = detaches (if c.settings.activation then h.token.attached else None) before later h.leaves;
  is = ap recording_of h.rest;
}

stays : (c d : Core RecorderValue) (before later : Lane) → (d ≡ c) × (later ≡ before) → ChangesNothing (recording_of c) before later (recording_of d)
stays c d before later h = (ap recording_of h.0, ap (λ (l : Lane). l.contexts.live) h.1)

-- ---- a close

none_of : (o : Option SpanData) → is_some o ≡ false → o ≡ None
none_of None h = refl
none_of (Some span_data) h = absurd (true≢false h)

pub untold : (id : ℕ) (spans : List (ℕ × SpanData)) → knows_span id spans ≡ false → data_at id spans ≡ None
untold id spans h = none_of (data_at id spans) (is_some-lookup (is_id id) spans ∙ h)

closes_known : (c d : Core RecorderValue) (id at : ℕ) → ClosesSpan RecordsBy c id at d → recording_of d ≡ with_close id at (recording_of c)
closes_known c d id at h =
    let b = h.between in
    ap recording_of h.rest
    ∙ ap (λ (t : RecorderValue). let x : Recording = record (recording_of b) { spans = remove_entry (is_id id) b.spans; started = t.started; finished = t.finished } in x) h.finishes.1
    ∙ ap (λ (o : Option SpanData). with_span_finished o id at (recording_of b)) (sym h.is)
    ∙ ap (with_close_of_started id at) (start_recording id at c b h.starts)

closes_unknown : (o : Option SpanData) (r : Recording) (id at : ℕ) → o ≡ data_at id r.spans → o ≡ None → with_close id at r ≡ r
closes_unknown o r id at is none =
    let gone = sym is ∙ none in
    ap (λ (t : Option SpanData). with_close_of_started id at (with_start_under (start_context t) id at r)) gone ∙ ap (λ (t : Option SpanData). with_span_finished t id at r) gone

-- ---- all hooks

step_recording : (c : Core RecorderValue) (hook : Hook) (d : Core RecorderValue) → Step RecordsBy all_events_effect c hook d → RecordsHook (recording_of c) hook (recording_of d)
step_recording c (OnNewSpan id lane at parent current callsite values) d h =
    let source = parent_source c.settings.activation parent current in
    starts_recording (id_if_on c.settings.eager id) at h.added d h.begins
    ∙ ap (with_start_if_some (id_if_on c.settings.eager id) at) (ap recording_of h.rest ∙ ap (with_span_under source id lane at parent callsite values c.settings c.counting) (starts_recording source at c h.between h.starts))
step_recording c (OnRecord id at callsite values) d h = ap recording_of h
step_recording c (OnFollows id from at) d h = ap recording_of h.rest ∙ ap (with_started_link id from at) (start_recording from at c h.between h.starts)
step_recording c (OnEvent None lane at callsite values) d h = ap recording_of h
step_recording c (OnEvent (Some id) lane at callsite values) d h = ap recording_of h
step_recording c (OnEnter id at before later) d h = record {
  is_known = λ known. enters c d id at before later (h.is_known known);
  isnt = λ unknown. stays c d before later (h.isnt unknown);
}
step_recording c (OnExit id at before later) d h = record {
  is_known = λ known. exits c d id at before later (h.is_known known);
  isnt = λ unknown. stays c d before later (h.isnt unknown);
}
step_recording c (OnClose id at) d h =
    elim (cases_Bool (knows_span id c.spans)) [
      | inl known ↦ closes_known c d id at (h.is_known known)
      | inr unknown ↦ ap recording_of (h.isnt unknown) ∙ sym (closes_unknown (data_at id c.spans) (recording_of c) id at refl (untold id c.spans unknown))
    ]

pub hook_recording : (c : Core RecorderValue) (hook : Hook) (d : Core RecorderValue) → DoesHook RecordsBy all_events_effect c hook d → RecordsHook (recording_of c) hook (recording_of d)
hook_recording c hook d h =
    subst (λ (r : Recording). RecordsHook r hook (recording_of d)) (room_recording c h.prepared h.room) (step_recording h.prepared hook d h.step)
