-- What calls on the span of a scope keep, whatever their kind.
use Rattle.std.proofs.Common.{◌≡◌, ℕ, ◌<◌, List, [], ◌∷◌, ◌++◌, length, Bool, Option, None, false, Ok, Err, refl, sym, ap, subst, ◌∙◌, arith, map, ◌==◌, ◌≢◌}
use Rattle.std.proofs.lemmas.Bool.{true≢false}
use Rattle.span_script.proofs.Common.{Lane, WorldValue, Spans, span_at, SubscriberCall, TracksAttached, CallKeepsLanes, kept_in, Has, Reply, Refusal, Token, list_any, data_at, Recording, AttachGuard, Setup, Scope, Attached, Effect, Tables, after_effect, recording_after, Resolved, effect_of_call, Views, PipelineState, LaneValue, StandsFor, RecordingFits, FilteringFits, AllContextsFit, LanesFit, PipelineInvariant, IsServed, state_of, lane_value, Parts, is_for_memory, IsRefusal, ServesResolved, Serves, Measure, measures_of_call, AddsMeasures, aside_in}
use Rattle.span_script.specs.declared.request.Call.{Call}
use Rattle.span_script.specs.Fits.{Fits}
use Rattle.span_script.specs.calls.Refusals.{takes_no_memory}
use Rattle.span_script.proofs.filter.CounterLemmas.{adds_same, measured}
use Rattle.span_script.proofs.steps.KnownSpansLemmas.{still_known}
use Rattle.span_script.proofs.steps.RecordingLemmas.{recording_step}
use Rattle.span_script.proofs.filter.FilterLemmas.{Hears, filtering_step}
use Rattle.span_script.proofs.steps.CallsLemmas.{ShownOn}
use Rattle.span_script.specs.declared.reply.Refusal.TheVariants as refusals

-- what is said of the fields is said of the value that they make
pub by_view : (at place : ℕ) (request : Call) (then : PipelineState) (answer : Reply) (view k : PipelineState) → view ≡ k → ((t : Tables) → StandsFor view t → IsServed (effect_of_call view.setup t at place request) t view then answer)
    → Serves k at place request (Ok answer) then
by_view at place request then answer view k is serves = record {
  ok = subst (λ (x : PipelineState). (t : Tables) → StandsFor x t → IsServed (effect_of_call x.setup t at place request) t x then answer) is serves;
  refused = λ t stands. tt;
  err = tt;
  room = λ none wants. cc wants;
}

-- a refusal is served where it is the first that applies
pub serves_refusal : (resolved : Tables → Resolved) (takes_none : Bool) (old new : PipelineState) (given : Refusal) → ((t : Tables) → StandsFor old t → resolved t ≡ Err given) → new ≡ old → is_for_memory given ≡ false
    → ServesResolved resolved takes_none old (Err given) new
serves_refusal resolved takes_none old new given refuses same named = record {
  ok = λ t stands. tt;
  refused = λ t stands no. refuses t stands;
  err = same;
  room = λ none wants. (let memory : given ≡ refusals.Memory = cc wants in absurd (true≢false (sym (ap is_for_memory memory) ∙ named)));
}

pub by_view_refused : (at place : ℕ) (request : Call) (given : Refusal) (view k : PipelineState) → view ≡ k → ((t : Tables) → StandsFor view t → effect_of_call view.setup t at place request ≡ Err given)
    → (t : Tables) → StandsFor k t → effect_of_call k.setup t at place request ≡ Err given
by_view_refused at place request given view k is refuses = subst (λ (x : PipelineState). (t : Tables) → StandsFor x t → effect_of_call x.setup t at place request ≡ Err given) is refuses

-- and so is any other, and the want of memory, of a call that takes some
pub by_view_error : (at place : ℕ) (request : Call) (then : PipelineState) (given : Refusal) (view k : PipelineState) → view ≡ k → takes_no_memory request ≡ false → ((t : Tables) → StandsFor view t → IsRefusal (effect_of_call view.setup t at place request) given) → then ≡ view
    → Serves k at place request (Err given) then
by_view_error at place request then given view k is takes refuses same = record {
  ok = λ t stands. tt;
  refused = subst (λ (x : PipelineState). (t : Tables) → StandsFor x t → IsRefusal (effect_of_call x.setup t at place request) given) is refuses;
  err = same ∙ is;
  room = λ none. absurd (true≢false (sym none ∙ takes));
}

-- what the lanes' contexts have to fit
abbrev pub AllFit : PipelineState → (ℕ → List Attached) → Type 0
AllFit k contexts = AllContextsFit k.setup.layer.activation k.lanes k.recording.tokens k.contexts.attaches contexts

-- a request is served where its effect makes what is kept
pub serve_with : (k next : PipelineState) (t : Tables) (e : Effect) (resolved : Resolved) (answer : Reply) → StandsFor k t → resolved ≡ Ok e → answer ≡ e.reply → next.setup ≡ k.setup → (toks : List Token)
    → next.recording ≡ record (recording_after (length t.spans) e k.recording) { tokens = toks } → Fits next (after_effect t e) → ((s : ℕ) → 0 < (span_at next.spans.made s).holds → data_at s next.recording.spans ≢ None) → AllFit next (after_effect t e).contexts → FilteringFits next (after_effect t e) → next.measures ≡ k.measures ++ e.measures → IsServed resolved t k next answer
serve_with k next t e resolved answer stands is reply_is setup toks recorded fits known attached filtering measured =
    let step = recording_step k.recording next.recording t e stands.recording.recorded toks recorded in
    record { effect = e; is = is; reply_is = reply_is; setup = setup; records = step.finished; measures = measured; stands = record { fits = fits; recording = record { recorded = step.open_is; known = known; attached = attached }; filtering = filtering } }

-- where no other filter is put in force
pub serve : (k next : PipelineState) (t : Tables) (e : Effect) (resolved : Resolved) (answer : Reply) → StandsFor k t → resolved ≡ Ok e → answer ≡ e.reply → next.setup ≡ k.setup → (toks : List Token)
    → next.recording ≡ record (recording_after (length t.spans) e k.recording) { tokens = toks } → Fits next (after_effect t e) → ((s : ℕ) → 0 < (span_at next.spans.made s).holds → data_at s next.recording.spans ≢ None) → AllFit next (after_effect t e).contexts → Hears k t e next → IsServed resolved t k next answer
serve k next t e resolved answer stands is reply_is setup toks recorded fits known attached heard =
    serve_with k next t e resolved answer stands is reply_is setup toks recorded fits known attached (filtering_step k next t e stands.fits.made.count fits.made.count stands.filtering setup heard) (measured k next e.measures heard.aside)

-- where no span closes and none is made, those with holds are still known
pub known_still : (k next : PipelineState) (t : Tables) (e : Effect) (toks : List Token) → next.recording ≡ record (recording_after (length t.spans) e k.recording) { tokens = toks } → RecordingFits k t → (s : ℕ) → list_any (λ x. x == s) e.closes ≡ false
    → 0 < (span_at k.spans.made s).holds → data_at s next.recording.spans ≢ None
known_still k next t e toks is fit s out live none = still_known (length t.spans) s e k.recording out (fit.known s live) (ap (λ (r : Recording). data_at s r.spans) (sym is) ∙ none)

-- where neither lanes nor open entries nor guards of attaches changed
pub all_same : (k next : PipelineState) (contexts : ℕ → List Attached) → next.setup ≡ k.setup → next.contexts.attaches ≡ k.contexts.attaches → next.lanes ≡ k.lanes → next.recording.tokens ≡ k.recording.tokens → AllFit k contexts → AllFit next contexts
all_same k next contexts setup attaches lanes tokens fit =
    subst (λ (x : Setup). AllContextsFit x.layer.activation next.lanes next.recording.tokens next.contexts.attaches contexts) (sym setup)
    (subst (λ (xs : List (Option AttachGuard)). AllContextsFit k.setup.layer.activation next.lanes next.recording.tokens xs contexts) (sym attaches)
    (subst (λ (ls : List LaneValue). AllContextsFit k.setup.layer.activation ls next.recording.tokens k.contexts.attaches contexts) (sym lanes)
    (subst (λ (ts : List Token). AllContextsFit k.setup.layer.activation k.lanes ts k.contexts.attaches contexts) (sym tokens) fit)))

-- what is kept besides what fits the tables
pub kept_served : {S : Type 0} (spans : S → Spans) (views : Views S) (kept : S → ℕ → ℕ → ℕ) (is_whole : S → Type 0) (parts next : Parts S) (inv : PipelineInvariant spans views kept is_whole parts) (resolved : Resolved) (answer : Reply)
    → IsServed resolved inv.tables (state_of spans views parts) (state_of spans views next) answer → next.dispatch ≡ parts.dispatch → length next.world.subscribers ≡ length parts.world.subscribers
    → (Has is_whole parts.world parts.dispatch → Has is_whole next.world parts.dispatch) → LanesFit parts.dispatch (kept_in kept next.world parts.dispatch) (map lane_value next.lanes) → PipelineInvariant spans views kept is_whole next
kept_served spans views kept is_whole parts next inv resolved answer served dispatch count whole lanes = record {
  there = (let b = inv.there in omega (arith, b, dispatch, count));
  alone = count ∙ inv.alone;
  whole = subst (λ (d : ℕ). Has is_whole next.world d) (sym dispatch) (whole inv.whole);
  lanes = subst (λ (d : ℕ). LanesFit d (kept_in kept next.world d) (map lane_value next.lanes)) (sym dispatch) lanes;
  tables = after_effect inv.tables served.effect;
  stands = served.stands;
}

module _ {S : Type 0} (spans : S → Spans) (views : Views S) (attaches : S → Bool) (kept : S → ℕ → ℕ → ℕ) (is_whole : S → Type 0) (parts : Parts S) (new : WorldValue S) where
  -- what one call on a scope keeps
  pub call_count : (line : Scope) (call : ℕ → SubscriberCall) → ShownOn spans views attaches kept is_whole parts.world new parts.dispatch line call → length new.subscribers ≡ length parts.world.subscribers
  call_count [] call same = ap (λ (w : WorldValue S). length w.subscribers) same
  call_count (s ∷ up) call shown = shown.0.count

  pub call_sites : (line : Scope) (call : ℕ → SubscriberCall) → ShownOn spans views attaches kept is_whole parts.world new parts.dispatch line call → new.sites ≡ parts.world.sites
  call_sites [] call same = ap (λ (w : WorldValue S). w.sites) same
  call_sites (s ∷ up) call shown = shown.1

  pub call_cached : (line : Scope) (call : ℕ → SubscriberCall) → ShownOn spans views attaches kept is_whole parts.world new parts.dispatch line call → new.cached ≡ parts.world.cached
  call_cached [] call same = ap (λ (w : WorldValue S). w.cached) same
  call_cached (s ∷ up) call shown = shown.4

  pub call_aside : (line : Scope) (call : ℕ → SubscriberCall) → ((s : ℕ) → measures_of_call (call s) ≡ []) → ShownOn spans views attaches kept is_whole parts.world new parts.dispatch line call → AddsMeasures (aside_in views parts.world parts.dispatch) (aside_in views new parts.dispatch) []
  call_aside [] call none same = adds_same views parts.world new parts.dispatch same
  call_aside (s ∷ up) call none shown = subst (λ (ms : List Measure). AddsMeasures (aside_in views parts.world parts.dispatch) (aside_in views new parts.dispatch) ms) (none s) shown.5

  pub call_whole : (line : Scope) (call : ℕ → SubscriberCall) → ShownOn spans views attaches kept is_whole parts.world new parts.dispatch line call → Has is_whole parts.world parts.dispatch → Has is_whole new parts.dispatch
  call_whole [] call same has = subst (λ (w : WorldValue S). Has is_whole w parts.dispatch) (sym same) has
  call_whole (s ∷ up) call shown has = shown.0.whole has

  pub call_lanes : (line : Scope) (call : ℕ → SubscriberCall) (before later : Lane) → ((s : ℕ) (b : Bool) (f g : ℕ → ℕ → ℕ) → CallKeepsLanes b f (call s) g → (later.id ≡ before.id) × (later.name ≡ before.name) × (later.default ≡ before.default) × TracksAttached f before later g)
      → (line ≡ [] → later ≡ before) → ShownOn spans views attaches kept is_whole parts.world new parts.dispatch line call
      → (later.id ≡ before.id) × (later.name ≡ before.name) × (later.default ≡ before.default) × TracksAttached (kept_in kept parts.world parts.dispatch) before later (kept_in kept new parts.dispatch)
  call_lanes [] call before later step none same = (
    ap (λ (l : Lane). l.id) (none refl),
    ap (λ (l : Lane). l.name) (none refl),
    ap (λ (l : Lane). l.default) (none refl),
    subst (λ (w : WorldValue S). TracksAttached (kept_in kept parts.world parts.dispatch) before later (kept_in kept w parts.dispatch)) (sym same) (subst (λ (l : Lane). TracksAttached (kept_in kept parts.world parts.dispatch) before l (kept_in kept parts.world parts.dispatch)) (sym (none refl)) (λ l n. refl)),
  )
  call_lanes (s ∷ up) call before later step none shown = step s _ _ _ shown.0.lanes
