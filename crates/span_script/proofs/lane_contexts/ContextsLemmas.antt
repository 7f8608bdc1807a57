-- Contexts that are made, served.
use Rattle.std.proofs.Common.{◌≡◌, ℕ, ◌<◌, List, [], ◌∷◌, ◌++◌, length, Bool, Option, Some, None, Ok, option_map, map, refl, sym, ap, subst, ◌∙◌}
use Rattle.span_script.proofs.Common.{Context, SpanContext, ids_of, empty_context, SpanData, WorldValue, Spans, span_at, Token, data_at, own_context_or, PartCall, GivesContext, own_context_if_known, AsksContext, GivesContextOn, context_or_empty, Recording, no_recording, with_start_if_some, Has, read_subscriber, spans_in, kept_in, Handle, HeldSpan, Scope, Effect, Tables, recording_after, slot_at, span_of_scope, open_part, here_at, Resolved, ◌>>=◌, need, effect_of_call, context_effect, context_of_scope, Views, ContextSlots, PipelineState, state_of, lane_value, lane_place_of, held_by, held_of, StandsFor, LanesFit, PipelineInvariant, IsServed, Parts, AddsMeasures, AsksLaw, aside_in}
use Rattle.span_script.specs.declared.reply.Reply.TheVariants as reply
use Rattle.span_script.specs.declared.reply.What.TheVariants as what
use Rattle.span_script.specs.declared.request.Call.TheVariants as call
use Rattle.span_script.proofs.filter.CounterLemmas.{adds_same}
use Rattle.span_script.proofs.steps.SlotsLemmas.{find, held_slot}
use Rattle.span_script.proofs.steps.StepLemmas.{fits_step, quiet_step}
use Rattle.span_script.proofs.steps.RecordingLemmas.{recorded_settings, recorded_tokens, starts_fold, start_open}
use Rattle.span_script.proofs.filter.FilterLemmas.{heard_none}
use Rattle.span_script.proofs.steps.ServesLemmas.{serve, known_still, all_same, kept_served}

-- the own context of a scope's span, by the open part of what was recorded
pub own_open : (line : Scope) (at : ℕ) (r x : Recording) → open_part r ≡ x → context_of_scope r at line ≡ context_of_scope x at line
own_open [] at r x is = refl
own_open (s ∷ up) at r x is = ap (λ (spans : List (ℕ × SpanData)). own_context_or empty_context (data_at s spans)) (start_open s at r x is)

shown_is : (o : Option SpanData) → context_or_empty (own_context_if_known o) ≡ own_context_or empty_context o
shown_is None = refl
shown_is (Some told) = refl

module _ {S : Type 0} (spans : S → Spans) (views : Views S) (attaches : S → Bool) (kept : S → ℕ → ℕ → ℕ) (is_whole : S → Type 0) (parts : Parts S) (new : WorldValue S)
    (at place number : ℕ) (many : number ≡ length parts.contexts.contexts)
    (inv : PipelineInvariant spans views kept is_whole parts) where
  abbrev now : PipelineState
  now = state_of spans views parts

  abbrev parts_with : ContextSlots → Parts S
  parts_with cs' = record parts { world = new; contexts = cs'; moment = at }

  abbrev then_with : ContextSlots → PipelineState
  then_with cs' = state_of spans views (parts_with cs')

  abbrev r : Recording
  r = read_subscriber views.recording no_recording parts.world parts.dispatch

  abbrev r' : Recording
  r' = read_subscriber views.recording no_recording new parts.dispatch

  -- what a start leaves
  record Starts (o : Option ℕ) : Type 0 where
    spans_same : spans_in spans new parts.dispatch ≡ spans_in spans parts.world parts.dispatch
    sites : new.sites ≡ parts.world.sites
    records : r' ≡ with_start_if_some o at r
    kept_same : kept_in kept new parts.dispatch ≡ kept_in kept parts.world parts.dispatch
    count : length new.subscribers ≡ length parts.world.subscribers
    whole : Has is_whole parts.world parts.dispatch → Has is_whole new parts.dispatch
    filter_same : read_subscriber views.filter None new parts.dispatch ≡ read_subscriber views.filter None parts.world parts.dispatch
    cached_same : new.cached ≡ parts.world.cached
    aside : AddsMeasures (aside_in views parts.world parts.dispatch) (aside_in views new parts.dispatch) []

  unchanged : new ≡ parts.world → Starts None
  unchanged same = record {
    spans_same = ap (λ (w : WorldValue S). spans_in spans w parts.dispatch) same;
    sites = ap (λ (w : WorldValue S). w.sites) same;
    records = ap (λ (w : WorldValue S). read_subscriber views.recording no_recording w parts.dispatch) same;
    kept_same = ap (λ (w : WorldValue S). kept_in kept w parts.dispatch) same;
    count = ap (λ (w : WorldValue S). length w.subscribers) same;
    whole = λ has. subst (λ (w : WorldValue S). Has is_whole w parts.dispatch) (sym same) has;
    filter_same = ap (λ (w : WorldValue S). read_subscriber views.filter None w parts.dispatch) same;
    cached_same = ap (λ (w : WorldValue S). w.cached) same;
    aside = adds_same views parts.world new parts.dispatch same;
  }

  given_served : (t : Tables) → StandsFor now t → (o : Option ℕ) → Starts o → (context : Context) (cs' : ContextSlots) → cs'.contexts ≡ parts.contexts.contexts ++ context ∷ [] → cs'.attaches ≡ parts.contexts.attaches → (resolved : Resolved) → resolved ≡ Ok (context_effect (here_at now.setup t at place) o context)
      → IsServed resolved t now (then_with cs') (reply.Context number (ids_of context))
  given_served t stands o did context cs' made_is attaches_are resolved is =
      let fits = stands.fits in
      let ids = now.setup.ids in
      let then : PipelineState = then_with cs' in
      let e : Effect = context_effect (here_at now.setup t at place) o context in
      let rec : r' ≡ recording_after (length t.spans) e r = did.records ∙ sym (starts_fold o at r) in
      let rec_is : r' ≡ record (recording_after (length t.spans) e r) { tokens = r.tokens } = rec ∙ ap (λ (ts : List Token). record (recording_after (length t.spans) e r) { tokens = ts }) (recorded_tokens (length t.spans) e r) in
      let settings = ap (λ (x : Recording). x.settings) rec_is ∙ recorded_settings (length t.spans) e r in
      let setup : then.setup ≡ now.setup = ap (λ x. record now.setup { sites = x; layer = r'.settings }) did.sites ∙ ap (λ x. record now.setup { layer = x }) settings in
      serve now then t e resolved (reply.Context number (ids_of context)) stands is (ap (λ n. reply.Context n (ids_of context)) (many ∙ ap length fits.named_contexts)) setup r.tokens rec_is
      (fits_step now t fits then e (quiet_step now then t e fits setup refl refl refl refl (ap (map (option_map lane_place_of)) attaches_are) made_is refl did.spans_same))
      (λ s some. known_still now then t e r.tokens rec_is stands.recording s refl (subst (λ (x : Spans). 0 < (span_at x.made s).holds) did.spans_same some))
      (all_same now then t.contexts setup attaches_are refl (ap (λ (x : Recording). x.tokens) rec_is) stands.recording.attached)
      (record { quiet = refl; before = read_subscriber views.filter None parts.world parts.dispatch; later = read_subscriber views.filter None new parts.dispatch; shown_before = refl; shown_later = refl; told = did.filter_same ∙ heard_none (read_subscriber views.filter None parts.world parts.dispatch); known = refl; cached = did.cached_same; aside = record { before = aside_in views parts.world parts.dispatch; later = aside_in views new parts.dispatch; shown_before = refl; shown_later = refl; waits_before = refl; waits_later = refl; adds = did.aside } })

  given_kept : (cs' : ContextSlots) (o : Option ℕ) → Starts o → (resolved : Resolved) (answer : _) → IsServed resolved inv.tables now (then_with cs') answer → PipelineInvariant spans views kept is_whole (parts_with cs')
  given_kept cs' o did resolved answer served =
      kept_served spans views kept is_whole parts (parts_with cs') inv _ _ served refl did.count did.whole (subst (λ (f : ℕ → ℕ → ℕ). LanesFit parts.dispatch f (map lane_value parts.lanes)) (sym did.kept_same) inv.lanes)

  -- a context of ids that are given
  module _ (same : new ≡ parts.world) (ids : SpanContext) (cs' : ContextSlots) (made_is : cs'.contexts ≡ parts.contexts.contexts ++ record { span = Some ids } ∷ []) (attaches_are : cs'.attaches ≡ parts.contexts.attaches) where
    pub serves_remote : (t : Tables) → StandsFor now t → IsServed (effect_of_call now.setup t at place (call.Remote ids)) t now (then_with cs') (reply.Context number ids)
    serves_remote t stands = given_served t stands None (unchanged same) (record { span = Some ids }) cs' made_is attaches_are _ refl

    pub keeps_remote : PipelineInvariant spans views kept is_whole (parts_with cs')
    keeps_remote = given_kept cs' None (unchanged same) _ _ (serves_remote inv.tables inv.stands)

  -- the context of a handle's span
  module _ (touches : S → PartCall → S → Type 0) (law : AsksLaw spans views attaches kept is_whole touches)
      (handle : ℕ) (h : Handle) (found : slot_at parts.handles handle ≡ Some h) (given : Context) (did : AsksContext touches parts.world new at h.held given) (cs' : ContextSlots) (made_is : cs'.contexts ≡ parts.contexts.contexts ++ given ∷ []) (attaches_are : cs'.attaches ≡ parts.contexts.attaches) where
    asked : (line : Scope) (held : HeldSpan) → held ≡ held_of parts.dispatch line → AsksContext touches parts.world new at held given → Starts (span_of_scope line) × (given ≡ context_of_scope r at line)
    asked [] held is asks_it =
        let nothing = subst (λ (x : HeldSpan). GivesContextOn touches parts.world new at x asks_it.answer) is asks_it.did in
        (unchanged nothing.1, asks_it.is ∙ ap context_or_empty nothing.0)
    asked (s ∷ up) held is asks_it =
        let replaced = subst (λ (x : HeldSpan). GivesContextOn touches parts.world new at x asks_it.answer) is asks_it.did in
        let alike = law.shown parts.world new parts.dispatch (GivesContext s at asks_it.answer) replaced in
        let told = law.viewed parts.world new parts.dispatch (GivesContext s at asks_it.answer) replaced in
        let records = told.0 in (
          record { spans_same = alike.spans_same; sites = ap (λ (w : WorldValue S). w.sites) replaced.others; records = records.0; kept_same = alike.kept_same; count = alike.count; whole = alike.whole; filter_same = told.1; cached_same = ap (λ (w : WorldValue S). w.cached) replaced.others; aside = told.2 },
          asks_it.is ∙ ap context_or_empty records.1 ∙ shown_is (data_at s r'.spans) ∙ ap (λ (x : Recording). own_context_or empty_context (data_at s x.spans)) records.0,
        )

    pub serves_context : (ids : SpanContext) → ids ≡ ids_of given → (t : Tables) → StandsFor now t → IsServed (effect_of_call now.setup t at place (call.Context handle)) t now (then_with cs') (reply.Context number ids)
    serves_context ids ids_are t stands =
        let line = find (held_of parts.dispatch) (map held_by parts.handles) t.handles handle h.held stands.fits.handle_slots (held_slot parts.handles handle h found) in
        let shown = asked line.at h.held line.is did in
        let given_is : given ≡ context_of_scope t.recording at line.at = shown.1 ∙ own_open line.at at r t.recording stands.recording.recorded in
        subst (λ (i : SpanContext). IsServed (effect_of_call now.setup t at place (call.Context handle)) t now (then_with cs') (reply.Context number i)) (sym (ids_are ∙ ap (λ (c : Context). ids_of c) given_is))
        (given_served t stands (span_of_scope line.at) shown.0 (context_of_scope t.recording at line.at) cs' (made_is ∙ ap (λ (c : Context). parts.contexts.contexts ++ c ∷ []) given_is) attaches_are _
        (ap (λ o. need what.Handle o >>= (λ scope. Ok (context_effect (here_at now.setup t at place) (span_of_scope scope) (context_of_scope t.recording at scope)))) line.there))

    pub keeps_context : PipelineInvariant spans views kept is_whole (parts_with cs')
    keeps_context =
        let line = find (held_of parts.dispatch) (map held_by parts.handles) inv.tables.handles handle h.held inv.stands.fits.handle_slots (held_slot parts.handles handle h found) in
        given_kept cs' (span_of_scope line.at) (asked line.at h.held line.is did).0 _ _ (serves_context (ids_of given) refl inv.tables inv.stands)
