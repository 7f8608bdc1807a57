-- An entry on a lane with as many contexts as may be.
use Rattle.std.proofs.Common.{◌≡◌, ℕ, ◌<◌, List, [], ◌∷◌, length, get_or, Bool, true, false, Option, Some, None, Err, map, refl, sym, ap, subst, ◌∙◌, arith, inl, inr, slice_get, Ok, ◌&&◌, ◌||◌, ◌≢◌}
use Rattle.span_script.proofs.Common.{cases_Bool, cond-true, length-map, MAX_CONTEXTS, Context, EnterError, SpanData, data_at, knows_span, Recording, no_recording, Lane, Spans, Handle, HeldSpan, MeetsFullLane, Refusal, id_at, span_of_handle, open_guard_by, Scope, Attached, Tables, slot_at, here_at, Resolved, refuse_if, ◌>>=◌, need, meets_full, enter_effect, entry_call, entry_refusal, Views, PipelineState, state_of, LaneValue, lane_value, lane_at, StandsFor, PipelineInvariant, is_for_memory, held_by, held_of, Parts, FilterWithRoom, layer_or}
use Rattle.std.proofs.lemmas.Bool.{eq-eqb, eqb-true, true≢false}
use Rattle.otel_base.specs.declared.enter_error.EnterError.TheVariants as errors
use Rattle.span_script.specs.declared.reply.Refusal.TheVariants as refusal
use Rattle.span_script.specs.declared.reply.What.TheVariants as what
use Rattle.span_script.proofs.steps.BalanceLemmas.{named_slot}
use Rattle.span_script.proofs.entries.EntriesFitLemmas.{fits_live}
use Rattle.span_script.proofs.steps.LanesLemmas.{lane_seen, id_seen}
use Rattle.span_script.proofs.steps.KnownSpansLemmas.{knows_it}
use Rattle.span_script.proofs.steps.SlotsLemmas.{find, held_slot}
use Rattle.span_script.proofs.runs.RefusalsLemmas.{within_get}
use Rattle.span_script.proofs.runs.TakeLemmas.{seen_there}

-- an entry of a span that the layer knows attaches where the layer activates
abbrev pub Activates : {S : Type 0} → Views S → (S → ℕ → Bool) → Type 0
Activates {S} views activates = (s : S) (id : ℕ) → data_at id (views.recording s).spans ≢ None → activates s id ≡ (views.recording s).settings.activation

pub layer_activates : (activation : Bool) (id : ℕ) (spans : List (ℕ × SpanData)) → data_at id spans ≢ None → ((activation && knows_span id spans) || false) ≡ activation
layer_activates true id spans known = ap (λ b. b || false) (knows_it id spans known)
layer_activates false id spans known = refl

meets_none : (b : Bool) (items : List Attached) → meets_full b [] items ≡ false
meets_none true items = refl
meets_none false items = refl

meets_parts : (b : Bool) (s : ℕ) (up : Scope) (items : List Attached) → meets_full b (s ∷ up) items ≡ true → (b ≡ true) × (length items ≡ MAX_CONTEXTS)
meets_parts true s up items e = (refl, eqb-true (length items) MAX_CONTEXTS e)
meets_parts false s up items e = absurd (true≢false (sym e))

meets_made : (b : Bool) (s : ℕ) (up : Scope) (items : List Attached) → b ≡ true → length items ≡ MAX_CONTEXTS → meets_full b (s ∷ up) items ≡ true
meets_made true s up items on many = eq-eqb (length items) MAX_CONTEXTS many
meets_made false s up items on many = absurd (true≢false (sym on))

module _ {S : Type 0} (spans : S → Spans) (views : Views S) (activates : S → ℕ → Bool) (kept : S → ℕ → ℕ → ℕ) (is_whole : S → Type 0) (acts : Activates views activates) (parts : Parts S)
    (at place : ℕ) (before : Lane) (within : place < length parts.lanes) (here : before ≡ get_or parts.lanes place before)
    (handle : ℕ) (h : Handle) (found : slot_at parts.handles handle ≡ Some h) (inv : PipelineInvariant spans views kept is_whole parts) where
  abbrev now : PipelineState
  now = state_of spans views parts

  abbrev place_id : ℕ
  place_id = id_at now.setup.ids place

  -- as many contexts are live as the history attached
  lives : (t : Tables) → StandsFor now t → length before.contexts.live ≡ length (t.contexts place_id)
  lives t stands =
      let seen_at = lane_seen parts.lanes place before within here in
      let fit = stands.recording.attached place (let l = length-map parts.lanes lane_value in omega (arith, within, l)) in
      let mine : (lane_at now.lanes place).id ≡ place_id = ap (λ (l : LaneValue). l.id) seen_at ∙ id_seen parts.lanes place before within here in
      ap (λ (l : LaneValue). length l.live) (sym seen_at) ∙ sym (length-map (lane_at now.lanes place).live (λ (x : ℕ × Context). x.1)) ∙ ap length fit.contexts
      ∙ length-map (t.contexts (lane_at now.lanes place).id) (λ (a : Attached). a.context) ∙ ap (λ (n : ℕ). length (t.contexts n)) mine

  -- the subscriber attaches for an open span where the setup activates
  acts_here : (t : Tables) → StandsFor now t → (s : ℕ) (up : Scope) → slot_at t.handles handle ≡ Some (s ∷ up) → (x : S) → slice_get parts.world.subscribers parts.dispatch ≡ Some x → activates x s ≡ now.setup.layer.activation
  acts_here t stands s up there x is =
      let live = fits_live now.spans (map span_of_handle t.handles) (map (open_guard_by now.setup.ids) t.guards) t.entries stands.fits.balanced handle s (named_slot t.handles handle (s ∷ up) there) in
      let same = seen_there views.recording no_recording parts.world parts.dispatch x is in
      acts x s (λ none. stands.recording.known s live (ap (λ (r : Recording). data_at s r.spans) same ∙ none)) ∙ ap (λ (r : Recording). r.settings.activation) (sym same)

  meets_of : (t : Tables) → StandsFor now t → (line : Scope) → slot_at t.handles handle ≡ Some line → MeetsFullLane activates parts.world before (held_of parts.dispatch line) → meets_full now.setup.layer.activation line (t.contexts place_id) ≡ true
  meets_of t stands [] there meets = absurd meets
  meets_of t stands (s ∷ up) there meets =
      let x = within_get parts.world.subscribers parts.dispatch inv.there in
      meets_made now.setup.layer.activation s up (t.contexts place_id) (sym (acts_here t stands s up there x.0 x.1) ∙ meets.0 x.0 x.1) (sym (lives t stands) ∙ meets.1)

  meets_by : (t : Tables) → StandsFor now t → (line : Scope) → slot_at t.handles handle ≡ Some line → meets_full now.setup.layer.activation line (t.contexts place_id) ≡ true → MeetsFullLane activates parts.world before (held_of parts.dispatch line)
  meets_by t stands [] there full = absurd (true≢false (sym full ∙ meets_none now.setup.layer.activation (t.contexts place_id)))
  meets_by t stands (s ∷ up) there full =
      let both = meets_parts now.setup.layer.activation s up (t.contexts place_id) full in
      (λ x is. acts_here t stands s up there x is ∙ both.0, lives t stands ∙ both.1)

  -- so an entry that isn't refused doesn't meet a full lane
  pub meets_not : (t : Tables) → StandsFor now t → (line : Scope) → slot_at t.handles handle ≡ Some line → h.held ≡ held_of parts.dispatch line → (MeetsFullLane activates parts.world before h.held → ⊥) → meets_full now.setup.layer.activation line (t.contexts place_id) ≡ false
  meets_not t stands line there is not = elim (cases_Bool (meets_full now.setup.layer.activation line (t.contexts place_id))) [
    | inl full ↦ absurd (not (subst (λ (x : HeldSpan). MeetsFullLane activates parts.world before x) (sym is) (meets_by t stands line there full)))
    | inr free ↦ free
  ]

  -- and one that is refused so does
  pub meets_full_of : (t : Tables) → StandsFor now t → (line : Scope) → slot_at t.handles handle ≡ Some line → h.held ≡ held_of parts.dispatch line → MeetsFullLane activates parts.world before h.held → meets_full now.setup.layer.activation line (t.contexts place_id) ≡ true
  meets_full_of t stands line there is meets = meets_of t stands line there (subst (λ (x : HeldSpan). MeetsFullLane activates parts.world before x) is meets)

  pub refuses_entry : (owns : Bool) (error : EnterError) (given : Refusal) → given ≡ entry_refusal place error → (error ≡ errors.Full → MeetsFullLane activates parts.world before h.held) → is_for_memory given ≡ false → (t : Tables) → StandsFor now t → entry_call (here_at now.setup t at place) handle owns ≡ Err given
  refuses_entry owns errors.Memory given is full other t stands = absurd (true≢false (sym (ap is_for_memory is) ∙ other))
  refuses_entry owns errors.Full given is full other t stands =
      let line = find (held_of parts.dispatch) (map held_by parts.handles) t.handles handle h.held stands.fits.handle_slots (held_slot parts.handles handle h found) in
      let meets = meets_full_of t stands line.at line.there line.is (full refl) in
      ap (λ o. need what.Handle o >>= (λ line. refuse_if (meets_full now.setup.layer.activation line (t.contexts place_id)) (refusal.Full place) (Ok (enter_effect (here_at now.setup t at place) handle owns line)))) line.there
      ∙ cond-true {A = Resolved} (meets_full now.setup.layer.activation line.at (t.contexts place_id)) _ _ meets ∙ ap (λ (x : Refusal). Err x) (sym is)

-- a filter over a stack attaches nothing
pub filtered_activates : (o : Option FilterWithRoom) (knows inner activation : Bool) → inner ≡ activation → ((layer_or false (λ (f : FilterWithRoom). false) o && knows) || inner) ≡ activation
filtered_activates None knows inner activation is = is
filtered_activates (Some f) knows inner activation is = is
