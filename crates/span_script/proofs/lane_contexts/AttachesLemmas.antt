-- Attaches to a lane, served.
use Rattle.std.proofs.Common.{◌≡◌, ℕ, ◌<◌, List, [], ◌∷◌, ◌++◌, length, get_or, set, false, count_by, Option, Some, None, Ok, Err, option_map, map, refl, sym, ap, subst, ◌∙◌, arith, slice_get, ◌==◌, Result}
use Rattle.span_script.proofs.Common.{cond-true, cond-false, length-map, length_push, map_push, MAX_CONTEXTS, Context, EnterError, has_number, Lane, Spans, count_push, Recording, no_recording, read_subscriber, kept_in, AttachGuard, Guard, Refusal, entry_refusal, id_at, GuardOf, Attached, ScopeGuard, Effect, Tables, slot_at, with_attached, here_at, Resolved, refuse_if, ◌>>=◌, need, effect_of_call, attach_effect, is_full, Balanced, OpenGuard, span_of_handle, open_guard_by, Views, ContextSlots, PipelineState, state_of, LaneValue, lane_value, lane_at, lane_place_of, StandsFor, AllContextsFit, PipelineInvariant, IsServed, is_for_memory, LanesFit, Parts, aside_in}
use Rattle.std.proofs.lemmas.Bool.{ne_eqb, eq-eqb, true≢false}
use Rattle.otel_base.specs.declared.enter_error.EnterError.TheVariants as errors
use Rattle.span_script.specs.declared.reply.Refusal.TheVariants as refusal
use Rattle.span_script.specs.declared.reply.Reply.TheVariants as reply
use Rattle.span_script.specs.declared.reply.What.TheVariants as what
use Rattle.span_script.specs.declared.request.Call.TheVariants as call
use Rattle.span_script.proofs.filter.CounterLemmas.{adds_same}
use Rattle.span_script.proofs.steps.BalanceLemmas.{quiet_guard}
use Rattle.span_script.proofs.steps.LanesLemmas.{lane_seen, lanes_same, same_lane, id_seen, ids_same, names_same, are_attached, lanes_after}
use Rattle.span_script.proofs.lane_contexts.LaneContextsLemmas.{all_attached}
use Rattle.span_script.proofs.steps.SlotsLemmas.{named_push}
use Rattle.span_script.proofs.filter.FilterLemmas.{heard_none}
use Rattle.span_script.proofs.steps.ServesLemmas.{serve, known_still, kept_served}
use Rattle.span_script.proofs.steps.StepLemmas.{fits_step}

-- an attach that went well met no full lane
pub not_full : (number : ℕ) (P : Type 0) → (P → ◌≡◌ {A = Result ℕ EnterError} (Ok number) (Err errors.Full)) → P → ⊥
not_full number P full many = absurd (let no = full many in cc no)

-- as many contexts are live on a lane as the history attached
pub lives_there : (k : PipelineState) (t : Tables) → StandsFor k t → (lanes : List Lane) → k.lanes ≡ map lane_value lanes → (n : ℕ) (before : Lane) → n < length lanes → before ≡ get_or lanes n before → length before.contexts.live ≡ length (t.contexts before.id)
lives_there k t stands lanes are n before within here =
    let seen_at : lane_at k.lanes n ≡ lane_value before = ap (λ (ls : List LaneValue). lane_at ls n) are ∙ lane_seen lanes n before within here in
    let fit = stands.recording.attached n (let l = length-map lanes lane_value in let a = ap length are in omega (arith, within, l, a)) in
    ap (λ (l : LaneValue). length l.live) (sym seen_at) ∙ sym (length-map (lane_at k.lanes n).live (λ (x : ℕ × Context). x.1)) ∙ ap length fit.contexts
    ∙ length-map (t.contexts (lane_at k.lanes n).id) (λ (a : Attached). a.context) ∙ ap (λ (l : LaneValue). length (t.contexts l.id)) seen_at

module _ {S : Type 0} (spans : S → Spans) (views : Views S) (kept : S → ℕ → ℕ → ℕ) (is_whole : S → Type 0) (parts : Parts S)
    (at place : ℕ) (before : Lane) (within : place < length parts.lanes) (here : before ≡ get_or parts.lanes place before)
    (inv : PipelineInvariant spans views kept is_whole parts) (context : ℕ) (given : Context) (found : slice_get parts.contexts.contexts context ≡ Some given) where
  abbrev now : PipelineState
  now = state_of spans views parts

  abbrev place_id : ℕ
  place_id = id_at now.setup.ids place

  abbrev r : Recording
  r = read_subscriber views.recording no_recording parts.world parts.dispatch

  id_is : before.id ≡ place_id
  id_is = id_seen parts.lanes place before within here

  lives : (t : Tables) → StandsFor now t → length before.contexts.live ≡ length (t.contexts place_id)
  lives t stands = lives_there now t stands parts.lanes refl place before within here ∙ ap (λ (n : ℕ). length (t.contexts n)) id_is

  named_is : (t : Tables) → StandsFor now t → slice_get t.named_contexts context ≡ Some given
  named_is t stands = ap (λ (xs : List Context). slice_get xs context) (sym stands.fits.named_contexts) ∙ found

  -- after a refusal what is kept is as it was
  module _ (later : Lane) (same_id : later.id ≡ before.id) (same_name : later.name ≡ before.name) (same_own : later.default ≡ before.default) (live : later.contexts.live ≡ before.contexts.live) (gs' : List (Option Guard)) (guards_same : gs' ≡ parts.guards) (ks' : List (Option AttachGuard)) (attaches_same : ks' ≡ parts.contexts.attaches) where
    abbrev left_parts : Parts S
    left_parts = record parts { lanes = set parts.lanes place later; guards = gs'; contexts = record parts.contexts { attaches = ks' } }

    pub left_state : state_of spans views left_parts ≡ now
    left_state = rw (lanes_same parts.lanes place before later within here (same_lane before later same_id same_own live), ids_same parts.lanes place before later within here same_id, names_same parts.lanes place before later within here same_name, guards_same, attaches_same) refl

    pub left_kept : PipelineInvariant spans views kept is_whole left_parts
    left_kept = record {
      there = inv.there;
      alone = inv.alone;
      whole = inv.whole;
      lanes = subst (λ (ls : List LaneValue). LanesFit parts.dispatch (kept_in kept parts.world parts.dispatch) ls) (sym (ap (λ (k : PipelineState). k.lanes) left_state)) inv.lanes;
      tables = inv.tables;
      stands = subst (λ (k : PipelineState). StandsFor k inv.tables) (sym left_state) inv.stands;
    }

  -- a lane with as many contexts as may be
  pub refuses_attach : (error : EnterError) (refused : Refusal) → refused ≡ entry_refusal place error → (error ≡ errors.Full → length before.contexts.live ≡ MAX_CONTEXTS) → is_for_memory refused ≡ false → (t : Tables) → StandsFor now t
      → effect_of_call now.setup t at place (call.Attach context) ≡ Err refused
  refuses_attach errors.Memory refused is full other t stands = absurd (true≢false (sym (ap is_for_memory is) ∙ other))
  refuses_attach errors.Full refused is full other t stands =
      ap (λ o. need what.Context o >>= (λ c. refuse_if (is_full (t.contexts place_id)) (refusal.Full place) (Ok (attach_effect (here_at now.setup t at place) c)))) (named_is t stands)
      ∙ cond-true {A = Resolved} (is_full (t.contexts place_id)) _ _ (eq-eqb (length (t.contexts place_id)) MAX_CONTEXTS (sym (lives t stands) ∙ full refl)) ∙ ap (λ (x : Refusal). Err x) (sym is)

  module _ (later : Lane) (same_id : later.id ≡ before.id) (same_name : later.name ≡ before.name) (same_own : later.default ≡ before.default) (number guard : ℕ) (many : guard ≡ length parts.guards) (fresh : has_number number before.contexts.live ≡ false) (live : later.contexts.live ≡ before.contexts.live ++ (number, given) ∷ [])
      (room : length before.contexts.live ≡ MAX_CONTEXTS → ⊥) (gs' : List (Option Guard)) (skip : gs' ≡ parts.guards ++ None ∷ []) (cs' : ContextSlots) (made_same : cs'.contexts ≡ parts.contexts.contexts) (one : cs'.attaches ≡ parts.contexts.attaches ++ Some (record { place = place; attached = number }) ∷ []) where
    abbrev then_parts : Parts S
    then_parts = record parts { lanes = set parts.lanes place later; guards = gs'; contexts = cs'; moment = at }

    abbrev then : PipelineState
    then = state_of spans views then_parts

    setup_same : then.setup ≡ now.setup
    setup_same = rw (ids_same parts.lanes place before later within here same_id, names_same parts.lanes place before later within here same_name) refl

    all_fit : (t : Tables) → StandsFor now t → AllContextsFit r.settings.activation then.lanes r.tokens cs'.attaches (with_attached t.contexts place_id (Some (record { owner = GuardOf (length t.guards); context = given })))
    all_fit t stands =
        let numbered : length parts.contexts.attaches ≡ length t.guards = sym (length-map parts.contexts.attaches (option_map lane_place_of)) ∙ ap length stands.fits.attach_slots ∙ stands.fits.paired in
        subst (λ (ks : List (Option AttachGuard)). AllContextsFit r.settings.activation then.lanes r.tokens ks (with_attached t.contexts place_id (Some (record { owner = GuardOf (length t.guards); context = given })))) (sym one)
        (subst (λ (l : ℕ). AllContextsFit r.settings.activation then.lanes r.tokens (parts.contexts.attaches ++ Some (record { place = place; attached = number }) ∷ []) (with_attached t.contexts l (Some (record { owner = GuardOf (length t.guards); context = given })))) id_is
        (subst (λ (n : ℕ). AllContextsFit r.settings.activation then.lanes r.tokens (parts.contexts.attaches ++ Some (record { place = place; attached = number }) ∷ []) (with_attached t.contexts before.id (Some (record { owner = GuardOf n; context = given })))) numbered
        (all_attached r.settings.activation parts.lanes place before later within here same_id inv.lanes.differ r.tokens parts.contexts.attaches t.contexts stands.recording.attached number given fresh live)))

    pub serves_attached : (t : Tables) → StandsFor now t → IsServed (effect_of_call now.setup t at place (call.Attach context)) t now then (reply.Guard guard)
    serves_attached t stands =
        let fits = stands.fits in
        let ids = now.setup.ids in
        let e : Effect = attach_effect (here_at now.setup t at place) given in
        let free : is_full (t.contexts place_id) ≡ false = ne_eqb (length (t.contexts place_id)) MAX_CONTEXTS (λ e. room (lives t stands ∙ e)) in
        serve now then t e _ (reply.Guard guard) stands
        (ap (λ o. need what.Context o >>= (λ c. refuse_if (is_full (t.contexts place_id)) (refusal.Full place) (Ok (attach_effect (here_at now.setup t at place) c)))) (named_is t stands) ∙ cond-false {A = Resolved} (is_full (t.contexts place_id)) _ _ free)
        (ap reply.Guard (many ∙ ap length fits.guard_slots ∙ length-map t.guards (option_map _))) setup_same r.tokens refl
        (fits_step now t fits then e (record {
          setup_is = setup_same;
          dispatch_is = refl;
          handles_are = refl;
          sites_are = refl;
          guards_are = skip;
          attaches_are = ap (map (option_map lane_place_of)) one ∙ map_push (option_map lane_place_of) parts.contexts.attaches (Some (record { place = place; attached = number }));
          named_are = made_same;
          moment_is = refl;
          balanced = subst (λ (xs : List (Option OpenGuard)). Balanced now.spans (map span_of_handle t.handles) xs t.entries) (sym (map_push (open_guard_by ids) t.guards None)) (quiet_guard now.spans (map span_of_handle t.handles) (map (open_guard_by ids) t.guards) t.entries fits.balanced);
          made_fit = fits.made;
          new_made = tt;
          new_site = tt;
          new_scope = λ l e. absurd (cc e);
          still = named_push (λ (y : ScopeGuard). slot_at t.handles y.handle ≡ Some y.scope) t.guards None fits.still (λ y e. absurd (cc e));
          few = fits.few;
          few_holds = λ s. (let f = fits.few_holds s in let l = length_push t.guards None in omega (arith, f, l));
          one = fits.one_row;
        }))
        (λ s some. known_still now then t e r.tokens refl stands.recording s refl some)
        (all_fit t stands)
        (record { quiet = refl; before = read_subscriber views.filter None parts.world parts.dispatch; later = read_subscriber views.filter None parts.world parts.dispatch; shown_before = refl; shown_later = refl; told = heard_none (read_subscriber views.filter None parts.world parts.dispatch); known = refl; cached = refl; aside = record { before = aside_in views parts.world parts.dispatch; later = aside_in views parts.world parts.dispatch; shown_before = refl; shown_later = refl; waits_before = refl; waits_later = refl; adds = adds_same views parts.world parts.world parts.dispatch refl } })

    pub keeps_attached : PipelineInvariant spans views kept is_whole then_parts
    keeps_attached =
        kept_served spans views kept is_whole parts then_parts inv _ _ (serves_attached inv.tables inv.stands) refl refl (λ has. has)
        (lanes_after parts.dispatch (kept_in kept parts.world parts.dispatch) (kept_in kept parts.world parts.dispatch) parts.lanes place before later within here inv.lanes same_id same_own
        (λ n. (
        let still = are_attached parts.dispatch (kept_in kept parts.world parts.dispatch) parts.lanes place before within here inv.lanes n in
        let more = ap (λ (xs : List (ℕ × Context)). count_by (λ item. item.0 == n) xs) live in
        let push = count_push (λ (item : ℕ × Context). item.0 == n) before.contexts.live (number, given) in
        omega (arith, still, more, push)))
        (λ other n apart. refl))
