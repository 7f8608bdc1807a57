-- Detaches from a lane, served.
use Rattle.std.proofs.Common.{◌≡◌, ℕ, ◌+◌, ◌<◌, List, [], ◌∷◌, length, get_or, set, true, count_by, Option, Some, None, option_map, map, refl, sym, ap, subst, ◌∙◌, arith, inl, inr, Ok, ◌==◌, slice_set, not}
use Rattle.span_script.proofs.Common.{cases_Bool, cases_eq, cond-true, cond-false, map-set, get_or-map, Context, has_number, without_number, Lane, WorldValue, Spans, count_cons, kept_by, Recording, no_recording, read_subscriber, kept_in, AttachGuard, id_at, GuardOf, Effect, Tables, slot_at, with_detached, here_at, Resolved, refuse_if, ◌>>=◌, need, effect_of_call, detach_effect, Views, ContextSlots, PipelineState, state_of, lane_place_of, owner_numbers, StandsFor, ContextsFit, AllContextsFit, PipelineInvariant, IsServed, Parts, FilterWithRoom, layer_or, none_kept, aside_in}
use Rattle.std.proofs.lemmas.Bool.{ne_eqb, eq-eqb, eqb-true}
use Rattle.span_script.specs.declared.reply.Refusal.TheVariants as refusal
use Rattle.span_script.specs.declared.reply.Reply.TheVariants as reply
use Rattle.span_script.specs.declared.reply.What.TheVariants as what
use Rattle.span_script.specs.declared.request.Call.TheVariants as call
use Rattle.span_script.specs.Fits.{Fits}
use Rattle.span_script.proofs.filter.CounterLemmas.{adds_same}
use Rattle.span_script.proofs.lane_contexts.OwnersLemmas.{owned_has}
use Rattle.span_script.proofs.steps.LanesLemmas.{id_seen, ids_same, names_same, are_attached, lanes_after}
use Rattle.span_script.proofs.lane_contexts.LaneContextsLemmas.{own_fit, all_detached}
use Rattle.span_script.proofs.lane_contexts.NumbersLemmas.{guard_keeps, guard_alone}
use Rattle.span_script.proofs.runs.RefusalsLemmas.{within_get}
use Rattle.span_script.proofs.filter.FilterLemmas.{heard_none}
use Rattle.span_script.proofs.steps.ServesLemmas.{serve, known_still, kept_served}
use Rattle.span_script.proofs.steps.StepLemmas.{fits_step, quiet_step}
use Rattle.span_script.proofs.runs.TakeLemmas.{seen_there}

-- a guard of an attach, as its table tells it
pub attach_told : (k : PipelineState) (t : Tables) → Fits k t → (n : ℕ) → slot_at t.attaches n ≡ option_map lane_place_of (slot_at k.contexts.attaches n)
attach_told k t fits n = ap (λ (xs : List (Option ℕ)). slot_at xs n) (sym fits.attach_slots) ∙ get_or-map (option_map lane_place_of) k.contexts.attaches n None

abbrev detached : PipelineState → Tables → ℕ → ℕ → ℕ → Option ℕ → Resolved
detached k t at place guard o = need what.Guard o >>= (λ mine. refuse_if (not (mine == place)) (refusal.WrongLane mine) (Ok (detach_effect (here_at k.setup t at place) guard)))

-- the others stay as often live
count_without : (n number : ℕ) (live : List (ℕ × Context)) → (n ≡ number → ⊥) → count_by (λ (item : ℕ × Context). item.0 == number) (without_number n live) ≡ count_by (λ (item : ℕ × Context). item.0 == number) live
count_without n number [] apart = refl
count_without n number (x ∷ live) apart =
    let here = count_cons (λ (item : ℕ × Context). item.0 == number) x live in
    elim (cases_Bool (x.0 == n)) [
      | inl this ↦ (
          let gone = ap (λ (xs : List (ℕ × Context)). count_by (λ (item : ℕ × Context). item.0 == number) xs) (cond-true {A = List (ℕ × Context)} (x.0 == n) live (x ∷ without_number n live) this) in
          let none = cond-false {A = ℕ} (x.0 == number) 1 0 (ne_eqb x.0 number (λ e. apart (sym (eqb-true x.0 n this) ∙ e))) in
          omega (arith, here, gone, none))
      | inr next ↦ (
          let left = ap (λ (xs : List (ℕ × Context)). count_by (λ (item : ℕ × Context). item.0 == number) xs) (cond-false {A = List (ℕ × Context)} (x.0 == n) live (x ∷ without_number n live) next) in
          let tail = count_cons (λ (item : ℕ × Context). item.0 == number) x (without_number n live) in
          let rest = count_without n number live apart in
          omega (arith, here, left, tail, rest))
    ]

-- what a subscriber keeps attached its layer's open entries keep
abbrev pub KeepsTokens : {S : Type 0} → Views S → (S → ℕ → ℕ → ℕ) → Type 0
KeepsTokens {S} views kept = (s : S) (lane number : ℕ) → kept s lane number ≡ kept_by (views.recording s).settings.activation (views.recording s).tokens lane number

module _ {S : Type 0} (spans : S → Spans) (views : Views S) (kept : S → ℕ → ℕ → ℕ) (is_whole : S → Type 0) (parts : Parts S)
    (at place : ℕ) (before : Lane) (within : place < length parts.lanes) (here : before ≡ get_or parts.lanes place before)
    (inv : PipelineInvariant spans views kept is_whole parts) (guard : ℕ) (a : AttachGuard) (found : slot_at parts.contexts.attaches guard ≡ Some a) (on : a.place ≡ place) where
  abbrev now : PipelineState
  now = state_of spans views parts

  abbrev place_id : ℕ
  place_id = id_at now.setup.ids place

  abbrev r : Recording
  r = read_subscriber views.recording no_recording parts.world parts.dispatch

  id_is : before.id ≡ place_id
  id_is = id_seen parts.lanes place before within here

  its_fit : ContextsFit (owner_numbers r.settings.activation place before.id r.tokens parts.contexts.attaches) before.contexts.live (inv.tables.contexts before.id)
  its_fit = own_fit r.settings.activation parts.lanes place before before within here refl inv.lanes.differ r.tokens parts.contexts.attaches inv.tables.contexts inv.stands.recording.attached

  -- what it attached is still live
  pub still_live : has_number a.attached before.contexts.live ≡ true
  still_live = owned_has (GuardOf guard) before.contexts.live (inv.tables.contexts before.id) a.attached _ its_fit (guard_keeps r.settings.activation place before.id r.tokens parts.contexts.attaches guard a found on)

  module _ (later : Lane) (same_id : later.id ≡ before.id) (same_name : later.name ≡ before.name) (same_own : later.default ≡ before.default) (live : later.contexts.live ≡ without_number a.attached before.contexts.live)
      (cs' : ContextSlots) (made_same : cs'.contexts ≡ parts.contexts.contexts) (one : cs'.attaches ≡ slice_set parts.contexts.attaches guard None) where
    abbrev then_parts : Parts S
    then_parts = record parts { lanes = set parts.lanes place later; contexts = cs'; moment = at }

    abbrev then : PipelineState
    then = state_of spans views then_parts

    setup_same : then.setup ≡ now.setup
    setup_same = rw (ids_same parts.lanes place before later within here same_id, names_same parts.lanes place before later within here same_name) refl

    all_fit : (t : Tables) → StandsFor now t → AllContextsFit r.settings.activation then.lanes r.tokens cs'.attaches (with_detached t.contexts place_id (Some (GuardOf guard)))
    all_fit t stands =
        subst (λ (ks : List (Option AttachGuard)). AllContextsFit r.settings.activation then.lanes r.tokens ks (with_detached t.contexts place_id (Some (GuardOf guard)))) (sym one)
        (subst (λ (l : ℕ). AllContextsFit r.settings.activation then.lanes r.tokens (slice_set parts.contexts.attaches guard None) (with_detached t.contexts l (Some (GuardOf guard)))) id_is
        (all_detached r.settings.activation parts.lanes place before later within here same_id inv.lanes.differ r.tokens parts.contexts.attaches t.contexts stands.recording.attached guard a found on live))

    pub serves_detached : (t : Tables) → StandsFor now t → IsServed (effect_of_call now.setup t at place (call.Detach guard)) t now then reply.Done
    serves_detached t stands =
        let fits = stands.fits in
        let e : Effect = detach_effect (here_at now.setup t at place) guard in
        serve now then t e _ reply.Done stands
        (ap (detached now t at place guard) (attach_told now t fits guard ∙ ap (option_map lane_place_of) found) ∙ cond-false {A = Resolved} (not (a.place == place)) _ _ (ap not (eq-eqb a.place place on)))
        refl setup_same r.tokens refl
        (fits_step now t fits then e (quiet_step now then t e fits setup_same refl refl refl refl (ap (map (option_map lane_place_of)) one ∙ map-set (option_map lane_place_of) parts.contexts.attaches guard None) made_same refl refl))
        (λ s some. known_still now then t e r.tokens refl stands.recording s refl some)
        (all_fit t stands)
        (record { quiet = refl; before = read_subscriber views.filter None parts.world parts.dispatch; later = read_subscriber views.filter None parts.world parts.dispatch; shown_before = refl; shown_later = refl; told = heard_none (read_subscriber views.filter None parts.world parts.dispatch); known = refl; cached = refl; aside = record { before = aside_in views parts.world parts.dispatch; later = aside_in views parts.world parts.dispatch; shown_before = refl; shown_later = refl; waits_before = refl; waits_later = refl; adds = adds_same views parts.world parts.world parts.dispatch refl } })

    pub keeps_detached : ((place number : ℕ) → kept_in kept parts.world parts.dispatch place number ≡ kept_by r.settings.activation r.tokens place number) → PipelineInvariant spans views kept is_whole then_parts
    keeps_detached keeps =
        kept_served spans views kept is_whole parts then_parts inv _ _ (serves_detached inv.tables inv.stands) refl refl (λ has. has)
        (lanes_after parts.dispatch (kept_in kept parts.world parts.dispatch) (kept_in kept parts.world parts.dispatch) parts.lanes place before later within here inv.lanes same_id same_own
        (λ n. (
        let less = ap (λ (xs : List (ℕ × Context)). count_by (λ item. item.0 == n) xs) live in
        elim (cases_eq a.attached n) [
          | inl this ↦ (
              let none = guard_alone r.settings.activation place before.id r.tokens parts.contexts.attaches before.contexts.live (inv.tables.contexts before.id) guard a.attached its_fit (guard_keeps r.settings.activation place before.id r.tokens parts.contexts.attaches guard a found on) in
              let zero_kept : kept_in kept parts.world parts.dispatch before.id n ≡ 0 = keeps before.id n ∙ ap (λ (k : ℕ). kept_by r.settings.activation r.tokens before.id k) (sym this) ∙ none in
              omega (arith, zero_kept))
          | inr other ↦ (
              let still = are_attached parts.dispatch (kept_in kept parts.world parts.dispatch) parts.lanes place before within here inv.lanes n in
              let same = count_without a.attached n before.contexts.live other in
              omega (arith, still, less, same))
        ]))
        (λ other n apart. refl))

-- the same, of a world's subscriber
pub keeps_tokens : {S : Type 0} (views : Views S) (kept : S → ℕ → ℕ → ℕ) (world : WorldValue S) (dispatch : ℕ) → dispatch < length world.subscribers → KeepsTokens views kept
    → (lane number : ℕ) → kept_in kept world dispatch lane number ≡ kept_by (read_subscriber views.recording no_recording world dispatch).settings.activation (read_subscriber views.recording no_recording world dispatch).tokens lane number
keeps_tokens {S} views kept world dispatch there law lane number =
    let x = within_get world.subscribers dispatch there in
    let one = seen_there kept (λ lane number. 0) world dispatch x.0 x.1 in
    let two = seen_there views.recording no_recording world dispatch x.0 x.1 in
    ap (λ (f : ℕ → ℕ → ℕ). f lane number) one ∙ law x.0 lane number ∙ ap (λ (r : Recording). kept_by r.settings.activation r.tokens lane number) (sym two)

-- a registry keeps nothing attached, and so do a layer of metrics and a filter
pub none_more : (n : ℕ) → 0 + (n + 0) ≡ n
none_more n = omega arith

pub filtered_keeps : (o : Option FilterWithRoom) (lane number inner n : ℕ) → inner ≡ n → layer_or none_kept (λ (f : FilterWithRoom) (l k : ℕ). 0) o lane number + inner ≡ n
filtered_keeps None lane number inner n is = omega (arith, is)
filtered_keeps (Some f) lane number inner n is = omega (arith, is)
