-- Handles of a lane's current span, and handles that are exchanged for one of these, served.
use Rattle.std.proofs.Common.{◌≡◌, ℕ, ◌+◌, ◌<◌, ◌≤◌, List, [], ◌∷◌, ◌++◌, length, Bool, true, false, cond, set, slice_set, get_or, Option, Some, None, Ok, Err, option_map, map, refl, sym, ap, subst, ◌∙◌, arith, is_some, IfSome}
use Rattle.span_script.proofs.Common.{option_map_or, cond-true, cond-false, length-map, length_push, map_push, map-set, set-append_left, get_or_append_left, sum_by-set, get_or-map, Lane, WorldValue, Spans, span_at, with_hold, current_of, entries_on, SubscriberCall, CloneSpan, IsLive, OneEach, count_push, Has, read_subscriber, spans_in, kept_in, no_spans, Handle, HeldSpan, id_of, ReplacedOn, Copies, CopiesCurrent, Guard, id_at, Recording, no_recording, Scope, MadeSpan, ScopeGuard, Effect, Tables, slot_at, slots_after, span_of_scope, site_of, Here, here_at, Resolved, refuse_if, ◌>>=◌, need, effect_of_call, clone_effect, current_scope, scope_or_current, exchange_effect, is_borrowed, is_named_by_guard, Balanced, names_span, span_of_handle, open_guard_by, Views, PipelineState, state_of, lane_value, StandsFor, SpansFit, LanesFit, PipelineInvariant, IsServed, IsScope, held_of, held_by, site_by, Parts, AddsMeasures, CallsLaw, aside_in}
use Rattle.std.proofs.lemmas.List.{length-set, get_or-set_other}
use Rattle.trace_base.specs.declared.span.Parent.TheVariants as parent
use Rattle.span_script.specs.declared.reply.Reply.TheVariants as reply
use Rattle.span_script.specs.declared.reply.Refusal.TheVariants as refusal
use Rattle.span_script.specs.declared.reply.What.TheVariants as what
use Rattle.span_script.specs.declared.request.Call.TheVariants as call
use Rattle.span_script.specs.declared.request.RequestParent.TheVariants as request_parent
use Rattle.span_script.specs.Fits.{Fits}
use Rattle.span_script.proofs.filter.CounterLemmas.{adds_same}
use Rattle.span_script.proofs.steps.SlotsLemmas.{Found, find, held_slot, named_within}
use Rattle.span_script.proofs.spans.SitesLemmas.{site_slot, site_found, copied_site}
use Rattle.span_script.proofs.steps.StepLemmas.{fits_step}
use Rattle.span_script.proofs.steps.BalanceLemmas.{named_slot, set_none}
use Rattle.span_script.proofs.steps.CallsLemmas.{shown_on}
use Rattle.trace_base.specs.Gate.{dispatch_on}
use Rattle.span_script.proofs.steps.LanesLemmas.{id_seen, own_lane}
use Rattle.span_script.proofs.runs.RefusalsLemmas.{within_get}
use Rattle.span_script.proofs.steps.ServesLemmas.{serve, known_still, all_same, kept_served, call_count, call_sites, call_cached, call_aside, call_whole}
use Rattle.span_script.proofs.filter.FilterLemmas.{heard_none}
use Rattle.span_script.proofs.spans.MoreHandlesLemmas.{find_up, spans_held, balanced_decline, another_handle}
use Rattle.span_script.proofs.spans.ClonesLemmas.{held_scope_most, clone_live, one_clone, made_clone, the_scope, enabled_is, still_named_more, held_spans, clone_kept, clone_recorded, clone_filter}
use Rattle.span_script.proofs.spans.ChainsLemmas.{not_borrowed, opened_handle, borrowed_is, still_spent}

-- ---- balance

-- one handle more of a scope that is live
balanced_more : (ids : List ℕ) (spans : Spans) (hs : List (Option Scope)) (gs : List (Option ScopeGuard)) (es : ℕ → List ℕ) → Balanced spans (map span_of_handle hs) (map (open_guard_by ids) gs) es → (line : Scope) → IfSome (span_of_scope line) (λ s. IsLive spans.made s)
    → Balanced (spans_held spans line) (map span_of_handle (hs ++ Some line ∷ [])) (map (open_guard_by ids) gs) es
balanced_more ids spans hs gs es fits [] live = balanced_decline ids spans hs gs es fits
balanced_more ids spans hs gs es fits (s ∷ up) live =
    subst (λ (xs : List (Option ℕ)). Balanced (record spans { made = with_hold spans.made s }) xs (map (open_guard_by ids) gs) es) (sym (map_push span_of_handle hs (Some (s ∷ up))))
    (another_handle spans (map span_of_handle hs) (map (open_guard_by ids) gs) es fits s live)

-- a disabled handle is spent
balanced_without : (ids : List ℕ) (spans : Spans) (hs : List (Option Scope)) (gs : List (Option ScopeGuard)) (es : ℕ → List ℕ) → Balanced spans (map span_of_handle hs) (map (open_guard_by ids) gs) es → (handle : ℕ) → slot_at hs handle ≡ Some []
    → Balanced spans (map span_of_handle (slice_set hs handle None)) (map (open_guard_by ids) gs) es
balanced_without ids spans hs gs es fits handle there =
    subst (λ (xs : List (Option ℕ)). Balanced spans xs (map (open_guard_by ids) gs) es) (sym (map-set span_of_handle hs handle None ∙ set_none (map span_of_handle hs) handle (named_slot hs handle [] there))) fits

-- the hold of a handle that is spent is that of another one
balanced_moved : (ids : List ℕ) (spans : Spans) (hs : List (Option Scope)) (gs : List (Option ScopeGuard)) (es : ℕ → List ℕ) → Balanced spans (map span_of_handle hs) (map (open_guard_by ids) gs) es → (handle s : ℕ) (up : Scope) → slot_at hs handle ≡ Some (s ∷ up)
    → is_borrowed gs handle ≡ false → Balanced spans (map span_of_handle (slice_set (hs ++ Some (s ∷ up) ∷ []) handle None)) (map (open_guard_by ids) gs) es
balanced_moved ids spans hs gs es fits handle s up there free =
    let xs : List (Option ℕ) = map span_of_handle hs in
    let ys : List (Option ℕ) = xs ++ Some s ∷ [] in
    let at : slot_at xs handle ≡ Some s = named_slot hs handle (s ∷ up) there in
    let below = named_within xs handle s at in
    let is : slot_at ys handle ≡ Some s = get_or_append_left xs (Some s ∷ []) None handle below ∙ at in
    subst (λ (zs : List (Option ℕ)). Balanced spans zs (map (open_guard_by ids) gs) es) (ap (λ (zs : List (Option ℕ)). slice_set zs handle None) (sym (map_push span_of_handle hs (Some (s ∷ up)))) ∙ sym (map-set span_of_handle (hs ++ Some (s ∷ up) ∷ []) handle None)) (record {
      holds = λ q. (
          let change = sum_by-set (λ (o : Option ℕ). cond {A = ℕ} (names_span q o) 1 0) ys handle None None (named_within ys handle s is) in
          let mine = ap (λ (o : Option ℕ). cond {A = ℕ} (names_span q o) 1 0) is in
          let push = count_push (names_span q) xs (Some s) in
          let h = fits.holds q in
          omega (arith, change, mine, push, h));
      entries = fits.entries;
      guarded = fits.guarded;
      borrowed = λ n g open_there. (
          let o = opened_handle ids (slot_at gs n) g (sym (get_or-map (open_guard_by ids) gs n None) ∙ open_there) in
          let named = fits.borrowed n g open_there in
          get_or-set_other ys handle g.handle None None (λ e. not_borrowed gs handle n o.0 free o.1 (o.2 ∙ e)) ∙ get_or_append_left xs (Some s ∷ []) None g.handle (named_within xs g.handle g.span named) ∙ named);
    })

-- ---- the lane's current span

record IsOn (k : PipelineState) (t : Tables) (lane : ℕ) : Type 0 where
  scope : IsScope t.spans (current_scope t lane)
  on : current_of (entries_on lane k.spans.lanes) ≡ span_of_scope (current_scope t lane)
  live : IfSome (span_of_scope (current_scope t lane)) (λ s. IsLive k.spans.made s)

is_on : (k : PipelineState) (t : Tables) → Fits k t → (lane : ℕ) → IsOn k t lane
is_on k t fits lane =
    let up = find_up k t fits lane request_parent.Contextual parent.Current refl in
    let e : up.up ≡ current_scope t lane = the_scope up.up (current_scope t lane) (sym up.is) in
    record {
      scope = subst (IsScope t.spans) e up.scope;
      on = up.on ∙ ap span_of_scope e;
      live = subst (λ (line : Scope). IfSome (span_of_scope line) (λ s. IsLive k.spans.made s)) e up.live;
    }

live_at : (spans : Spans) (line : Scope) → IfSome (span_of_scope line) (λ s. IsLive spans.made s) → (s : ℕ) (up : Scope) → line ≡ s ∷ up → 0 < (span_at spans.made s).holds
live_at spans line live s up e = subst (λ (l : Scope). IfSome (span_of_scope l) (λ s. IsLive spans.made s)) e live

copied : {S : Type 0} (does : S → SubscriberCall → S → Type 0) (old new : WorldValue S) (dispatch : ℕ) (site : ℕ → ℕ) (line : Scope) (h : Handle) → Copies does old new dispatch (option_map (λ id. (id, site id)) (span_of_scope line)) h
    → (h.held ≡ held_of dispatch line) × ReplacedOn (λ id s t. does s (CloneSpan id) t) old new h.held
copied does old new dispatch site [] h did = (ap (λ (x : Handle). x.held) did.0, subst (λ (x : Handle). ReplacedOn (λ id s t. does s (CloneSpan id) t) old new x.held) (sym did.0) did.1)
copied does old new dispatch site (s ∷ up) h did = (ap (λ (x : Handle). x.held) did.0, subst (λ (x : Handle). ReplacedOn (λ id s t. does s (CloneSpan id) t) old new x.held) (sym did.0) did.1)

current_copied : {S : Type 0} (spans : S → Spans) (does : S → SubscriberCall → S → Type 0) (old new : WorldValue S) (dispatch lane : ℕ) (line : Scope) (h : Handle) → dispatch < length old.subscribers → current_of (entries_on lane (spans_in spans old dispatch).lanes) ≡ span_of_scope line
    → CopiesCurrent spans does old new lane (Some dispatch) h → (h.held ≡ held_of dispatch line) × ReplacedOn (λ id s t. does s (CloneSpan id) t) old new h.held
current_copied {S} spans does old new dispatch lane line h there on did =
    let at = within_get old.subscribers dispatch there in
    let is : spans_in spans old dispatch ≡ spans at.0 = ap (λ (o : Option S). option_map_or spans o no_spans) at.1 in
    let same : current_of (entries_on lane (spans at.0).lanes) ≡ span_of_scope line = ap (λ (x : Spans). current_of (entries_on lane x.lanes)) (sym is) ∙ on in
    copied does old new dispatch (λ id. (span_at (spans at.0).made id).site) line h
    (subst (λ (o : Option ℕ). Copies does old new dispatch (option_map (λ id. (id, (span_at (spans at.0).made id).site)) o) h) same (did at.0 at.1))

-- its callsite is that of the span that was made
current_site : {S : Type 0} (spans : S → Spans) (does : S → SubscriberCall → S → Type 0) (old new : WorldValue S) (dispatch lane : ℕ) (line : Scope) (h : Handle) → dispatch < length old.subscribers → current_of (entries_on lane (spans_in spans old dispatch).lanes) ≡ span_of_scope line
    → CopiesCurrent spans does old new lane (Some dispatch) h → (made : List MadeSpan) → SpansFit (spans_in spans old dispatch).made made → IfSome (span_of_scope line) (λ s. IsLive (spans_in spans old dispatch).made s) → h.site ≡ site_of made line
current_site {S} spans does old new dispatch lane line h there on did made fit live =
    let at = within_get old.subscribers dispatch there in
    let is : spans_in spans old dispatch ≡ spans at.0 = ap (λ (o : Option S). option_map_or spans o no_spans) at.1 in
    let same : current_of (entries_on lane (spans at.0).lanes) ≡ span_of_scope line = ap (λ (x : Spans). current_of (entries_on lane x.lanes)) (sym is) ∙ on in
    copied_site does old new dispatch (λ id. (span_at (spans at.0).made id).site) made line h
    (subst (λ (o : Option ℕ). Copies does old new dispatch (option_map (λ id. (id, (span_at (spans at.0).made id).site)) o) h) same (did at.0 at.1))
    (λ s up e. ap (λ (x : Spans). (span_at x.made s).site) (sym is) ∙ fit.site s (live_at (spans_in spans old dispatch) line live s up e))

-- a handle with an open guard isn't exchanged
pub refuses_in_use : (k : PipelineState) (hs : List (Option Handle)) → k.handles ≡ map held_by hs → (handle : ℕ) (h : Handle) → slot_at hs handle ≡ Some h → is_named_by_guard k.guards handle ≡ true → (at place : ℕ) (t : Tables) → StandsFor k t
    → effect_of_call k.setup t at place (call.OrCurrent handle) ≡ Err refusal.InUse
refuses_in_use k hs are handle h found used at place t stands =
    let fits = stands.fits in
    let id = id_at k.setup.ids place in
    let line = find (held_of k.dispatch) (map held_by hs) t.handles handle h.held (sym are ∙ fits.handle_slots) (held_slot hs handle h found) in
    let borrowed : is_borrowed t.guards handle ≡ true = sym (borrowed_is k.dispatch t.guards handle) ∙ ap (λ (xs : List (Option Guard)). is_named_by_guard xs handle) (sym fits.guard_slots) ∙ used in
    ap (λ o. need what.Handle o >>= (λ scope. refuse_if (is_borrowed t.guards handle) refusal.InUse (Ok (exchange_effect (here_at k.setup t at place) handle (scope_or_current t id scope))))) line.there ∙ cond-true {A = Resolved} (is_borrowed t.guards handle) _ _ borrowed

-- ---- a handle more, and perhaps one less

abbrev hands : Here → Scope → Option ℕ → Effect
hands here line spent = record (clone_effect here line) { spent_handle = spent }

one_more : (hs : List (Option Scope)) (line : Scope) (spent : Option ℕ) → length (slots_after hs (Some line) spent) ≡ length hs + 1
one_more hs line None = length_push hs (Some line)
one_more hs line (Some n) = length-set (hs ++ Some line ∷ []) n None ∙ length_push hs (Some line)

-- what it makes of the spans
record Handed (k : PipelineState) (t : Tables) (later : Spans) (line : Scope) (spent : Option ℕ) : Type 0 where
  scope : IsScope t.spans line
  balanced : Balanced later (map span_of_handle (slots_after t.handles (Some line) spent)) (map (open_guard_by k.setup.ids) t.guards) t.entries
  still : (n : ℕ) (g : ScopeGuard) → slot_at t.guards n ≡ Some g → slot_at (slots_after t.handles (Some line) spent) g.handle ≡ Some g.scope
  made : SpansFit later.made t.spans
  most : (s : ℕ) → (span_at later.made s).holds ≤ (span_at k.spans.made s).holds + 1
  live : (s : ℕ) → 0 < (span_at later.made s).holds → 0 < (span_at k.spans.made s).holds
  one : OneEach later.lanes

-- a hold more for it
handed_more : (k : PipelineState) (t : Tables) → Fits k t → (line : Scope) → IsScope t.spans line → IfSome (span_of_scope line) (λ s. IsLive k.spans.made s) → Handed k t (spans_held k.spans line) line None
handed_more k t fits line scope live = record {
  scope = scope;
  balanced = balanced_more k.setup.ids k.spans t.handles t.guards t.entries fits.balanced line live;
  still = still_named_more t.guards t.handles line fits.still;
  made = made_clone k.spans t.spans line fits.made (live_at k.spans line live);
  most = held_scope_most k.spans line;
  live = λ s some. clone_live k.spans line s (live_at k.spans line live) some;
  one = one_clone k.spans line fits.one_row;
}

-- the same in place of a disabled handle
handed_instead : (k : PipelineState) (t : Tables) → Fits k t → (line : Scope) → IsScope t.spans line → IfSome (span_of_scope line) (λ s. IsLive k.spans.made s) → (handle : ℕ) → slot_at t.handles handle ≡ Some [] → is_borrowed t.guards handle ≡ false
    → Handed k t (spans_held k.spans line) line (Some handle)
handed_instead k t fits line scope live handle there free =
    let more = handed_more k t fits line scope live in
    let hs : List (Option Scope) = t.handles ++ Some line ∷ [] in
    let is : slot_at hs handle ≡ Some [] = get_or_append_left t.handles (Some line ∷ []) None handle (named_within t.handles handle [] there) ∙ there in
    record {
      scope = scope;
      balanced = balanced_without k.setup.ids (spans_held k.spans line) hs t.guards t.entries more.balanced handle is;
      still = still_spent t.guards hs handle free more.still;
      made = more.made;
      most = more.most;
      live = more.live;
      one = more.one;
    }

-- an enabled handle's own hold
handed_on : (k : PipelineState) (t : Tables) → Fits k t → (handle s : ℕ) (up : Scope) → slot_at t.handles handle ≡ Some (s ∷ up) → is_borrowed t.guards handle ≡ false → Handed k t k.spans (s ∷ up) (Some handle)
handed_on k t fits handle s up there free = record {
  scope = fits.scopes handle (s ∷ up) there;
  balanced = balanced_moved k.setup.ids k.spans t.handles t.guards t.entries fits.balanced handle s up there free;
  still = still_spent t.guards (t.handles ++ Some (s ∷ up) ∷ []) handle free (still_named_more t.guards t.handles (s ∷ up) fits.still);
  made = fits.made;
  most = λ q. omega arith;
  live = λ q some. some;
  one = fits.one_row;
}

module _ {S : Type 0} (spans : S → Spans) (views : Views S) (attaches : S → Bool) (kept : S → ℕ → ℕ → ℕ) (is_whole : S → Type 0) (parts : Parts S) (new : WorldValue S) where
  module _ (does : S → SubscriberCall → S → Type 0) (law : CallsLaw spans views attaches kept is_whole does)
      (hs' : List (Option Handle)) (at place number : ℕ) (many : number ≡ length parts.handles) (before : Lane) (within : place < length parts.lanes) (here : before ≡ get_or parts.lanes place before)
      (inv : PipelineInvariant spans views kept is_whole parts) where
    abbrev now : PipelineState
    now = state_of spans views parts

    abbrev then_parts : Parts S
    then_parts = record parts { world = new; handles = hs'; moment = at }

    abbrev then : PipelineState
    then = state_of spans views then_parts

    abbrev place_id : ℕ
    place_id = id_at now.setup.ids place

    next_number : (t : Tables) → Fits now t → number ≡ length t.handles
    next_number t fits = many ∙ sym (length-map parts.handles held_by) ∙ ap length fits.handle_slots ∙ length-map t.handles (option_map (held_of parts.dispatch))

    on_id : (t : Tables) → Fits now t → current_of (entries_on before.id now.spans.lanes) ≡ span_of_scope (current_scope t place_id)
    on_id t fits = ap (λ (l : ℕ). current_of (entries_on l now.spans.lanes)) (id_seen parts.lanes place before within here) ∙ (is_on now t fits place_id).on

    serves_handed : (t : Tables) → StandsFor now t → (resolved : Resolved) (line : Scope) (spent : Option ℕ) (enabled : Bool) → resolved ≡ Ok (hands (here_at now.setup t at place) line spent) → enabled ≡ is_some (span_of_scope line) → new.sites ≡ parts.world.sites
        → read_subscriber views.recording no_recording new parts.dispatch ≡ read_subscriber views.recording no_recording parts.world parts.dispatch → read_subscriber views.filter None new parts.dispatch ≡ read_subscriber views.filter None parts.world parts.dispatch → new.cached ≡ parts.world.cached → AddsMeasures (aside_in views parts.world parts.dispatch) (aside_in views new parts.dispatch) [] → then.handles ≡ slots_after now.handles (Some (held_of parts.dispatch line)) spent → then.handle_sites ≡ slots_after now.handle_sites (Some (site_of t.spans line)) spent → Handed now t then.spans line spent
        → IsServed resolved t now then (reply.Made enabled number)
    serves_handed t stands resolved line spent enabled is shows sites same filters cached aside handles handle_sites handed =
        let fits = stands.fits in
        let setup : then.setup ≡ now.setup = rw (sites, same) refl in
        let e : Effect = hands (here_at now.setup t at place) line spent in
        let more = one_more t.handles line spent in
        serve now then t e resolved (reply.Made enabled number) stands is
        (ap (λ n. reply.Made enabled n) (next_number t fits) ∙ ap (λ b. reply.Made b (length t.handles)) shows)
        setup (read_subscriber views.recording no_recording parts.world parts.dispatch).tokens same
        (fits_step now t fits then e (record {
          setup_is = setup;
          dispatch_is = refl;
          handles_are = handles;
          sites_are = handle_sites;
          guards_are = refl;
          attaches_are = refl;
          named_are = refl;
          moment_is = refl;
          balanced = handed.balanced;
          made_fit = handed.made;
          new_made = tt;
          new_site = tt;
          new_scope = λ l e. subst (IsScope t.spans) (the_scope line l e) handed.scope;
          still = handed.still;
          few = (let f = fits.few in omega (arith, more, f));
          few_holds = λ s. (let a = handed.most s in let f = fits.few_holds s in omega (arith, a, f, more));
          one = handed.one;
        }))
        (λ s some. known_still now then t e (read_subscriber views.recording no_recording parts.world parts.dispatch).tokens same stands.recording s refl (handed.live s some))
        (all_same now then t.contexts setup refl refl (ap (λ (r : Recording). r.tokens) same) stands.recording.attached)
        (record { quiet = refl; before = read_subscriber views.filter None parts.world parts.dispatch; later = read_subscriber views.filter None new parts.dispatch; shown_before = refl; shown_later = refl; told = filters ∙ heard_none (read_subscriber views.filter None parts.world parts.dispatch); known = refl; cached = cached; aside = record { before = aside_in views parts.world parts.dispatch; later = aside_in views new parts.dispatch; shown_before = refl; shown_later = refl; waits_before = refl; waits_later = refl; adds = aside } })

    keeps_handed : (resolved : Resolved) (enabled : Bool) → IsServed resolved inv.tables now then (reply.Made enabled number) → length new.subscribers ≡ length parts.world.subscribers → (Has is_whole parts.world parts.dispatch → Has is_whole new parts.dispatch) → kept_in kept new parts.dispatch ≡ kept_in kept parts.world parts.dispatch → PipelineInvariant spans views kept is_whole then_parts
    keeps_handed resolved enabled served count whole same = kept_served spans views kept is_whole parts then_parts inv resolved _ served refl count whole
        (subst (λ (f : ℕ → ℕ → ℕ). LanesFit parts.dispatch f (map lane_value parts.lanes)) (sym same) inv.lanes)

    -- what is done by the lane's own subscriber is done by the pipeline's
    by_own : (h : Handle) → CopiesCurrent spans does parts.world new before.id (dispatch_on before.default parts.world.global) h → CopiesCurrent spans does parts.world new before.id (Some parts.dispatch) h
    by_own h did = subst (λ (o : Option ℕ). CopiesCurrent spans does parts.world new before.id (dispatch_on o parts.world.global) h) (own_lane spans views kept is_whole parts inv place before within here) did

    -- a handle of the lane's current span
    module _ (h : Handle) (enabled : Bool) (shows : enabled ≡ is_some (id_of h.held)) (one : hs' ≡ parts.handles ++ Some h ∷ []) (did : CopiesCurrent spans does parts.world new before.id (dispatch_on before.default parts.world.global) h) where
      pub serves_current : (t : Tables) → StandsFor now t → IsServed (effect_of_call now.setup t at place call.Current) t now then (reply.Made enabled number)
      serves_current t stands =
          let fits = stands.fits in
          let line = current_scope t place_id in
          let on = is_on now t fits place_id in
          let copy = current_copied spans does parts.world new parts.dispatch before.id line h inv.there (on_id t fits) (by_own h did) in
          let shown = shown_on spans views attaches kept is_whole does law parts.world new parts.dispatch line h.held copy.0 (λ id. CloneSpan id) copy.1 in
          serves_handed t stands _ line None enabled refl (shows ∙ enabled_is parts.dispatch line h.held copy.0) (call_sites spans views attaches kept is_whole parts new line (λ id. CloneSpan id) shown)
          (clone_recorded spans views attaches kept is_whole parts new line shown) (clone_filter spans views attaches kept is_whole parts new line shown) (call_cached spans views attaches kept is_whole parts new line (λ id. CloneSpan id) shown) (call_aside spans views attaches kept is_whole parts new line (λ id. CloneSpan id) (λ s. refl) shown)
          (ap (map held_by) one ∙ map_push held_by parts.handles (Some h) ∙ ap (λ (x : HeldSpan). map held_by parts.handles ++ Some x ∷ []) copy.0)
          (ap (map site_by) one ∙ map_push site_by parts.handles (Some h) ∙ ap (λ (o : Option ℕ). map site_by parts.handles ++ Some o ∷ []) (current_site spans does parts.world new parts.dispatch before.id line h inv.there (on_id t fits) (by_own h did) t.spans fits.made on.live))
          (subst (λ (x : Spans). Handed now t x line None) (sym (held_spans spans views attaches kept is_whole parts new line shown)) (handed_more now t fits line on.scope on.live))

      pub keeps_current : PipelineInvariant spans views kept is_whole then_parts
      keeps_current =
          let line = current_scope inv.tables place_id in
          let copy = current_copied spans does parts.world new parts.dispatch before.id line h inv.there (on_id inv.tables inv.stands.fits) (by_own h did) in
          let shown = shown_on spans views attaches kept is_whole does law parts.world new parts.dispatch line h.held copy.0 (λ id. CloneSpan id) copy.1 in
          keeps_handed _ _ (serves_current inv.tables inv.stands) (call_count spans views attaches kept is_whole parts new line (λ id. CloneSpan id) shown)
          (call_whole spans views attaches kept is_whole parts new line (λ id. CloneSpan id) shown) (clone_kept spans views attaches kept is_whole parts new line shown)

    -- a handle that is exchanged
    module _ (handle : ℕ) (h next : Handle) (found : slot_at parts.handles handle ≡ Some h) (free : is_named_by_guard parts.guards handle ≡ false) (enabled : Bool) (shows : enabled ≡ is_some (id_of next.held)) (one : hs' ≡ slice_set parts.handles handle None ++ Some next ∷ [])
        (stays : IfSome h.held (λ held. (next ≡ h) × (new ≡ parts.world))) (takes : h.held ≡ None → CopiesCurrent spans does parts.world new before.id (dispatch_on before.default parts.world.global) next) where
      slots_are : (line : Scope) → next.held ≡ held_of parts.dispatch line → then.handles ≡ slots_after now.handles (Some (held_of parts.dispatch line)) (Some handle)
      slots_are line is =
          let xs : List (Option HeldSpan) = map held_by parts.handles in
          ap (map held_by) one ∙ map_push held_by (slice_set parts.handles handle None) (Some next) ∙ ap (λ (x : HeldSpan). map held_by (slice_set parts.handles handle None) ++ Some x ∷ []) is
          ∙ ap (λ (ys : List (Option HeldSpan)). ys ++ Some (held_of parts.dispatch line) ∷ []) (map-set held_by parts.handles handle None)
          ∙ sym (set-append_left xs (Some (held_of parts.dispatch line) ∷ []) handle None (named_within xs handle h.held (held_slot parts.handles handle h found)))

      sites_are : (made : List MadeSpan) (line : Scope) → next.site ≡ site_of made line → then.handle_sites ≡ slots_after now.handle_sites (Some (site_of made line)) (Some handle)
      sites_are made line is =
          let xs : List (Option (Option ℕ)) = map site_by parts.handles in
          ap (map site_by) one ∙ map_push site_by (slice_set parts.handles handle None) (Some next) ∙ ap (λ (o : Option ℕ). map site_by (slice_set parts.handles handle None) ++ Some o ∷ []) is
          ∙ ap (λ (ys : List (Option (Option ℕ))). ys ++ Some (site_of made line) ∷ []) (map-set site_by parts.handles handle None)
          ∙ sym (set-append_left xs (Some (site_of made line) ∷ []) handle None (named_within xs handle h.site (site_slot parts.handles handle h found)))

      not_used : (t : Tables) → Fits now t → is_borrowed t.guards handle ≡ false
      not_used t fits = sym (borrowed_is parts.dispatch t.guards handle) ∙ ap (λ (xs : List (Option Guard)). is_named_by_guard xs handle) (sym fits.guard_slots) ∙ free

      its_effect : (t : Tables) → Fits now t → (line : Scope) → slot_at t.handles handle ≡ Some line → effect_of_call now.setup t at place (call.OrCurrent handle) ≡ Ok (hands (here_at now.setup t at place) (scope_or_current t place_id line) (Some handle))
      its_effect t fits line there =
          ap (λ o. need what.Handle o >>= (λ scope. refuse_if (is_borrowed t.guards handle) refusal.InUse (Ok (exchange_effect (here_at now.setup t at place) handle (scope_or_current t place_id scope))))) there ∙ cond-false {A = Resolved} (is_borrowed t.guards handle) _ _ (not_used t fits)

      its_line : (t : Tables) → Fits now t → Found (held_of parts.dispatch) t.handles handle h.held
      its_line t fits = find (held_of parts.dispatch) (map held_by parts.handles) t.handles handle h.held fits.handle_slots (held_slot parts.handles handle h found)

      record Exchanged (t : Tables) : Type 0 where
        served : IsServed (effect_of_call now.setup t at place (call.OrCurrent handle)) t now then (reply.Made enabled number)
        count : length new.subscribers ≡ length parts.world.subscribers
        whole : Has is_whole parts.world parts.dispatch → Has is_whole new parts.dispatch
        same : kept_in kept new parts.dispatch ≡ kept_in kept parts.world parts.dispatch

      exchanged : (t : Tables) → StandsFor now t → (line : Scope) → slot_at t.handles handle ≡ Some line → h.held ≡ held_of parts.dispatch line → Exchanged t
      exchanged t stands [] there is =
          let fits = stands.fits in
          let line = current_scope t place_id in
          let on = is_on now t fits place_id in
          let copy = current_copied spans does parts.world new parts.dispatch before.id line next inv.there (on_id t fits) (by_own next (takes is)) in
          let shown = shown_on spans views attaches kept is_whole does law parts.world new parts.dispatch line next.held copy.0 (λ id. CloneSpan id) copy.1 in
          record {
            served = serves_handed t stands _ line (Some handle) enabled (its_effect t fits [] there) (shows ∙ enabled_is parts.dispatch line next.held copy.0) (call_sites spans views attaches kept is_whole parts new line (λ id. CloneSpan id) shown)
                (clone_recorded spans views attaches kept is_whole parts new line shown) (clone_filter spans views attaches kept is_whole parts new line shown) (call_cached spans views attaches kept is_whole parts new line (λ id. CloneSpan id) shown) (call_aside spans views attaches kept is_whole parts new line (λ id. CloneSpan id) (λ s. refl) shown) (slots_are line copy.0) (sites_are t.spans line (current_site spans does parts.world new parts.dispatch before.id line next inv.there (on_id t fits) (by_own next (takes is)) t.spans fits.made on.live))
                (subst (λ (x : Spans). Handed now t x line (Some handle)) (sym (held_spans spans views attaches kept is_whole parts new line shown)) (handed_instead now t fits line on.scope on.live handle there (not_used t fits)));
            count = call_count spans views attaches kept is_whole parts new line (λ id. CloneSpan id) shown;
            whole = call_whole spans views attaches kept is_whole parts new line (λ id. CloneSpan id) shown;
            same = clone_kept spans views attaches kept is_whole parts new line shown;
          }
      exchanged t stands (s ∷ up) there is =
          let fits = stands.fits in
          let mine = subst (λ (x : HeldSpan). IfSome x (λ held. (next ≡ h) × (new ≡ parts.world))) is stays in
          let held_is : next.held ≡ held_of parts.dispatch (s ∷ up) = ap (λ (x : Handle). x.held) mine.0 ∙ is in
          record {
            served = serves_handed t stands _ (s ∷ up) (Some handle) enabled (its_effect t fits (s ∷ up) there) (shows ∙ enabled_is parts.dispatch (s ∷ up) next.held held_is) (ap (λ (w : WorldValue S). w.sites) mine.1)
                (ap (λ (w : WorldValue S). read_subscriber views.recording no_recording w parts.dispatch) mine.1) (ap (λ (w : WorldValue S). read_subscriber views.filter None w parts.dispatch) mine.1) (ap (λ (w : WorldValue S). w.cached) mine.1) (adds_same views parts.world new parts.dispatch mine.1) (slots_are (s ∷ up) held_is) (sites_are t.spans (s ∷ up) (ap (λ (x : Handle). x.site) mine.0 ∙ site_found now t fits parts.handles refl handle h found (s ∷ up) there))
                (subst (λ (x : Spans). Handed now t x (s ∷ up) (Some handle)) (sym (ap (λ (w : WorldValue S). spans_in spans w parts.dispatch) mine.1)) (handed_on now t fits handle s up there (not_used t fits)));
            count = ap (λ (w : WorldValue S). length w.subscribers) mine.1;
            whole = λ has. subst (λ (w : WorldValue S). Has is_whole w parts.dispatch) (sym mine.1) has;
            same = ap (λ (w : WorldValue S). kept_in kept w parts.dispatch) mine.1;
          }

      pub serves_exchanged : (t : Tables) → StandsFor now t → IsServed (effect_of_call now.setup t at place (call.OrCurrent handle)) t now then (reply.Made enabled number)
      serves_exchanged t stands = let line = its_line t stands.fits in (exchanged t stands line.at line.there line.is).served

      pub keeps_exchanged : PipelineInvariant spans views kept is_whole then_parts
      keeps_exchanged =
          let line = its_line inv.tables inv.stands.fits in
          let all = exchanged inv.tables inv.stands line.at line.there line.is in
          keeps_handed _ enabled all.served all.count all.whole all.same
