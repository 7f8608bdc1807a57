-- Clones, served.
use Rattle.std.proofs.Common.{◌≡◌, ℕ, ◌+◌, ◌<◌, ◌≤◌, List, [], ◌∷◌, ◌++◌, length, Bool, Option, Some, None, Ok, option_map, map, refl, sym, ap, subst, ◌∙◌, arith, inl, inr, is_some}
use Rattle.span_script.proofs.Common.{cases_eq, length-map, length_push, map_push, get_or_append_left, WorldValue, Spans, span_at, SubscriberCall, CloneSpan, OneEach, read_subscriber, spans_in, kept_in, Handle, HeldSpan, id_of, ReplacedOn, Recording, no_recording, Scope, MadeSpan, ScopeGuard, Effect, Tables, slot_at, span_of_scope, here_at, ◌>>=◌, need, effect_of_call, clone_effect, Balanced, span_of_handle, open_guard_by, Views, PipelineState, state_of, lane_value, StandsFor, SpansFit, LanesFit, PipelineInvariant, IsServed, IsScope, held_of, held_by, site_by, Parts, holds_other, CallsLaw, aside_in}
use Rattle.span_script.specs.declared.reply.Reply.TheVariants as reply
use Rattle.span_script.specs.declared.request.Call.TheVariants as call
use Rattle.span_script.specs.declared.reply.What.TheVariants as what
use Rattle.span_script.specs.Fits.{Fits}
use Rattle.span_script.proofs.steps.SlotsLemmas.{find, held_slot, named_within}
use Rattle.span_script.proofs.spans.SitesLemmas.{site_found}
use Rattle.span_script.proofs.steps.StepLemmas.{fits_step}
use Rattle.span_script.proofs.steps.CallsLemmas.{ShownOn, shown_on}
use Rattle.span_script.proofs.steps.BalanceLemmas.{held_most, named_slot}
use Rattle.span_script.proofs.entries.EntriesFitLemmas.{fits_live}
use Rattle.span_script.proofs.spans.MadeSpansLemmas.{made_held}
use Rattle.span_script.proofs.steps.ServesLemmas.{serve, known_still, all_same, kept_served, call_count, call_sites, call_cached, call_aside, call_whole}
use Rattle.span_script.proofs.filter.FilterLemmas.{heard_none}
use Rattle.span_script.proofs.spans.MoreHandlesLemmas.{spans_held, balanced_clone}

pub held_scope_most : (spans : Spans) (line : Scope) (q : ℕ) → (span_at (spans_held spans line).made q).holds ≤ (span_at spans.made q).holds + 1
held_scope_most spans [] q = omega arith
held_scope_most spans (s ∷ up) q = held_most spans.made s q

pub clone_live : (spans : Spans) (line : Scope) (q : ℕ) → ((s : ℕ) (up : Scope) → line ≡ s ∷ up → 0 < (span_at spans.made s).holds) → 0 < (span_at (spans_held spans line).made q).holds → 0 < (span_at spans.made q).holds
clone_live spans [] q live some = some
clone_live spans (s ∷ up) q live some = elim (cases_eq q s) [
  | inl here ↦ (let l = live s up refl in let e = ap (λ (k : ℕ). (span_at spans.made k).holds) here in omega (arith, l, e))
  | inr other ↦ (let h = holds_other spans.made s (record (span_at spans.made s) { holds = (span_at spans.made s).holds + 1 }) q other in omega (arith, h, some))
]

pub one_clone : (spans : Spans) (line : Scope) → OneEach spans.lanes → OneEach (spans_held spans line).lanes
one_clone spans [] one = one
one_clone spans (s ∷ up) one = one

pub made_clone : (spans : Spans) (ms : List MadeSpan) (line : Scope) → SpansFit spans.made ms → ((s : ℕ) (up : Scope) → line ≡ s ∷ up → 0 < (span_at spans.made s).holds) → SpansFit (spans_held spans line).made ms
made_clone spans ms [] fit live = fit
made_clone spans ms (s ∷ up) fit live = made_held spans.made ms s fit (live s up refl)

pub the_scope : (a b : Scope) → ◌≡◌ {A = Option Scope} (Some a) (Some b) → a ≡ b
the_scope a b e = cc e

-- whether a handle of a scope is enabled
pub enabled_is : (dispatch : ℕ) (line : Scope) (held : HeldSpan) → held ≡ held_of dispatch line → is_some (id_of held) ≡ is_some (span_of_scope line)
enabled_is dispatch [] held is = ap (λ (h : HeldSpan). is_some (id_of h)) is
enabled_is dispatch (s ∷ up) held is = ap (λ (h : HeldSpan). is_some (id_of h)) is

-- what a guard keeps stays where there is a handle more
pub still_named_more : (gs : List (Option ScopeGuard)) (hs : List (Option Scope)) (line : Scope) → ((n : ℕ) (x : ScopeGuard) → slot_at gs n ≡ Some x → slot_at hs x.handle ≡ Some x.scope)
    → (n : ℕ) (x : ScopeGuard) → slot_at gs n ≡ Some x → slot_at (hs ++ Some line ∷ []) x.handle ≡ Some x.scope
still_named_more gs hs line still n x there = let at = still n x there in get_or_append_left hs (Some line ∷ []) None x.handle (named_within hs x.handle x.scope at) ∙ at

module _ {S : Type 0} (spans : S → Spans) (views : Views S) (attaches : S → Bool) (kept : S → ℕ → ℕ → ℕ) (is_whole : S → Type 0) (parts : Parts S) (new : WorldValue S) where
  pub held_spans : (line : Scope) → ShownOn spans views attaches kept is_whole parts.world new parts.dispatch line (λ id. CloneSpan id) → spans_in spans new parts.dispatch ≡ spans_held (spans_in spans parts.world parts.dispatch) line
  held_spans [] same = ap (λ (w : WorldValue S). spans_in spans w parts.dispatch) same
  held_spans (s ∷ up) shown = shown.0.spans_after

  pub clone_kept : (line : Scope) → ShownOn spans views attaches kept is_whole parts.world new parts.dispatch line (λ id. CloneSpan id) → kept_in kept new parts.dispatch ≡ kept_in kept parts.world parts.dispatch
  clone_kept [] same = ap (λ (w : WorldValue S). kept_in kept w parts.dispatch) same
  clone_kept (s ∷ up) shown = shown.0.lanes

  pub clone_recorded : (line : Scope) → ShownOn spans views attaches kept is_whole parts.world new parts.dispatch line (λ id. CloneSpan id) → read_subscriber views.recording no_recording new parts.dispatch ≡ read_subscriber views.recording no_recording parts.world parts.dispatch
  clone_recorded [] same = ap (λ (w : WorldValue S). read_subscriber views.recording no_recording w parts.dispatch) same
  clone_recorded (s ∷ up) shown = shown.2

  pub clone_filter : (line : Scope) → ShownOn spans views attaches kept is_whole parts.world new parts.dispatch line (λ id. CloneSpan id) → read_subscriber views.filter None new parts.dispatch ≡ read_subscriber views.filter None parts.world parts.dispatch
  clone_filter [] same = ap (λ (w : WorldValue S). read_subscriber views.filter None w parts.dispatch) same
  clone_filter (s ∷ up) shown = shown.3 ∙ sym (heard_none (read_subscriber views.filter None parts.world parts.dispatch))

  module _ (does : S → SubscriberCall → S → Type 0) (law : CallsLaw spans views attaches kept is_whole does)
      (hs' : List (Option Handle)) (at place number : ℕ) (many : number ≡ length parts.handles) (inv : PipelineInvariant spans views kept is_whole parts) where
    abbrev now : PipelineState
    now = state_of spans views parts

    abbrev then_parts : Parts S
    then_parts = record parts { world = new; handles = hs'; moment = at }

    abbrev then : PipelineState
    then = state_of spans views then_parts

    next_number : (t : Tables) → Fits now t → number ≡ length t.handles
    next_number t fits = many ∙ sym (length-map parts.handles held_by) ∙ ap length fits.handle_slots ∙ length-map t.handles (option_map (held_of parts.dispatch))

    module _ (handle : ℕ) (h copy : Handle) (enabled : Bool) (found : slot_at parts.handles handle ≡ Some h) (is : copy ≡ h) (shows : enabled ≡ is_some (id_of h.held)) (one : hs' ≡ parts.handles ++ Some copy ∷ []) (did : ReplacedOn (λ id s t. does s (CloneSpan id) t) parts.world new h.held) where
      pub serves_cloned : (t : Tables) → StandsFor now t → IsServed (effect_of_call now.setup t at place (call.Clone handle)) t now then (reply.Made enabled number)
      serves_cloned t stands =
          let fits = stands.fits in
          let line = find (held_of parts.dispatch) (map held_by parts.handles) t.handles handle h.held fits.handle_slots (held_slot parts.handles handle h found) in
          let shown = shown_on spans views attaches kept is_whole does law parts.world new parts.dispatch line.at h.held line.is (λ id. CloneSpan id) did in
          let step = held_spans line.at shown in
          let sp = spans_in spans parts.world parts.dispatch in
          let ids = now.setup.ids in
          let same = clone_recorded line.at shown in
          let sites = call_sites spans views attaches kept is_whole parts new line.at (λ id. CloneSpan id) shown in
          let setup : then.setup ≡ now.setup = ap (λ x. record now.setup { sites = x; layer = (read_subscriber views.recording no_recording new parts.dispatch).settings }) sites ∙ ap (λ (r : Recording). record now.setup { layer = r.settings }) same in
          let live : (s : ℕ) (up : Scope) → line.at ≡ s ∷ up → 0 < (span_at sp.made s).holds = λ s up e. fits_live sp (map span_of_handle t.handles) (map (open_guard_by ids) t.guards) t.entries fits.balanced handle s (named_slot t.handles handle line.at line.there ∙ ap span_of_scope e) in
          let e : Effect = clone_effect (here_at now.setup t at place) line.at in
          serve now then t e _ (reply.Made enabled number) stands
          (ap (λ o. need what.Handle o >>= (λ line. Ok (clone_effect (here_at now.setup t at place) line))) line.there)
          (ap (λ n. reply.Made enabled n) (next_number t fits) ∙ ap (λ b. reply.Made b (length t.handles)) (shows ∙ enabled_is parts.dispatch line.at h.held line.is))
          setup (read_subscriber views.recording no_recording parts.world parts.dispatch).tokens same
          (fits_step now t fits then e (record {
            setup_is = setup;
            dispatch_is = refl;
            handles_are = ap (map held_by) one ∙ map_push held_by parts.handles (Some copy) ∙ ap (λ (x : Handle). map held_by parts.handles ++ Some x.held ∷ []) is ∙ ap (λ (x : HeldSpan). map held_by parts.handles ++ Some x ∷ []) line.is;
            sites_are = ap (map site_by) one ∙ map_push site_by parts.handles (Some copy) ∙ ap (λ (x : Handle). map site_by parts.handles ++ Some x.site ∷ []) is ∙ ap (λ (o : Option ℕ). map site_by parts.handles ++ Some o ∷ []) (site_found now t fits parts.handles refl handle h found line.at line.there);
            guards_are = refl;
            attaches_are = refl;
            named_are = refl;
            moment_is = refl;
            balanced = subst (λ (x : Spans). Balanced x (map span_of_handle (t.handles ++ Some line.at ∷ [])) (map (open_guard_by ids) t.guards) t.entries) (sym step) (balanced_clone ids sp t.handles t.guards t.entries fits.balanced handle line.at line.there);
            made_fit = subst (λ (x : Spans). SpansFit x.made t.spans) (sym step) (made_clone sp t.spans line.at fits.made live);
            new_made = tt;
            new_site = tt;
            new_scope = λ l e. subst (IsScope t.spans) (the_scope line.at l e) (fits.scopes handle line.at line.there);
            still = still_named_more t.guards t.handles line.at fits.still;
            few = (let l = length_push t.handles (Some line.at) in let f = fits.few in omega (arith, l, f));
            few_holds = λ s. (let a = held_scope_most sp line.at s in let f = fits.few_holds s in let e = ap (λ (x : Spans). (span_at x.made s).holds) step in let l = length_push t.handles (Some line.at) in omega (arith, a, f, e, l));
            one = subst (λ (x : Spans). OneEach x.lanes) (sym step) (one_clone sp line.at fits.one_row);
          }))
          (λ s some. known_still now then t e (read_subscriber views.recording no_recording parts.world parts.dispatch).tokens same stands.recording s refl (clone_live sp line.at s live (subst (λ (x : Spans). 0 < (span_at x.made s).holds) step some)))
          (all_same now then t.contexts setup refl refl (ap (λ (r : Recording). r.tokens) same) stands.recording.attached)
          (record { quiet = refl; before = read_subscriber views.filter None parts.world parts.dispatch; later = read_subscriber views.filter None new parts.dispatch; shown_before = refl; shown_later = refl; told = clone_filter line.at shown ∙ heard_none (read_subscriber views.filter None parts.world parts.dispatch); known = refl; cached = call_cached spans views attaches kept is_whole parts new line.at (λ id. CloneSpan id) shown; aside = record { before = aside_in views parts.world parts.dispatch; later = aside_in views new parts.dispatch; shown_before = refl; shown_later = refl; waits_before = refl; waits_later = refl; adds = call_aside spans views attaches kept is_whole parts new line.at (λ id. CloneSpan id) (λ s. refl) shown } })

      pub keeps_cloned : PipelineInvariant spans views kept is_whole then_parts
      keeps_cloned =
          let line = find (held_of parts.dispatch) (map held_by parts.handles) inv.tables.handles handle h.held inv.stands.fits.handle_slots (held_slot parts.handles handle h found) in
          let shown = shown_on spans views attaches kept is_whole does law parts.world new parts.dispatch line.at h.held line.is (λ id. CloneSpan id) did in
          kept_served spans views kept is_whole parts then_parts inv _ _ (serves_cloned inv.tables inv.stands) refl (call_count spans views attaches kept is_whole parts new line.at (λ id. CloneSpan id) shown) (call_whole spans views attaches kept is_whole parts new line.at (λ id. CloneSpan id) shown)
          (subst (λ (f : ℕ → ℕ → ℕ). LanesFit parts.dispatch f (map lane_value parts.lanes)) (sym (clone_kept line.at shown)) inv.lanes)
