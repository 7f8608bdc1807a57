-- Entries and exits, served.
use Rattle.std.proofs.Common.{◌≡◌, ℕ, ◌+◌, ◌<◌, List, [], ◌∷◌, ◌++◌, length, Bool, true, false, fold, get_or, set, slice_set, Option, Some, None, option_map, map, refl, sym, ap, subst, ◌∙◌, arith, inl, inr, cond, Ok, Err, Result, IfOk, IfErr, ◌==◌, ◌≢◌, ◌&&◌, nat_lt, count_by, if◌then◌else◌, not}
use Rattle.span_script.proofs.Common.{cases_eq, cases_Bool, cond-true, cond-false, length-map, length_push, map_push, Lane, WorldValue, Span, Spans, span_at, with_hold, without_hold, without_last, is_in, times_in, entries_on, SubscriberCall, Enter, Exit, with_span_entry, with_span_exit, OneEach, count_cons, read_subscriber, spans_in, Handle, HeldSpan, ReplacedOn, Guard, AttachGuard, id_at, Token, empty_context, LayerSettings, SpanData, is_token, data_at, own_context_or, Recording, no_recording, with_start, with_start_if_some, with_applied, id_if_on, RecordsCall, Enters, Exits, Scope, MadeSpan, ScopeGuard, FilterHook, HookEnter, HookExit, Effect, Tables, after_effect, recording_after, slot_at, span_of_scope, with_entry_on, with_exit_on, with_attached, with_detached, open_part, quiet_effect, EntryOf, Attached, here_at, Resolved, refuse_if, ◌>>=◌, need, effect_of_call, activated_span, entry_context, meets_full, entry_call, enter_effect, is_shared, exit_effect, after_filter_hook, hooks_of_span, borrows, is_borrowed, names_handle, is_named_by_guard, is_shared_by, Reply, Refusal, Balanced, span_of_handle, open_guard_by, Views, IsScope, ContextSlots, PipelineState, state_of, LaneValue, lane_value, lane_at, StandsFor, RecordingFits, AllContextsFit, SpansFit, PipelineInvariant, IsServed, IsRefusal, held_of, guard_of, lane_place_of, held_by, Parts, ServesResolved, holds_other, FilterState, CallsLaw, aside_in}
use Rattle.std.proofs.lemmas.Bool.{eq-eqb, ne_eqb}
use Rattle.std.proofs.lemmas.List.{length-set}
use Rattle.trace_base.proofs.Sound.{one_with}
use Rattle.span_script.specs.declared.reply.Reply.TheVariants as reply
use Rattle.span_script.specs.declared.request.Call.TheVariants as call
use Rattle.span_script.specs.declared.reply.Refusal.TheVariants as refusal
use Rattle.span_script.specs.declared.reply.What.TheVariants as what
use Rattle.std.specs.Option.{option_to_list}
use Rattle.otel_state.specs.declared.op.Op.TheVariants as ops
use Rattle.span_script.proofs.spans.ChainsLemmas.{borrowed_is}
use Rattle.span_script.specs.Fits.{Fits}
use Rattle.span_script.proofs.steps.BalanceLemmas.{spans_entered, spans_exited, balanced_enter, balanced_exit, entered_most, exited_less, named_slot}
use Rattle.span_script.proofs.entries.EntriesFitLemmas.{fits_live}
use Rattle.span_script.proofs.spans.MadeSpansLemmas.{made_if, made_held, made_released}
use Rattle.span_script.proofs.steps.StepLemmas.{fits_step}
use Rattle.span_script.proofs.steps.SlotsLemmas.{find, held_slot, named_push, named_set}
use Rattle.span_script.proofs.steps.CallsLemmas.{ShownOn, shown_on}
use Rattle.span_script.proofs.steps.LanesLemmas.{lanes_step, lanes_same, id_seen, ids_same, names_same}
use Rattle.span_script.proofs.steps.KnownSpansLemmas.{knows_it}
use Rattle.span_script.proofs.steps.RecordingLemmas.{recorded_settings, start_open, starts_fold, entry_tokens}
use Rattle.span_script.proofs.lane_contexts.LaneContextsLemmas.{all_skipped, all_entered, all_exited}
use Rattle.span_script.proofs.steps.ServesLemmas.{AllFit, serve, known_still, kept_served, call_count, call_sites, call_cached, call_aside, call_whole, call_lanes}
use Rattle.span_script.proofs.filter.FilterLemmas.{IsKnownHeard, count_heard, AreKnown, heard_none}

the_guard : (a b : ScopeGuard) → ◌≡◌ {A = Option ScopeGuard} (Some a) (Some b) → a ≡ b
the_guard a b e = cc e

one_entered : (spans : Spans) (line : Scope) (lane : ℕ) → OneEach spans.lanes → OneEach (spans_entered spans line lane).lanes
one_entered spans [] lane one = one
one_entered spans (s ∷ up) lane one = one_with lane (entries_on lane spans.lanes ++ s ∷ []) spans.lanes one

one_exited : (spans : Spans) (line : Scope) (lane : ℕ) → OneEach spans.lanes → OneEach (spans_exited spans line lane).lanes
one_exited spans [] lane one = one
one_exited spans (s ∷ up) lane one = one_with lane (without_last (λ x. x == s) (entries_on lane spans.lanes)) spans.lanes one

made_entered : (spans : Spans) (ms : List MadeSpan) (line : Scope) (lane : ℕ) → SpansFit spans.made ms → ((s : ℕ) (up : Scope) → line ≡ s ∷ up → 0 < (span_at spans.made s).holds) → SpansFit (spans_entered spans line lane).made ms
made_entered spans ms [] lane fit live = fit
made_entered spans ms (s ∷ up) lane fit live = made_if (is_in s (entries_on lane spans.lanes)) spans.made (with_hold spans.made s) ms fit (made_held spans.made ms s fit (live s up refl))

made_exited : (spans : Spans) (ms : List MadeSpan) (line : Scope) (lane : ℕ) → SpansFit spans.made ms → SpansFit (spans_exited spans line lane).made ms
made_exited spans ms [] lane fit = fit
made_exited spans ms (s ∷ up) lane fit = made_if (times_in s (entries_on lane spans.lanes) == 1) (without_hold spans.made s) spans.made ms (made_released spans.made ms s fit) fit

-- a guard more keeps its handle
still_more : (gs : List (Option ScopeGuard)) (hs : List (Option Scope)) (g : ScopeGuard) → ((n : ℕ) (x : ScopeGuard) → slot_at gs n ≡ Some x → slot_at hs x.handle ≡ Some x.scope) → slot_at hs g.handle ≡ Some g.scope
    → (n : ℕ) (x : ScopeGuard) → slot_at (gs ++ Some g ∷ []) n ≡ Some x → slot_at hs x.handle ≡ Some x.scope
still_more gs hs g still there n x is = named_push (λ (y : ScopeGuard). slot_at hs y.handle ≡ Some y.scope) gs (Some g) still (λ y e. subst (λ (z : ScopeGuard). slot_at hs z.handle ≡ Some z.scope) (the_guard g y e) there) n x is

-- a guard shares its handle as its table tells
borrowed_count : (dispatch handle : ℕ) (gs : List (Option ScopeGuard)) → count_by (names_handle handle) (map (option_map (guard_of dispatch)) gs) ≡ count_by (borrows handle) gs
borrowed_count dispatch handle [] = refl
borrowed_count dispatch handle (o ∷ gs) =
    count_cons (names_handle handle) (option_map (guard_of dispatch) o) (map (option_map (guard_of dispatch)) gs)
    ∙ ap (λ (b : Bool). cond {A = ℕ} b 1 0 + count_by (names_handle handle) (map (option_map (guard_of dispatch)) gs)) (by_guard o)
    ∙ ap (λ (n : ℕ). cond {A = ℕ} (borrows handle o) 1 0 + n) (borrowed_count dispatch handle gs)
    ∙ sym (count_cons (borrows handle) o gs)
  where
    by_guard : (o : Option ScopeGuard) → names_handle handle (option_map (guard_of dispatch) o) ≡ borrows handle o
    by_guard None = refl
    by_guard (Some g) = refl

pub shared_is : (dispatch : ℕ) (gs : List (Option ScopeGuard)) (g : Guard) (x : ScopeGuard) → g ≡ guard_of dispatch x → is_shared_by (map (option_map (guard_of dispatch)) gs) g ≡ is_shared gs x
shared_is dispatch gs g x is = ap (is_shared_by (map (option_map (guard_of dispatch)) gs)) is ∙ ap (λ (n : ℕ). x.owns && nat_lt 1 n) (borrowed_count dispatch x.handle gs)

-- an entry
pub fits_entered : (k next : PipelineState) (t : Tables) (at place handle : ℕ) (owns : Bool) (line : Scope) → Fits k t → slot_at t.handles handle ≡ Some line → next.spans ≡ spans_entered k.spans line (id_at k.setup.ids place) → next.setup ≡ k.setup
    → next.dispatch ≡ k.dispatch → next.handles ≡ k.handles → next.handle_sites ≡ k.handle_sites → next.guards ≡ k.guards ++ Some (guard_of k.dispatch (record { handle = handle; place = place; owns = owns; scope = line })) ∷ [] → next.contexts.contexts ≡ k.contexts.contexts → next.contexts.attaches ≡ k.contexts.attaches ++ None ∷ [] → next.moment ≡ at
    → Fits next (after_effect t (enter_effect (here_at k.setup t at place) handle owns line))
fits_entered k next t at place handle owns line fits there step setup dispatch handles sites guards named attaches moment =
    let g : ScopeGuard = record { handle = handle; place = place; owns = owns; scope = line } in
    let id = id_at k.setup.ids place in
    let live : (s : ℕ) (up : Scope) → line ≡ s ∷ up → 0 < (span_at k.spans.made s).holds = λ s up e. fits_live k.spans (map span_of_handle t.handles) (map (open_guard_by k.setup.ids) t.guards) t.entries fits.balanced handle s (named_slot t.handles handle line there ∙ ap span_of_scope e) in
    fits_step k t fits next (enter_effect (here_at k.setup t at place) handle owns line) (record {
      setup_is = setup;
      dispatch_is = dispatch;
      handles_are = handles;
      sites_are = sites;
      guards_are = guards;
      attaches_are = ap (map (option_map lane_place_of)) attaches ∙ map_push (option_map lane_place_of) k.contexts.attaches None;
      named_are = named;
      moment_is = moment;
      balanced = subst (λ (x : Spans). Balanced x (map span_of_handle t.handles) (map (open_guard_by k.setup.ids) (t.guards ++ Some g ∷ [])) (with_entry_on t.entries id (span_of_scope line))) (sym step) (balanced_enter k.setup.ids k.spans t.handles t.guards t.entries fits.balanced handle place owns line there);
      made_fit = subst (λ (x : Spans). SpansFit x.made t.spans) (sym step) (made_entered k.spans t.spans line id fits.made live);
      new_made = tt;
      new_site = tt;
      new_scope = λ l e. absurd (cc e);
      still = still_more t.guards t.handles g fits.still there;
      few = fits.few;
      few_holds = λ s. (let m = entered_most k.spans line id s in let f = fits.few_holds s in let e = ap (λ (x : Spans). (span_at x.made s).holds) step in let l = length_push t.guards (Some g) in omega (arith, m, f, e, l));
      one = subst (λ (x : Spans). OneEach x.lanes) (sym step) (one_entered k.spans line id fits.one_row);
    })

-- an exit
pub fits_exited : (k next : PipelineState) (t : Tables) (at guard : ℕ) (g : ScopeGuard) → Fits k t → slot_at t.guards guard ≡ Some g → next.spans ≡ spans_exited k.spans g.scope (id_at k.setup.ids g.place) → next.setup ≡ k.setup
    → next.dispatch ≡ k.dispatch → next.handles ≡ k.handles → next.handle_sites ≡ k.handle_sites → next.guards ≡ slice_set k.guards guard None → next.contexts ≡ k.contexts → next.moment ≡ at
    → (place : ℕ) → id_at k.setup.ids place ≡ id_at k.setup.ids g.place → Fits next (after_effect t (exit_effect (here_at k.setup t at place) guard g.scope))
fits_exited k next t at guard g fits there step setup dispatch handles sites guards contexts moment place on =
    let id = id_at k.setup.ids g.place in
    fits_step k t fits next (exit_effect (here_at k.setup t at place) guard g.scope) (record {
      setup_is = setup;
      dispatch_is = dispatch;
      handles_are = handles;
      sites_are = sites;
      guards_are = guards;
      attaches_are = ap (λ (c : ContextSlots). map (option_map lane_place_of) c.attaches) contexts;
      named_are = ap (λ (c : ContextSlots). c.contexts) contexts;
      moment_is = moment;
      balanced = subst (λ (l : ℕ). Balanced next.spans (map span_of_handle t.handles) (map (open_guard_by k.setup.ids) (slice_set t.guards guard None)) (with_exit_on t.entries l (span_of_scope g.scope))) (sym on)
          (subst (λ (x : Spans). Balanced x (map span_of_handle t.handles) (map (open_guard_by k.setup.ids) (slice_set t.guards guard None)) (with_exit_on t.entries id (span_of_scope g.scope))) (sym step) (balanced_exit k.setup.ids k.spans t.handles t.guards t.entries fits.balanced guard g there g.scope refl));
      made_fit = subst (λ (x : Spans). SpansFit x.made t.spans) (sym step) (made_exited k.spans t.spans g.scope id fits.made);
      new_made = tt;
      new_site = tt;
      new_scope = λ l e. absurd (cc e);
      still = λ n x is. fits.still n x (named_set t.guards guard n x is);
      few = fits.few;
      few_holds = λ s. (let m = exited_less k.spans g.scope id s in let f = fits.few_holds s in let e = ap (λ (x : Spans). (span_at x.made s).holds) step in let l = length-set t.guards guard None in omega (arith, m, f, e, l));
      one = subst (λ (x : Spans). OneEach x.lanes) (sym step) (one_exited k.spans g.scope id fits.one_row);
    })

no_active : (activation : Bool) → activated_span activation [] ≡ None
no_active true = refl
no_active false = refl

entered_live : (spans : Spans) (line : Scope) (lane q : ℕ) → ((s : ℕ) (up : Scope) → line ≡ s ∷ up → 0 < (span_at spans.made s).holds) → 0 < (span_at (spans_entered spans line lane).made q).holds → 0 < (span_at spans.made q).holds
entered_live spans [] lane q live some = some
entered_live spans (s ∷ up) lane q live some = elim (cases_Bool (is_in s (entries_on lane spans.lanes))) [
  | inl again ↦ (let e = ap (λ (xs : List Span). (span_at xs q).holds) (cond-true {A = List Span} (is_in s (entries_on lane spans.lanes)) spans.made (with_hold spans.made s) again) in omega (arith, e, some))
  | inr new ↦ (
      let e = ap (λ (xs : List Span). (span_at xs q).holds) (cond-false {A = List Span} (is_in s (entries_on lane spans.lanes)) spans.made (with_hold spans.made s) new) in
      elim (cases_eq q s) [
        | inl here ↦ (let l = live s up refl in let w = ap (λ (k : ℕ). (span_at spans.made k).holds) here in omega (arith, l, w))
        | inr other ↦ (let h = holds_other spans.made s (record (span_at spans.made s) { holds = (span_at spans.made s).holds + 1 }) q other in omega (arith, h, e, some))
      ])
]

-- what the effect attaches is what the layer attached
attach_is : (b : Bool) (s at : ℕ) (up : Scope) (r x : Recording) → open_part r ≡ x
    → (if b then Some (record { owner = EntryOf s; context = own_context_or empty_context (data_at s (with_start_if_some (id_if_on b s) at r).spans) }) else None) ≡ entry_context x at (activated_span b (s ∷ up))
attach_is true s at up r x is = ap (λ (xs : List (ℕ × SpanData)). Some (record { owner = EntryOf s; context = own_context_or empty_context (data_at s xs) })) (start_open s at r x is)
attach_is false s at up r x is = refl

-- what is heard of a scope's own span, which was made
on_known : (line : Scope) (heard : ℕ → FilterHook) (n : ℕ) → ((s : ℕ) (up : Scope) → line ≡ s ∷ up → IsKnownHeard n (heard s) × (count_heard n (heard s) ≡ n)) → AreKnown n (hooks_of_span line heard) n
on_known [] heard n known = refl
on_known (s ∷ up) heard n known = let k = known s up refl in (k.0, k.1)

module _ {S : Type 0} (spans : S → Spans) (views : Views S) (attaches : S → Bool) (kept : S → ℕ → ℕ → ℕ) (is_whole : S → Type 0) (parts : Parts S) (new : WorldValue S) where
  entered_spans : (at place : ℕ) (before later : Lane) (line : Scope) → before.id ≡ place → ShownOn spans views attaches kept is_whole parts.world new parts.dispatch line (λ id. Enter id at before later) → spans_in spans new parts.dispatch ≡ spans_entered (spans_in spans parts.world parts.dispatch) line place
  entered_spans at place before later [] id same = ap (λ (w : WorldValue S). spans_in spans w parts.dispatch) same
  entered_spans at place before later (s ∷ up) id shown = shown.0.spans_after ∙ ap (λ (l : ℕ). with_span_entry (spans_in spans parts.world parts.dispatch) s l) id

  exited_spans : (at place : ℕ) (before later : Lane) (line : Scope) → before.id ≡ place → ShownOn spans views attaches kept is_whole parts.world new parts.dispatch line (λ id. Exit id at before later) → spans_in spans new parts.dispatch ≡ spans_exited (spans_in spans parts.world parts.dispatch) line place
  exited_spans at place before later [] id same = ap (λ (w : WorldValue S). spans_in spans w parts.dispatch) same
  exited_spans at place before later (s ∷ up) id shown = shown.0.spans_after ∙ ap (λ (l : ℕ). with_span_exit (spans_in spans parts.world parts.dispatch) s l) id

  -- what was recorded: the span is known, so the layer was told
  entry_told : (at : ℕ) (before later : Lane) (s : ℕ) → data_at s (read_subscriber views.recording no_recording parts.world parts.dispatch).spans ≢ None → RecordsCall (spans_in spans parts.world parts.dispatch) (read_subscriber views.recording no_recording parts.world parts.dispatch) (Enter s at before later) (read_subscriber views.recording no_recording new parts.dispatch)
      → Enters (read_subscriber views.recording no_recording parts.world parts.dispatch) s at before later (read_subscriber views.recording no_recording new parts.dispatch)
  entry_told at before later s known told = told.is_known (knows_it s (read_subscriber views.recording no_recording parts.world parts.dispatch).spans known)

  exit_told : (at : ℕ) (before later : Lane) (s : ℕ) → data_at s (read_subscriber views.recording no_recording parts.world parts.dispatch).spans ≢ None → RecordsCall (spans_in spans parts.world parts.dispatch) (read_subscriber views.recording no_recording parts.world parts.dispatch) (Exit s at before later) (read_subscriber views.recording no_recording new parts.dispatch)
      → Exits (read_subscriber views.recording no_recording parts.world parts.dispatch) s at before later (read_subscriber views.recording no_recording new parts.dispatch)
  exit_told at before later s known told = told.is_known (knows_it s (read_subscriber views.recording no_recording parts.world parts.dispatch).spans known)

  -- over what the code has
  module _ (does : S → SubscriberCall → S → Type 0) (law : CallsLaw spans views attaches kept is_whole does)
      (at place : ℕ) (before later : Lane) (within : place < length parts.lanes) (here : before ≡ get_or parts.lanes place before) where
    abbrev now : PipelineState
    now = state_of spans views parts

    abbrev place_id : ℕ
    place_id = id_at now.setup.ids place

    id_is : before.id ≡ place_id
    id_is = id_seen parts.lanes place before within here

    abbrev r : Recording
    r = read_subscriber views.recording no_recording parts.world parts.dispatch

    abbrev r' : Recording
    r' = read_subscriber views.recording no_recording new parts.dispatch

    setup_after : new.sites ≡ parts.world.sites → later.id ≡ before.id → later.name ≡ before.name → r'.settings ≡ r.settings → (state_of spans views (record parts { world = new; lanes = set parts.lanes place later; moment = at })).setup ≡ now.setup
    setup_after sites id name settings = rw (sites, ids_same parts.lanes place before later within here id, names_same parts.lanes place before later within here name, settings) refl

    abbrev parts_with : List (Option Guard) → ContextSlots → Parts S
    parts_with gs' cs' = record parts { world = new; lanes = set parts.lanes place later; guards = gs'; contexts = cs'; moment = at }

    abbrev then_with : List (Option Guard) → ContextSlots → PipelineState
    then_with gs' cs' = state_of spans views (parts_with gs' cs')

    abbrev ls' : List LaneValue
    ls' = map lane_value (set parts.lanes place later)

    abbrev lanes_of : Type 0
    lanes_of = (n m : ℕ) → n < length (map lane_value parts.lanes) → m < length (map lane_value parts.lanes) → (lane_at (map lane_value parts.lanes) n).id ≡ (lane_at (map lane_value parts.lanes) m).id → n ≡ m

    -- what the filter hears of an entry and of an exit
    entry_heard : (line : Scope) → ShownOn spans views attaches kept is_whole parts.world new parts.dispatch line (λ id. Enter id at before later)
        → read_subscriber views.filter None new parts.dispatch ≡ option_map (λ f. fold after_filter_hook f (hooks_of_span line (λ s. HookEnter s place_id))) (read_subscriber views.filter None parts.world parts.dispatch)
    entry_heard [] same = ap (λ (w : WorldValue S). read_subscriber views.filter None w parts.dispatch) same ∙ heard_none (read_subscriber views.filter None parts.world parts.dispatch)
    entry_heard (s ∷ up) shown = shown.3 ∙ ap (λ (l : ℕ). option_map (λ (f : FilterState). after_filter_hook f (HookEnter s l)) (read_subscriber views.filter None parts.world parts.dispatch)) id_is

    exit_heard : (line : Scope) → ShownOn spans views attaches kept is_whole parts.world new parts.dispatch line (λ id. Exit id at before later)
        → read_subscriber views.filter None new parts.dispatch ≡ option_map (λ f. fold after_filter_hook f (hooks_of_span line (λ s. HookExit s place_id))) (read_subscriber views.filter None parts.world parts.dispatch)
    exit_heard [] same = ap (λ (w : WorldValue S). read_subscriber views.filter None w parts.dispatch) same ∙ heard_none (read_subscriber views.filter None parts.world parts.dispatch)
    exit_heard (s ∷ up) shown = shown.3 ∙ ap (λ (l : ℕ). option_map (λ (f : FilterState). after_filter_hook f (HookExit s l)) (read_subscriber views.filter None parts.world parts.dispatch)) id_is

    -- an exit, by the scope of its guard
    exited_record : (gs' : List (Option Guard)) (t : Tables) (guard : ℕ) (line : Scope) → RecordingFits now t → ((s : ℕ) (up : Scope) → line ≡ s ∷ up → 0 < (span_at now.spans.made s).holds) → lanes_of → later.id ≡ before.id → (line ≡ [] → later ≡ before)
        → ShownOn spans views attaches kept is_whole parts.world new parts.dispatch line (λ id. Exit id at before later)
        → (toks : List Token) × (r' ≡ record (recording_after (length t.spans) (exit_effect (here_at now.setup t at place) guard line) r) { tokens = toks }) × AllFit (then_with gs' parts.contexts) (after_effect t (exit_effect (here_at now.setup t at place) guard line)).contexts
    exited_record gs' t guard [] fit live differ same none shown =
        let is = ap (λ (w : WorldValue S). read_subscriber views.recording no_recording w parts.dispatch) shown in (
          r.tokens,
          is,
          subst (λ (c : Recording). AllContextsFit c.settings.activation ls' c.tokens parts.contexts.attaches (after_effect t (exit_effect (here_at now.setup t at place) guard [])).contexts) (sym is)
              (subst (λ (ls : List LaneValue). AllContextsFit r.settings.activation ls r.tokens parts.contexts.attaches (after_effect t (exit_effect (here_at now.setup t at place) guard [])).contexts) (sym (lanes_same parts.lanes place before later within here (ap lane_value (none refl))))
              (subst (λ (o : Option ℕ). AllContextsFit r.settings.activation (map lane_value parts.lanes) r.tokens parts.contexts.attaches (with_detached t.contexts place_id (option_map EntryOf o))) (sym (no_active r.settings.activation)) fit.attached)),
        )
    exited_record gs' t guard (s ∷ up) fit live differ same none shown =
        let x = exit_told at before later s (fit.known s (live s up refl)) shown.2 in
        let toks = without_last (is_token before.id s) r.tokens in (
          toks,
          x.is,
          subst (λ (c : Recording). AllContextsFit c.settings.activation ls' c.tokens parts.contexts.attaches (after_effect t (exit_effect (here_at now.setup t at place) guard (s ∷ up))).contexts) (sym x.is)
              (subst (λ (l : ℕ). AllContextsFit r.settings.activation ls' toks parts.contexts.attaches (with_detached t.contexts l (option_map EntryOf (if r.settings.activation then Some s else None)))) id_is
              (all_exited r.settings.activation parts.lanes place before later within here same differ r.tokens parts.contexts.attaches t.contexts fit.attached s x.token x.last x.lane)),
        )

    -- an entry, by the scope of its handle
    entered_record : (gs' : List (Option Guard)) (cs' : ContextSlots) (t : Tables) (handle : ℕ) (owns : Bool) (line : Scope) → RecordingFits now t → ((s : ℕ) (up : Scope) → line ≡ s ∷ up → 0 < (span_at now.spans.made s).holds) → lanes_of → later.id ≡ before.id → (line ≡ [] → later ≡ before)
        → cs'.attaches ≡ parts.contexts.attaches ++ None ∷ [] → ShownOn spans views attaches kept is_whole parts.world new parts.dispatch line (λ id. Enter id at before later)
        → (toks : List Token) × (r' ≡ record (recording_after (length t.spans) (enter_effect (here_at now.setup t at place) handle owns line) r) { tokens = toks }) × AllFit (then_with gs' cs') (after_effect t (enter_effect (here_at now.setup t at place) handle owns line)).contexts
    entered_record gs' cs' t handle owns [] fit live differ same none skip shown =
        let is = ap (λ (w : WorldValue S). read_subscriber views.recording no_recording w parts.dispatch) shown in
        let nothing : (b : Bool) → recording_after (length t.spans) (record (quiet_effect at place_id (reply.Guard 0)) { starts = option_to_list (activated_span b []) }) r ≡ r = λ b. ap (λ (o : Option ℕ). recording_after (length t.spans) (record (quiet_effect at place_id (reply.Guard 0)) { starts = option_to_list o }) r) (no_active b) in (
          r.tokens,
          is ∙ ap (λ (x : Recording). record x { tokens = r.tokens }) (sym (nothing r.settings.activation)),
          subst (λ (ks : List (Option AttachGuard)). AllContextsFit r'.settings.activation ls' r'.tokens ks (after_effect t (enter_effect (here_at now.setup t at place) handle owns [])).contexts) (sym skip)
              (all_skipped r'.settings.activation ls' r'.tokens parts.contexts.attaches (after_effect t (enter_effect (here_at now.setup t at place) handle owns [])).contexts
              (subst (λ (c : Recording). AllContextsFit c.settings.activation ls' c.tokens parts.contexts.attaches (after_effect t (enter_effect (here_at now.setup t at place) handle owns [])).contexts) (sym is)
              (subst (λ (ls : List LaneValue). AllContextsFit r.settings.activation ls r.tokens parts.contexts.attaches (after_effect t (enter_effect (here_at now.setup t at place) handle owns [])).contexts) (sym (lanes_same parts.lanes place before later within here (ap lane_value (none refl))))
              (subst (λ (o : Option ℕ). AllContextsFit r.settings.activation (map lane_value parts.lanes) r.tokens parts.contexts.attaches (with_attached t.contexts place_id (entry_context t.recording at o))) (sym (no_active r.settings.activation)) fit.attached)))),
        )
    entered_record gs' cs' t handle owns (s ∷ up) fit live differ same none skip shown =
        let x = entry_told at before later s (fit.known s (live s up refl)) shown.2 in
        let b = r.settings.activation in
        let token : Token = record { lane = before.id; id = s; attached = x.attached } in
        let toks = r.tokens ++ token ∷ [] in
        let own = own_context_or empty_context (data_at s (with_start_if_some (id_if_on b s) at r).spans) in
        let rec_is : r' ≡ record (recording_after (length t.spans) (enter_effect (here_at now.setup t at place) handle owns (s ∷ up)) r) { tokens = toks } =
        x.is ∙ ap (λ (y : Recording). record (with_applied s at ops.Enter y) { tokens = y.tokens ++ token ∷ [] }) (sym (starts_fold (id_if_on b s) at r))
        ∙ ap (λ (ts : List Token). record (with_applied s at ops.Enter (fold (λ r s. with_start s at r) r (option_to_list (id_if_on b s)))) { tokens = ts ++ token ∷ [] }) (ap (λ (y : Recording). y.tokens) (starts_fold (id_if_on b s) at r) ∙ entry_tokens (id_if_on b s) at r) in
        let settings : r'.settings ≡ r.settings = ap (λ (c : Recording). c.settings) rec_is ∙ recorded_settings (length t.spans) (enter_effect (here_at now.setup t at place) handle owns (s ∷ up)) r in
        let tokens : r'.tokens ≡ toks = ap (λ (c : Recording). c.tokens) rec_is in (
          toks,
          rec_is,
          subst (λ (ks : List (Option AttachGuard)). AllContextsFit r'.settings.activation ls' r'.tokens ks (after_effect t (enter_effect (here_at now.setup t at place) handle owns (s ∷ up))).contexts) (sym skip)
              (subst (λ (ts : List Token). AllContextsFit r'.settings.activation ls' ts (parts.contexts.attaches ++ None ∷ []) (after_effect t (enter_effect (here_at now.setup t at place) handle owns (s ∷ up))).contexts) (sym tokens)
              (subst (λ (c : LayerSettings). AllContextsFit c.activation ls' toks (parts.contexts.attaches ++ None ∷ []) (after_effect t (enter_effect (here_at now.setup t at place) handle owns (s ∷ up))).contexts) (sym settings)
              (subst (λ (o : Option Attached). AllContextsFit b ls' toks (parts.contexts.attaches ++ None ∷ []) (with_attached t.contexts place_id o)) (attach_is b s at up r t.recording fit.recorded)
              (subst (λ (l : ℕ). AllContextsFit b ls' toks (parts.contexts.attaches ++ None ∷ []) (with_attached t.contexts l (if b then Some (record { owner = EntryOf s; context = own }) else None))) id_is
              (all_entered b parts.lanes place before later within here same differ r.tokens parts.contexts.attaches t.contexts fit.attached s own x.attached x.lane))))),
        )

    module _ (guard : ℕ) (g : Guard) (found : slot_at parts.guards guard ≡ Some g) (on : g.place ≡ place) (gs' : List (Option Guard)) (one : gs' ≡ slice_set parts.guards guard None) (h : Handle) (entry_is : g.entry ≡ h.held)
        (did : ReplacedOn (λ id s t. does s (Exit id at before later) t) parts.world new h.held) (none : h.held ≡ None → later ≡ before) (alone : is_shared_by parts.guards g ≡ false) (inv : PipelineInvariant spans views kept is_whole parts) where
      abbrev exited_then_parts : Parts S
      exited_then_parts = parts_with gs' parts.contexts

      abbrev exited_then : PipelineState
      exited_then = then_with gs' parts.contexts

      pub serves_exited : (t : Tables) → StandsFor now t → IsServed (effect_of_call now.setup t at place (call.Exit guard)) t now exited_then reply.Done
      serves_exited t stands =
          let fits = stands.fits in
          let open_one = find (guard_of parts.dispatch) parts.guards t.guards guard g fits.guard_slots found in
          let x = open_one.at in
          let mine : x.place ≡ place = ap (λ (x : Guard). x.place) (sym open_one.is) ∙ on in
          let is : h.held ≡ held_of parts.dispatch x.scope = sym entry_is ∙ ap (λ (x : Guard). x.entry) open_one.is in
          let shown = shown_on spans views attaches kept is_whole does law parts.world new parts.dispatch x.scope h.held is (λ id. Exit id at before later) did in
          let none_at : x.scope ≡ [] → later ≡ before = λ e. none (is ∙ ap (held_of parts.dispatch) e) in
          let moved = call_lanes spans views attaches kept is_whole parts new x.scope (λ id. Exit id at before later) before later (λ s b f g l. (l.0.id, l.0.name, l.0.default, l.1)) none_at shown in
          let sites = call_sites spans views attaches kept is_whole parts new x.scope (λ id. Exit id at before later) shown in
          let lane_is : place_id ≡ id_at now.setup.ids x.place = ap (id_at now.setup.ids) (sym mine) in
          let e : Effect = exit_effect (here_at now.setup t at place) guard x.scope in
          let live : (s : ℕ) (up : Scope) → x.scope ≡ s ∷ up → 0 < (span_at now.spans.made s).holds = λ s up e. fits_live now.spans (map span_of_handle t.handles) (map (open_guard_by now.setup.ids) t.guards) t.entries fits.balanced x.handle s (named_slot t.handles x.handle x.scope (fits.still guard x open_one.there) ∙ ap span_of_scope e) in
          let rec_is = exited_record gs' t guard x.scope stands.recording live inv.lanes.differ moved.0 none_at shown in
          let settings = ap (λ (c : Recording). c.settings) rec_is.1 ∙ recorded_settings (length t.spans) e r in
          let setup = setup_after sites moved.0 moved.1 settings in
          let step = exited_spans at (id_at now.setup.ids x.place) before later x.scope (id_is ∙ lane_is) shown in
          serve now exited_then t e _ reply.Done stands
          (ap (λ o. need what.Guard o >>= (λ (y : ScopeGuard). refuse_if (is_shared t.guards y) refusal.InUse (refuse_if (not (y.place == place)) (refusal.WrongLane y.place) (Ok (exit_effect (here_at now.setup t at place) guard y.scope))))) open_one.there
          ∙ cond-false {A = Resolved} (is_shared t.guards x) _ _ (sym (ap (λ (xs : List (Option Guard)). is_shared_by xs g) fits.guard_slots ∙ shared_is parts.dispatch t.guards g x open_one.is) ∙ alone)
          ∙ cond-false {A = Resolved} (not (x.place == place)) _ _ (ap not (eq-eqb x.place place mine)))
          refl setup rec_is.0 rec_is.1 (fits_exited now exited_then t at guard x fits open_one.there step setup refl refl refl one refl refl place lane_is)
          (λ s some. known_still now exited_then t e rec_is.0 rec_is.1 stands.recording s refl (let a = exited_less now.spans x.scope (id_at now.setup.ids x.place) s in let b = ap (λ (y : Spans). (span_at y.made s).holds) step in omega (arith, a, b, some)))
          rec_is.2
          (record { quiet = refl; before = read_subscriber views.filter None parts.world parts.dispatch; later = read_subscriber views.filter None new parts.dispatch; shown_before = refl; shown_later = refl; told = exit_heard x.scope shown; known = on_known x.scope (λ s. HookExit s place_id) (length t.spans) (λ s up e. ((subst (IsScope t.spans) e (fits.scopes x.handle x.scope (fits.still guard x open_one.there))).0, refl)); cached = call_cached spans views attaches kept is_whole parts new x.scope (λ id. Exit id at before later) shown; aside = record { before = aside_in views parts.world parts.dispatch; later = aside_in views new parts.dispatch; shown_before = refl; shown_later = refl; waits_before = refl; waits_later = refl; adds = call_aside spans views attaches kept is_whole parts new x.scope (λ id. Exit id at before later) (λ s. refl) shown } })

      pub keeps_exited : PipelineInvariant spans views kept is_whole exited_then_parts
      keeps_exited =
          let open_one = find (guard_of parts.dispatch) parts.guards inv.tables.guards guard g inv.stands.fits.guard_slots found in
          let x = open_one.at in
          let is : h.held ≡ held_of parts.dispatch x.scope = sym entry_is ∙ ap (λ (x : Guard). x.entry) open_one.is in
          let shown = shown_on spans views attaches kept is_whole does law parts.world new parts.dispatch x.scope h.held is (λ id. Exit id at before later) did in
          let moved = call_lanes spans views attaches kept is_whole parts new x.scope (λ id. Exit id at before later) before later (λ s b f g l. (l.0.id, l.0.name, l.0.default, l.1)) (λ e. none (is ∙ ap (held_of parts.dispatch) e)) shown in
          kept_served spans views kept is_whole parts exited_then_parts inv _ _ (serves_exited inv.tables inv.stands) refl (call_count spans views attaches kept is_whole parts new x.scope (λ id. Exit id at before later) shown) (call_whole spans views attaches kept is_whole parts new x.scope (λ id. Exit id at before later) shown)
          (lanes_step _ _ _ parts.lanes place before later within here inv.lanes moved.0 moved.2 moved.3)

    module _ (handle number : ℕ) (owns : Bool) (h : Handle) (entry : HeldSpan) (gs' : List (Option Guard)) (found : slot_at parts.handles handle ≡ Some h) (is : entry ≡ h.held) (many : number ≡ length parts.guards) (one : gs' ≡ parts.guards ++ Some (record { handle = handle; place = place; owns = owns; entry = entry }) ∷ [])
        (cs' : ContextSlots) (named_same : cs'.contexts ≡ parts.contexts.contexts) (skip : cs'.attaches ≡ parts.contexts.attaches ++ None ∷ [])
        (did : ReplacedOn (λ id s t. does s (Enter id at before later) t) parts.world new h.held) (none : h.held ≡ None → later ≡ before) (inv : PipelineInvariant spans views kept is_whole parts)
        (free : (t : Tables) → StandsFor now t → (line : Scope) → slot_at t.handles handle ≡ Some line → h.held ≡ held_of parts.dispatch line → meets_full now.setup.layer.activation line (t.contexts place_id) ≡ false) where
      abbrev entered_then_parts : Parts S
      entered_then_parts = parts_with gs' cs'

      abbrev entered_then : PipelineState
      entered_then = then_with gs' cs'

      pub serves_entered : (t : Tables) → StandsFor now t → IsServed (entry_call (here_at now.setup t at place) handle owns) t now entered_then (reply.Guard number)
      serves_entered t stands =
          let fits = stands.fits in
          let line = find (held_of parts.dispatch) (map held_by parts.handles) t.handles handle h.held fits.handle_slots (held_slot parts.handles handle h found) in
          let shown = shown_on spans views attaches kept is_whole does law parts.world new parts.dispatch line.at h.held line.is (λ id. Enter id at before later) did in
          let none_at : line.at ≡ [] → later ≡ before = λ e. none (line.is ∙ ap (held_of parts.dispatch) e) in
          let moved = call_lanes spans views attaches kept is_whole parts new line.at (λ id. Enter id at before later) before later (λ s b f g l. (l.0.id, l.0.name, l.0.default, l.1)) none_at shown in
          let sites = call_sites spans views attaches kept is_whole parts new line.at (λ id. Enter id at before later) shown in
          let guards_are : gs' ≡ parts.guards ++ Some (guard_of parts.dispatch (record { handle = handle; place = place; owns = owns; scope = line.at })) ∷ [] = one ∙ ap (λ (h : HeldSpan). parts.guards ++ Some (record { handle = handle; place = place; owns = owns; entry = h }) ∷ []) (is ∙ line.is) in
          let e : Effect = enter_effect (here_at now.setup t at place) handle owns line.at in
          let live : (s : ℕ) (up : Scope) → line.at ≡ s ∷ up → 0 < (span_at now.spans.made s).holds = λ s up e. fits_live now.spans (map span_of_handle t.handles) (map (open_guard_by now.setup.ids) t.guards) t.entries fits.balanced handle s (named_slot t.handles handle line.at line.there ∙ ap span_of_scope e) in
          let rec_is = entered_record gs' cs' t handle owns line.at stands.recording live inv.lanes.differ moved.0 none_at skip shown in
          let settings = ap (λ (c : Recording). c.settings) rec_is.1 ∙ recorded_settings (length t.spans) e r in
          let setup = setup_after sites moved.0 moved.1 settings in
          let step = entered_spans at place_id before later line.at id_is shown in
          serve now entered_then t e _ (reply.Guard number) stands
          (ap (λ o. need what.Handle o >>= (λ line. refuse_if (meets_full now.setup.layer.activation line (t.contexts place_id)) (refusal.Full place) (Ok (enter_effect (here_at now.setup t at place) handle owns line)))) line.there
          ∙ cond-false {A = Resolved} (meets_full now.setup.layer.activation line.at (t.contexts place_id)) _ _ (free t stands line.at line.there line.is))
          (ap reply.Guard (many ∙ ap length fits.guard_slots ∙ length-map t.guards (option_map (guard_of parts.dispatch))))
          setup rec_is.0 rec_is.1 (fits_entered now entered_then t at place handle owns line.at fits line.there step setup refl refl refl guards_are named_same skip refl)
          (λ s some. known_still now entered_then t e rec_is.0 rec_is.1 stands.recording s refl (entered_live now.spans line.at place_id s live (subst (λ (y : Spans). 0 < (span_at y.made s).holds) step some)))
          rec_is.2
          (record { quiet = refl; before = read_subscriber views.filter None parts.world parts.dispatch; later = read_subscriber views.filter None new parts.dispatch; shown_before = refl; shown_later = refl; told = entry_heard line.at shown; known = on_known line.at (λ s. HookEnter s place_id) (length t.spans) (λ s up e. ((subst (IsScope t.spans) e (fits.scopes handle line.at line.there)).0, refl)); cached = call_cached spans views attaches kept is_whole parts new line.at (λ id. Enter id at before later) shown; aside = record { before = aside_in views parts.world parts.dispatch; later = aside_in views new parts.dispatch; shown_before = refl; shown_later = refl; waits_before = refl; waits_later = refl; adds = call_aside spans views attaches kept is_whole parts new line.at (λ id. Enter id at before later) (λ s. refl) shown } })

      pub keeps_entered : PipelineInvariant spans views kept is_whole entered_then_parts
      keeps_entered =
          let line = find (held_of parts.dispatch) (map held_by parts.handles) inv.tables.handles handle h.held inv.stands.fits.handle_slots (held_slot parts.handles handle h found) in
          let shown = shown_on spans views attaches kept is_whole does law parts.world new parts.dispatch line.at h.held line.is (λ id. Enter id at before later) did in
          let moved = call_lanes spans views attaches kept is_whole parts new line.at (λ id. Enter id at before later) before later (λ s b f g l. (l.0.id, l.0.name, l.0.default, l.1)) (λ e. none (line.is ∙ ap (held_of parts.dispatch) e)) shown in
          kept_served spans views kept is_whole parts entered_then_parts inv _ _ (serves_entered inv.tables inv.stands) refl (call_count spans views attaches kept is_whole parts new line.at (λ id. Enter id at before later) shown) (call_whole spans views attaches kept is_whole parts new line.at (λ id. Enter id at before later) shown)
          (lanes_step _ _ _ parts.lanes place before later within here inv.lanes moved.0 moved.2 moved.3)

-- an exit of a guard that owns its handle, which has another open guard
pub refuses_shared : (k : PipelineState) (guard : ℕ) (g : Guard) → slot_at k.guards guard ≡ Some g → is_shared_by k.guards g ≡ true → (at place : ℕ) (t : Tables) → StandsFor k t → effect_of_call k.setup t at place (call.Exit guard) ≡ Err refusal.InUse
refuses_shared k guard g found shared at place t stands =
    let fits = stands.fits in
    let x = find (guard_of k.dispatch) k.guards t.guards guard g fits.guard_slots found in
    ap (λ o. need what.Guard o >>= (λ (y : ScopeGuard). refuse_if (is_shared t.guards y) refusal.InUse (refuse_if (not (y.place == place)) (refusal.WrongLane y.place) (Ok (exit_effect (here_at k.setup t at place) guard y.scope))))) x.there
    ∙ cond-true {A = Resolved} (is_shared t.guards x.at) _ _ (sym (ap (λ (xs : List (Option Guard)). is_shared_by xs g) fits.guard_slots ∙ shared_is k.dispatch t.guards g x.at x.is) ∙ shared)

abbrev wrong_lane : ℕ → Resolved
wrong_lane place = Err (refusal.WrongLane place)

-- one on another lane than the guard's
pub refuses_wrong_lane : (k : PipelineState) (guard : ℕ) (g : Guard) → slot_at k.guards guard ≡ Some g → is_shared_by k.guards g ≡ false → (at place : ℕ) → (g.place ≡ place → ⊥) → (t : Tables) → StandsFor k t → effect_of_call k.setup t at place (call.Exit guard) ≡ Err (refusal.WrongLane g.place)
refuses_wrong_lane k guard g found alone at place other t stands =
    let fits = stands.fits in
    let x = find (guard_of k.dispatch) k.guards t.guards guard g fits.guard_slots found in
    let lane_is : g.place ≡ x.at.place = ap (λ (y : Guard). y.place) x.is in
    ap (λ o. need what.Guard o >>= (λ (y : ScopeGuard). refuse_if (is_shared t.guards y) refusal.InUse (refuse_if (not (y.place == place)) (refusal.WrongLane y.place) (Ok (exit_effect (here_at k.setup t at place) guard y.scope))))) x.there
    ∙ cond-false {A = Resolved} (is_shared t.guards x.at) _ _ (sym (ap (λ (xs : List (Option Guard)). is_shared_by xs g) fits.guard_slots ∙ shared_is k.dispatch t.guards g x.at x.is) ∙ alone)
    ∙ cond-true {A = Resolved} (not (x.at.place == place)) _ _ (ap not (ne_eqb x.at.place place (λ e. other (lane_is ∙ e))))
    ∙ ap wrong_lane (sym lane_is)

-- what is said of the fields is said of the value that they make
pub by_view_opens : (at place handle : ℕ) (owns : Bool) (next : PipelineState) (answer : Reply) (view k : PipelineState) → view ≡ k → ((t : Tables) → StandsFor view t → IsServed (entry_call (here_at view.setup t at place) handle owns) t view next answer)
    → ServesResolved (λ t. entry_call (here_at k.setup t at place) handle owns) false k (Ok answer) next
by_view_opens at place handle owns next answer view k is serves = record {
  ok = subst (λ (x : PipelineState). (t : Tables) → StandsFor x t → IsServed (entry_call (here_at x.setup t at place) handle owns) t x next answer) is serves;
  refused = λ t stands. tt;
  err = tt;
  room = λ none wants. cc wants;
}

-- a guard that owns its handle, made where no other one is open
pub entered_is : (k : PipelineState) (hs : List (Option Handle)) → k.handles ≡ map held_by hs → (handle : ℕ) (h : Handle) → slot_at hs handle ≡ Some h → (at place : ℕ) (t : Tables) → StandsFor k t
    → (is_named_by_guard k.guards handle ≡ false → effect_of_call k.setup t at place (call.Entered handle) ≡ entry_call (here_at k.setup t at place) handle true) × (is_named_by_guard k.guards handle ≡ true → effect_of_call k.setup t at place (call.Entered handle) ≡ Err refusal.InUse)
entered_is k hs are handle h found at place t stands =
    let fits = stands.fits in
    let line = find (held_of k.dispatch) (map held_by hs) t.handles handle h.held (sym are ∙ fits.handle_slots) (held_slot hs handle h found) in
    let named_is : is_named_by_guard k.guards handle ≡ is_borrowed t.guards handle = ap (λ (xs : List (Option Guard)). is_named_by_guard xs handle) fits.guard_slots ∙ borrowed_is k.dispatch t.guards handle in
    let there = ap (λ o. need what.Handle o >>= (λ (scope : Scope). refuse_if (is_borrowed t.guards handle) refusal.InUse (entry_call (here_at k.setup t at place) handle true))) line.there in (
      λ free. there ∙ cond-false {A = Resolved} (is_borrowed t.guards handle) _ _ (sym named_is ∙ free),
      λ used. there ∙ cond-true {A = Resolved} (is_borrowed t.guards handle) _ _ (sym named_is ∙ used),
    )

pub entered_ok : (view k : PipelineState) → view ≡ k → (hs : List (Option Handle)) → view.handles ≡ map held_by hs → (handle : ℕ) (h : Handle) → slot_at hs handle ≡ Some h → is_named_by_guard view.guards handle ≡ false → (at place : ℕ) (result : Result Reply Refusal) (next : PipelineState)
    → ((t : Tables) → StandsFor k t → IfOk result (IsServed (entry_call (here_at k.setup t at place) handle true) t k next)) → (t : Tables) → StandsFor k t → IfOk result (IsServed (effect_of_call k.setup t at place (call.Entered handle)) t k next)
entered_ok view k same hs are handle h found free at place result next did t stands =
    let is = (entered_is k hs (ap (λ (x : PipelineState). x.handles) (sym same) ∙ are) handle h found at place t stands).0 (ap (λ (x : PipelineState). is_named_by_guard x.guards handle) (sym same) ∙ free) in
    subst (λ (r : Resolved). IfOk result (IsServed r t k next)) (sym is) (did t stands)

pub entered_refused : (view k : PipelineState) → view ≡ k → (hs : List (Option Handle)) → view.handles ≡ map held_by hs → (handle : ℕ) (h : Handle) → slot_at hs handle ≡ Some h → is_named_by_guard view.guards handle ≡ false → (at place : ℕ) (result : Result Reply Refusal)
    → ((t : Tables) → StandsFor k t → IfErr result (IsRefusal (entry_call (here_at k.setup t at place) handle true))) → (t : Tables) → StandsFor k t → IfErr result (IsRefusal (effect_of_call k.setup t at place (call.Entered handle)))
entered_refused view k same hs are handle h found free at place result did t stands =
    let is = (entered_is k hs (ap (λ (x : PipelineState). x.handles) (sym same) ∙ are) handle h found at place t stands).0 (ap (λ (x : PipelineState). is_named_by_guard x.guards handle) (sym same) ∙ free) in
    subst (λ (r : Resolved). IfErr result (IsRefusal r)) (sym is) (did t stands)

pub by_view_opens_refused : (at place handle : ℕ) (owns : Bool) (given : Refusal) (view k : PipelineState) → view ≡ k → ((t : Tables) → StandsFor view t → entry_call (here_at view.setup t at place) handle owns ≡ Err given)
    → (t : Tables) → StandsFor k t → entry_call (here_at k.setup t at place) handle owns ≡ Err given
by_view_opens_refused at place handle owns given view k is refuses = subst (λ (x : PipelineState). (t : Tables) → StandsFor x t → entry_call (here_at x.setup t at place) handle owns ≡ Err given) is refuses
