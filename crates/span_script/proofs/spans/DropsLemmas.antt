-- A handle that is dropped, served.
use Rattle.std.proofs.Common.{◌≡◌, ℕ, ◌<◌, List, [], ◌∷◌, length, Bool, true, false, fold, slice_set, Option, Some, None, Err, option_map, map, refl, sym, ap, subst, ◌∙◌, inl, inr, Ok, ◌||◌, ◌&&◌, not}
use Rattle.span_script.proofs.Common.{cases_lt, cond-true, cond-false, map-set, WorldValue, is_in, Spans, span_at, SubscriberCall, FilterState, without_span, FiltersChain, read_subscriber, spans_in, kept_in, Has, Chain, ReleasesChain, closed_in, ChainChangesPlainData, Handle, HeldSpan, ReplacedOn, Guard, Recording, no_recording, RecordsChain, with_close, Scope, HookClose, Effect, Tables, after_effect, recording_after, slot_at, here_at, Resolved, refuse_if, ◌>>=◌, need, effect_of_call, after_filter_hook, is_open, closed_of, drop_effect, is_borrowed, is_named_by_guard, Views, PipelineState, state_of, lane_value, StandsFor, LanesFit, PipelineInvariant, IsServed, held_of, held_by, site_by, Parts, AddsMeasures, aside_in, ChainsLaw}
use Rattle.std.proofs.lemmas.Bool.{lt-ltb, le-ltb, true≢false}
use Rattle.span_script.proofs.filter.CounterLemmas.{adds_same}
use Rattle.span_script.proofs.filter.FilterLemmas.{AreKnown, heard_none}
use Rattle.span_script.specs.declared.reply.Refusal.TheVariants as refusal
use Rattle.span_script.specs.declared.reply.Reply.TheVariants as reply
use Rattle.span_script.specs.declared.request.Call.TheVariants as call
use Rattle.span_script.specs.declared.reply.What.TheVariants as what
use Rattle.span_script.specs.Fits.{Fits}
use Rattle.span_script.proofs.steps.SlotsLemmas.{find, held_slot}
use Rattle.span_script.proofs.steps.RecordingLemmas.{recorded_settings, recorded_tokens}
use Rattle.span_script.proofs.steps.ServesLemmas.{serve, known_still, all_same, kept_served}
use Rattle.span_script.proofs.spans.OpenSpansLemmas.{opens, set_open, in_filter}
use Rattle.span_script.proofs.spans.ClosingOrderLemmas.{drop_order}
use Rattle.span_script.proofs.spans.ChainsLemmas.{ReleasedOn, fits_dropped, borrowed_is}

-- a span with holds after a drop had holds before, and isn't closed
drop_known : (k next : PipelineState) (t : Tables) (at place handle : ℕ) (line : Scope) → Fits k t → slot_at t.handles handle ≡ Some line → Fits next (after_effect t (drop_effect (here_at k.setup t at place) handle line)) → (s : ℕ) → 0 < (span_at next.spans.made s).holds
    → (is_in s (closed_of (slice_set t.handles handle None) line) ≡ false) × (0 < (span_at k.spans.made s).holds)
drop_known k next t at place handle line fits there later s some =
    let passes : is_open (slice_set t.handles handle None) s ≡ true = sym (opens next (after_effect t (drop_effect (here_at k.setup t at place) handle line)) later s) ∙ lt-ltb 0 (span_at next.spans.made s).holds some in
    let before : is_open t.handles s ≡ true = set_open t.handles handle s line there ∙ ap (λ b. is_in s line || b) passes ∙ or_yes (is_in s line) in (
      in_filter (λ x. not (is_open (slice_set t.handles handle None) x)) line s ∙ ap (λ b. is_in s line && not b) passes ∙ and_no (is_in s line),
      elim (cases_lt 0 (span_at k.spans.made s).holds) [
        | inl live ↦ live
        | inr none ↦ absurd (true≢false (sym before ∙ sym (opens k t fits s) ∙ le-ltb 0 (span_at k.spans.made s).holds none))
      ],
    )
  where
    or_yes : (b : Bool) → (b || true) ≡ true
    or_yes true = refl
    or_yes false = refl

    and_no : (b : Bool) → (b && false) ≡ false
    and_no true = refl
    and_no false = refl

module _ {S : Type 0} (spans : S → Spans) (views : Views S) (attaches : S → Bool) (kept : S → ℕ → ℕ → ℕ) (is_whole : S → Type 0) (does : S → SubscriberCall → S → Type 0) (parts : Parts S) (new : WorldValue S) where
  abbrev rec_in : WorldValue S → Recording
  rec_in world = read_subscriber views.recording no_recording world parts.dispatch

  abbrev ChainOn : ℕ → Scope → Type 0
  ChainOn at [] = new ≡ parts.world
  ChainOn at (s ∷ up) = ChainChangesPlainData spans attaches kept is_whole parts.world new parts.dispatch s × (new.sites ≡ parts.world.sites) × RecordsChain at (Some s) (spans_in spans parts.world parts.dispatch) (spans_in spans new parts.dispatch) (rec_in parts.world) (rec_in new)
      × FiltersChain (Some s) (spans_in spans parts.world parts.dispatch) (spans_in spans new parts.dispatch) (read_subscriber views.filter None parts.world parts.dispatch) (read_subscriber views.filter None new parts.dispatch) × (new.cached ≡ parts.world.cached) × AddsMeasures (aside_in views parts.world parts.dispatch) (aside_in views new parts.dispatch) []

  chain_on : (at : ℕ) → ChainsLaw spans views attaches kept is_whole does → (line : Scope) (held : HeldSpan) → held ≡ held_of parts.dispatch line → ReplacedOn (λ id s t. Chain spans does at (Some id) s t) parts.world new held → ChainOn at line
  chain_on at law [] held is did = subst (λ (h : HeldSpan). ReplacedOn (λ id s t. Chain spans does at (Some id) s t) parts.world new h) is did
  chain_on at law (s ∷ up) held is did =
      let r = subst (λ (h : HeldSpan). ReplacedOn (λ id s t. Chain spans does at (Some id) s t) parts.world new h) is did in
      let told = law.viewed parts.world new parts.dispatch at s r in
      (law.shown parts.world new parts.dispatch at s r, ap (λ (w : WorldValue S). w.sites) r.others, told.0, told.1, ap (λ (w : WorldValue S). w.cached) r.others, told.2)

  chain_spans : (at : ℕ) (line : Scope) → ChainOn at line → ReleasedOn (spans_in spans parts.world parts.dispatch) (spans_in spans new parts.dispatch) line
  chain_spans at [] same = ap (λ (w : WorldValue S). spans_in spans w parts.dispatch) same
  chain_spans at (s ∷ up) shown = shown.0.released

  record ChainKept : Type 0 where
    kept_same : kept_in kept new parts.dispatch ≡ kept_in kept parts.world parts.dispatch
    count : length new.subscribers ≡ length parts.world.subscribers
    whole : Has is_whole parts.world parts.dispatch → Has is_whole new parts.dispatch
    sites : new.sites ≡ parts.world.sites
    cached : new.cached ≡ parts.world.cached
    aside : AddsMeasures (aside_in views parts.world parts.dispatch) (aside_in views new parts.dispatch) []

  chain_kept : (at : ℕ) (line : Scope) → ChainOn at line → ChainKept
  chain_kept at [] same = record { kept_same = ap (λ (w : WorldValue S). kept_in kept w parts.dispatch) same; count = ap (λ (w : WorldValue S). length w.subscribers) same; whole = λ has. subst (λ (w : WorldValue S). Has is_whole w parts.dispatch) (sym same) has; sites = ap (λ (w : WorldValue S). w.sites) same; cached = ap (λ (w : WorldValue S). w.cached) same; aside = adds_same views parts.world new parts.dispatch same }
  chain_kept at (s ∷ up) shown = record { kept_same = shown.0.kept_same; count = shown.0.count; whole = shown.0.whole; sites = shown.1; cached = shown.4; aside = shown.5 }

  -- the records are those of the spans that the effect closes, in its order
  chain_recorded : (at : ℕ) (line : Scope) → ChainOn at line → (lines : List (Option Scope)) → ((s : ℕ) (up : Scope) → line ≡ s ∷ up → (r : ReleasesChain (Some s) (spans_in spans parts.world parts.dispatch) (spans_in spans new parts.dispatch)) → closed_in (Some s) (spans_in spans parts.world parts.dispatch) (spans_in spans new parts.dispatch) r ≡ closed_of lines line)
      → rec_in new ≡ fold (λ r s. with_close s at r) (rec_in parts.world) (closed_of lines line)
  chain_recorded at [] same lines order = ap rec_in same
  chain_recorded at (s ∷ up) shown lines order = shown.2.is ∙ ap (λ (ss : List ℕ). fold (λ r s. with_close s at r) (rec_in parts.world) ss) (order s up refl shown.2.chain)

  -- and the filter hears of these
  closes_heard : (ss : List ℕ) (f : FilterState) → fold without_span f ss ≡ fold after_filter_hook f (map HookClose ss)
  closes_heard [] f = refl
  closes_heard (s ∷ ss) f = closes_heard ss (without_span f s)

  closes_known : (ss : List ℕ) (n : ℕ) → AreKnown n (map HookClose ss) n
  closes_known [] n = refl
  closes_known (s ∷ ss) n = (tt, closes_known ss n)

  filter_heard : (ss : List ℕ) (o : Option FilterState) → option_map (λ f. fold without_span f ss) o ≡ option_map (λ f. fold after_filter_hook f (map HookClose ss)) o
  filter_heard ss None = refl
  filter_heard ss (Some f) = ap Some (closes_heard ss f)

  chain_heard : (at : ℕ) (line : Scope) → ChainOn at line → (lines : List (Option Scope)) → ((s : ℕ) (up : Scope) → line ≡ s ∷ up → (r : ReleasesChain (Some s) (spans_in spans parts.world parts.dispatch) (spans_in spans new parts.dispatch)) → closed_in (Some s) (spans_in spans parts.world parts.dispatch) (spans_in spans new parts.dispatch) r ≡ closed_of lines line)
      → read_subscriber views.filter None new parts.dispatch ≡ option_map (λ f. fold after_filter_hook f (map HookClose (closed_of lines line))) (read_subscriber views.filter None parts.world parts.dispatch)
  chain_heard at [] same lines order = ap (λ (w : WorldValue S). read_subscriber views.filter None w parts.dispatch) same ∙ heard_none (read_subscriber views.filter None parts.world parts.dispatch)
  chain_heard at (s ∷ up) shown lines order = shown.3.is ∙ ap (λ (ss : List ℕ). option_map (λ (f : FilterState). fold without_span f ss) (read_subscriber views.filter None parts.world parts.dispatch)) (order s up refl shown.3.chain)
      ∙ filter_heard (closed_of lines (s ∷ up)) (read_subscriber views.filter None parts.world parts.dispatch)

  module _ (law : ChainsLaw spans views attaches kept is_whole does)
      (hs' : List (Option Handle)) (at place handle : ℕ) (h : Handle) (found : slot_at parts.handles handle ≡ Some h) (inv : PipelineInvariant spans views kept is_whole parts) where
    abbrev now : PipelineState
    now = state_of spans views parts

    abbrev then_parts : Parts S
    then_parts = record parts { world = new; handles = hs'; moment = at }

    abbrev then : PipelineState
    then = state_of spans views then_parts

    -- a handle with an open guard
    pub refuses_borrowed : (t : Tables) → StandsFor now t → is_named_by_guard parts.guards handle ≡ true → effect_of_call now.setup t at place (call.Drop handle) ≡ Err refusal.InUse
    refuses_borrowed t stands used =
        let fits = stands.fits in
        let line = find (held_of parts.dispatch) (map held_by parts.handles) t.handles handle h.held fits.handle_slots (held_slot parts.handles handle h found) in
        let borrowed : is_borrowed t.guards handle ≡ true = sym (borrowed_is parts.dispatch t.guards handle) ∙ ap (λ (xs : List (Option Guard)). is_named_by_guard xs handle) (sym fits.guard_slots) ∙ used in
        ap (λ o. need what.Handle o >>= (λ line. refuse_if (is_borrowed t.guards handle) refusal.InUse (Ok (drop_effect (here_at now.setup t at place) handle line)))) line.there ∙ cond-true {A = Resolved} (is_borrowed t.guards handle) _ _ borrowed

    module _ (free : is_named_by_guard parts.guards handle ≡ false) (one : hs' ≡ slice_set parts.handles handle None) (did : ReplacedOn (λ id s t. Chain spans does at (Some id) s t) parts.world new h.held) where
      pub serves_dropped : (t : Tables) → StandsFor now t → IsServed (effect_of_call now.setup t at place (call.Drop handle)) t now then reply.Done
      serves_dropped t stands =
          let fits = stands.fits in
          let line = find (held_of parts.dispatch) (map held_by parts.handles) t.handles handle h.held fits.handle_slots (held_slot parts.handles handle h found) in
          let not_used : is_borrowed t.guards handle ≡ false = sym (borrowed_is parts.dispatch t.guards handle) ∙ ap (λ (xs : List (Option Guard)). is_named_by_guard xs handle) (sym fits.guard_slots) ∙ free in
          let chain = chain_on at law line.at h.held line.is did in
          let e : Effect = drop_effect (here_at now.setup t at place) handle line.at in
          let sites = (chain_kept at line.at chain).sites in
          let later_of : (next : PipelineState) → next.spans ≡ then.spans → next.setup ≡ now.setup → next.dispatch ≡ parts.dispatch → next.handles ≡ then.handles → next.handle_sites ≡ then.handle_sites → next.guards ≡ parts.guards → next.contexts ≡ parts.contexts → next.moment ≡ at → Fits next (after_effect t e) = λ next sp setup dis hd st gd ct mo.
          fits_dropped now next t at place handle line.at fits line.there not_used (subst (λ (y : Spans). ReleasedOn now.spans y line.at) (sym sp) (chain_spans at line.at chain)) setup dis (hd ∙ ap (map held_by) one ∙ map-set held_by parts.handles handle None) (st ∙ ap (map site_by) one ∙ map-set site_by parts.handles handle None) gd ct mo in
          let bare : PipelineState = record then { setup = now.setup } in
          let bare_fits : Fits bare (after_effect t e) = later_of bare refl refl refl refl refl refl refl refl in
          let order : (s : ℕ) (up : Scope) → line.at ≡ s ∷ up → (r : ReleasesChain (Some s) (spans_in spans parts.world parts.dispatch) (spans_in spans new parts.dispatch)) → closed_in (Some s) (spans_in spans parts.world parts.dispatch) (spans_in spans new parts.dispatch) r ≡ closed_of (slice_set t.handles handle None) line.at = λ s up is r.
          drop_order now bare (here_at now.setup t at place) handle s up fits (line.there ∙ ap Some is) (subst (λ (l : Scope). Fits bare (after_effect t (drop_effect (here_at now.setup t at place) handle l))) is bare_fits) r ∙ ap (closed_of (slice_set t.handles handle None)) (sym is) in
          let rec_is : rec_in new ≡ recording_after (length t.spans) e (rec_in parts.world) = chain_recorded at line.at chain (slice_set t.handles handle None) order in
          let settings = ap (λ (r : Recording). r.settings) rec_is ∙ recorded_settings (length t.spans) e (rec_in parts.world) in
          let tokens = ap (λ (r : Recording). r.tokens) rec_is ∙ recorded_tokens (length t.spans) e (rec_in parts.world) in
          let setup : then.setup ≡ now.setup = ap (λ x. record now.setup { sites = x; layer = (rec_in new).settings }) sites ∙ ap (λ x. record now.setup { layer = x }) settings in
          serve now then t e _ reply.Done stands
          (ap (λ o. need what.Handle o >>= (λ line. refuse_if (is_borrowed t.guards handle) refusal.InUse (Ok (drop_effect (here_at now.setup t at place) handle line)))) line.there ∙ cond-false {A = Resolved} (is_borrowed t.guards handle) _ _ not_used)
          refl setup (recording_after (length t.spans) e (rec_in parts.world)).tokens rec_is (later_of then refl setup refl refl refl refl refl refl)
          (λ s some. let left = drop_known now bare t at place handle line.at fits line.there bare_fits s some in known_still now then t e (recording_after (length t.spans) e (rec_in parts.world)).tokens rec_is stands.recording s left.0 left.1)
          (all_same now then t.contexts setup refl refl tokens stands.recording.attached)
          (record { quiet = refl; before = read_subscriber views.filter None parts.world parts.dispatch; later = read_subscriber views.filter None new parts.dispatch; shown_before = refl; shown_later = refl; known = closes_known (closed_of (slice_set t.handles handle None) line.at) (length t.spans); told = chain_heard at line.at chain (slice_set t.handles handle None) order; cached = (chain_kept at line.at chain).cached; aside = record { before = aside_in views parts.world parts.dispatch; later = aside_in views new parts.dispatch; shown_before = refl; shown_later = refl; waits_before = refl; waits_later = refl; adds = (chain_kept at line.at chain).aside } })

      pub keeps_dropped : PipelineInvariant spans views kept is_whole then_parts
      keeps_dropped =
          let line = find (held_of parts.dispatch) (map held_by parts.handles) inv.tables.handles handle h.held inv.stands.fits.handle_slots (held_slot parts.handles handle h found) in
          let rest = chain_kept at line.at (chain_on at law line.at h.held line.is did) in
          kept_served spans views kept is_whole parts then_parts inv _ _ (serves_dropped inv.tables inv.stands) refl rest.count rest.whole (subst (λ (f : ℕ → ℕ → ℕ). LanesFit parts.dispatch f (map lane_value parts.lanes)) (sym rest.kept_same) inv.lanes)
