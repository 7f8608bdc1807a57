-- Makings, served.
use Rattle.std.proofs.Common.{◌≡◌, ℕ, ◌+◌, ◌<◌, ◌≤◌, ◌^◌, List, [], ◌∷◌, ◌++◌, length, Bool, true, false, fold, get_or, Option, Some, None, Ok, option_map, map, refl, sym, ap, subst, ◌∙◌, arith, inl, inr, IfSome, slice_get, ◌≢◌, option_and_then}
use Rattle.span_script.proofs.Common.{cases_eq, cases_lt, cond-true, cond-false, length-map, length_push, map_push, get_or_past, get_or_push, get_or_append_left, Lane, Parent, Callsite, ValueSet, WorldValue, FilterState, Span, Spans, no_span, span_at, with_hold_of_child, entries_on, parent_on, current_of, SubscriberCall, NewSpan, with_new_span, IsLiveParent, HasFewHolds, AreFew, ParentHasFewHolds, OneEach, ChangesPlainData, Replaced, read_subscriber, spans_in, kept_in, no_spans, Has, Handle, Makes, MayMake, no_handle, RequestParent, Setup, id_at, name_at, if_span, span_site, Context, KeyValue, empty_context, LayerSettings, SpanData, data_at_making, after_op, Token, parent_source, lane_context, context_from, new_span_data, data_at, with_span_data, Recording, id_if_on, no_recording, with_start, with_start_if_some, Kind, length_held, holds_other, Scope, MadeSpan, Attached, no_made_span, HookNew, Effect, Tables, recording_after, open_part, span_of_scope, made_span_at, here_at, ◌>>=◌, need, effect_of_call, after_filter_hook, admits_on, lane_in, new_span_data_at, context_around, parent_under, new_effect, span_effect, disabled_effect, parent_scope, Fields, all_values, parent_for, HasWhatItNames, MakesSpanOfRequest, MakesSpanOrNothing, IsGateAnswer, Balanced, span_of_handle, open_guard_by, Views, PipelineState, state_of, lane_value, StandsFor, SpansFit, LanesFit, PipelineInvariant, IsServed, IsScope, held_of, guard_of, held_by, site_by, Parts, parent_in, CallsLaw, SameLaw, aside_in}
use Rattle.span_handles.proofs.ChangedSubscriberLemmas.{seen_before}
use Rattle.span_script.specs.declared.reply.Reply.TheVariants as reply
use Rattle.span_script.specs.declared.request.Call.TheVariants as call
use Rattle.span_script.specs.declared.reply.What.TheVariants as what
use Rattle.std.specs.Option.{option_to_list}
use Rattle.otel_state.specs.declared.op.Op.TheVariants as ops
use Rattle.otel_state.specs.fields.FirstAttributes.{first_attributes}
use Rattle.otel_state.specs.fields.SpanFields.{span_update}
use Rattle.trace_base.specs.declared.callsite.Kind.TheVariants as kinds
use Rattle.trace_base.specs.declared.span.Parent.TheVariants as parent
use Rattle.span_script.proofs.filter.CounterLemmas.{adds_nothing, adds_same}
use Rattle.span_script.proofs.steps.KnownSpansLemmas.{recorded_known, new_known}
use Rattle.span_script.proofs.lane_contexts.OwnersLemmas.{last_is}
use Rattle.span_script.proofs.lane_contexts.LaneContextsLemmas.{own_fit}
use Rattle.span_script.proofs.steps.RecordingLemmas.{recorded_settings, recorded_tokens, starts_fold, starts_open, entry_settings, entry_counting}
use Rattle.span_script.specs.Fits.{Fits}
use Rattle.span_script.proofs.spans.ScopesLemmas.{new_line}
use Rattle.span_script.proofs.spans.SitesLemmas.{got_within, the_callsite}
use Rattle.span_script.proofs.steps.StepLemmas.{fits_step}
use Rattle.span_script.proofs.steps.CallsLemmas.{has_by}
use Rattle.span_script.proofs.steps.BalanceLemmas.{held_most}
use Rattle.span_script.proofs.filter.FilterLemmas.{heard_none}
use Rattle.span_script.proofs.filter.GateLemmas.{answered}
use Rattle.span_script.proofs.steps.LanesLemmas.{id_seen, name_seen, kept_alike}
use Rattle.span_script.proofs.spans.MadeSpansLemmas.{made_held}
use Rattle.span_script.proofs.steps.ServesLemmas.{serve, known_still, all_same, kept_served}
use Rattle.span_script.proofs.spans.ClonesLemmas.{the_scope, still_named_more}
use Rattle.span_script.proofs.spans.MoreHandlesLemmas.{balanced_decline, balanced_new, find_up}

-- the spans with a new one under a scope
made_pushed : (xs : List Span) (ms : List MadeSpan) (up : Scope) (site : ℕ) (told : SpanData) → SpansFit xs ms → SpansFit (xs ++ record { holds = 1; parent = span_of_scope up; site = site } ∷ []) (ms ++ record { site = site; scope = length ms ∷ up; made_with = told } ∷ [])
made_pushed xs ms up site told fit =
    let new : Span = record { holds = 1; parent = span_of_scope up; site = site } in
    let m : MadeSpan = record { site = site; scope = length ms ∷ up; made_with = told } in
    let counts = fit.count in
    let all : (q : ℕ) → 0 < (span_at (xs ++ new ∷ []) q).holds → ((span_at (xs ++ new ∷ []) q).parent ≡ parent_in (made_span_at (ms ++ m ∷ []) q).scope) × ((span_at (xs ++ new ∷ []) q).site ≡ (made_span_at (ms ++ m ∷ []) q).site) = λ q live. elim (cases_lt q (length xs)) [
      | inl within ↦ (
          let a = get_or_append_left xs (new ∷ []) no_span q within in
          let b = get_or_append_left ms (m ∷ []) no_made_span q (omega (arith, within, counts)) in
          let h = ap (λ (s : Span). s.holds) a in
          let some : 0 < (span_at xs q).holds = omega (arith, h, live) in
          (ap (λ (s : Span). s.parent) a ∙ fit.parent q some ∙ ap (λ (x : MadeSpan). parent_in x.scope) (sym b), ap (λ (s : Span). s.site) a ∙ fit.site q some ∙ ap (λ (x : MadeSpan). x.site) (sym b)))
      | inr past ↦ elim (cases_eq (length xs) q) [
        | inl here ↦ (
            let a = get_or_push xs new no_span q here in
            let b = get_or_push ms m no_made_span q (sym counts ∙ here) in
            (ap (λ (s : Span). s.parent) a ∙ ap (λ (x : MadeSpan). parent_in x.scope) (sym b), ap (λ (s : Span). s.site) a ∙ ap (λ (x : MadeSpan). x.site) (sym b)))
        | inr other ↦ absurd (let a = ap (λ (s : Span). s.holds) (get_or_past (xs ++ new ∷ []) q no_span (let l = length_push xs new in omega (arith, l, past, other))) in omega (arith, a, live))
      ]
    ] in
    record { count = (let a = length_push xs new in let b = length_push ms m in omega (arith, a, b, counts)); parent = λ q live. (all q live).0; site = λ q live. (all q live).1 }

made_child : (xs : List Span) (ms : List MadeSpan) (o : Option ℕ) → SpansFit xs ms → IfSome o (λ p. 0 < (span_at xs p).holds) → SpansFit (with_hold_of_child xs o) ms
made_child xs ms None fit live = fit
made_child xs ms (Some p) fit live = made_held xs ms p fit live

child_most : (xs : List Span) (o : Option ℕ) (q : ℕ) → (span_at (with_hold_of_child xs o) q).holds ≤ (span_at xs q).holds + 1
child_most xs None q = omega arith
child_most xs (Some p) q = held_most xs p q

new_most : (xs : List Span) (o : Option ℕ) (site q n : ℕ) → (span_at xs q).holds ≤ n → (span_at (with_hold_of_child xs o ++ record { holds = 1; parent = o; site = site } ∷ []) q).holds ≤ n + 1
new_most xs o site q n most =
    let ys = with_hold_of_child xs o in
    let new : Span = record { holds = 1; parent = o; site = site } in
    let h = child_most xs o q in
    elim (cases_lt q (length ys)) [
      | inl within ↦ (let e = ap (λ (s : Span). s.holds) (get_or_append_left ys (new ∷ []) no_span q within) in omega (arith, e, h, most))
      | inr past ↦ elim (cases_eq (length ys) q) [
        | inl here ↦ (let e = ap (λ (s : Span). s.holds) (get_or_push ys new no_span q here) in omega (arith, e))
        | inr other ↦ (let e = ap (λ (s : Span). s.holds) (get_or_past (ys ++ new ∷ []) q no_span (let l = length_push ys new in omega (arith, l, past, other))) in omega (arith, e))
      ]
    ]

-- a span with holds, other than the new one, had some before
new_live : (xs : List Span) (o : Option ℕ) (site q : ℕ) → IfSome o (λ p. 0 < (span_at xs p).holds) → (q ≡ length (with_hold_of_child xs o) → ⊥) → 0 < (span_at (with_hold_of_child xs o ++ record { holds = 1; parent = o; site = site } ∷ []) q).holds → 0 < (span_at xs q).holds
new_live xs o site q live apart some =
    let ys = with_hold_of_child xs o in
    let new : Span = record { holds = 1; parent = o; site = site } in
    elim (cases_lt q (length ys)) [
      | inl within ↦ child_live xs o q live (let e = ap (λ (s : Span). s.holds) (get_or_append_left ys (new ∷ []) no_span q within) in omega (arith, e, some))
      | inr past ↦ absurd (let e = ap (λ (s : Span). s.holds) (get_or_past (ys ++ new ∷ []) q no_span (let l = length_push ys new in let z : length ys ≡ q → ⊥ = λ e. apart (sym e) in omega (arith, l, past, z))) in omega (arith, e, some))
    ]
  where
    child_live : (xs : List Span) (o : Option ℕ) (q : ℕ) → IfSome o (λ p. 0 < (span_at xs p).holds) → 0 < (span_at (with_hold_of_child xs o) q).holds → 0 < (span_at xs q).holds
    child_live xs None q live some = some
    child_live xs (Some p) q live some = elim (cases_eq q p) [
      | inl here ↦ (let w = ap (λ (k : ℕ). (span_at xs k).holds) here in omega (arith, live, w))
      | inr other ↦ (let h = holds_other xs p (record (span_at xs p) { holds = (span_at xs p).holds + 1 }) q other in omega (arith, h, some))
    ]

first_same : (c : Callsite) (a b : Lane) (settings : LayerSettings) → a.id ≡ b.id → a.name ≡ b.name → first_attributes c a settings ≡ first_attributes c b settings
first_same c a b settings id name = rw (id, name) refl

around_is : (p : Parent) (lane : Lane) (items : List Attached) → map (λ (x : ℕ × Context). x.1) lane.contexts.live ≡ map (λ (a : Attached). a.context) items → lane_context lane p ≡ context_around items p
around_is parent.Root lane items same = refl
around_is (parent.Of s) lane items same = refl
around_is parent.Current lane items same = last_is empty_context lane.contexts.live items same

-- the callsite of a span at a place
pub site_is : (sites : List Callsite) (site : ℕ) (callsite : Callsite) → span_site sites site ≡ Some callsite → slice_get sites site ≡ Some callsite
site_is sites site callsite is = by_site (slice_get sites site) is
  where
    by_kind : (c : Callsite) (kind : Kind) → if_span c kind ≡ Some callsite → Some c ≡ Some callsite
    by_kind c kinds.Span e = e
    by_kind c kinds.Event e = absurd (cc e)

    by_site : (o : Option Callsite) → option_and_then (λ c. if_span c c.kind) o ≡ Some callsite → o ≡ Some callsite
    by_site None e = absurd (cc e)
    by_site (Some c) e = by_kind c c.kind e

-- the settings are those of the open part, whatever started
told_settings : (setup : Setup) (t : Tables) (at place : ℕ) (callsite : Callsite) (values : ValueSet) (q : Parent) (r : Recording) → open_part r ≡ t.recording
    → new_span_data callsite (lane_in (here_at setup t at place)) values
    (context_from (with_start_if_some (parent_source r.settings.activation q (current_of (t.entries (here_at setup t at place).lane))) at t.recording).spans (context_around (t.contexts (here_at setup t at place).lane) q) (parent_source r.settings.activation q (current_of (t.entries (here_at setup t at place).lane)))) at r.settings r.counting
    ≡ new_span_data_at (here_at (record setup { layer = r.settings }) t at place) callsite values q
told_settings setup t at place callsite values q r is =
    let source = parent_source r.settings.activation q (current_of (t.entries (here_at setup t at place).lane)) in
    let c = context_from (with_start_if_some source at t.recording).spans (context_around (t.contexts (here_at setup t at place).lane) q) source in
    ap (λ (x : LayerSettings). new_span_data callsite (lane_in (here_at setup t at place)) values c at x r.counting) (ap (λ (x : Recording). x.settings) is ∙ sym (entry_settings source at t.recording))
    ∙ ap (λ (b : Bool). new_span_data callsite (lane_in (here_at setup t at place)) values c at (with_start_if_some source at t.recording).settings b) (ap (λ (x : Recording). x.counting) is ∙ sym (entry_counting source at t.recording))

-- the recording with a span more
abbrev made_record : ℕ → SpanData → Recording → Recording
made_record n told x = record x { spans = with_span_data n told x.spans }

-- what was made is what the effect makes
made_is : (setup : Setup) (t : Tables) (at place : ℕ) (callsite c : Callsite) (values : ValueSet) (p q : Parent) (before : Lane) (r : Recording) (current : Option ℕ) → open_part r ≡ t.recording → setup.layer ≡ r.settings → c ≡ callsite → p ≡ q
    → before.id ≡ (here_at setup t at place).lane → before.name ≡ name_at setup.names place → current ≡ current_of (t.entries (here_at setup t at place).lane) → map (λ (x : ℕ × Context). x.1) before.contexts.live ≡ map (λ (a : Attached). a.context) (t.contexts (here_at setup t at place).lane)
    → new_span_data c before values (context_from (with_start_if_some (parent_source r.settings.activation p current) at r).spans (lane_context before p) (parent_source r.settings.activation p current)) at r.settings r.counting
    ≡ new_span_data callsite (lane_in (here_at setup t at place)) values
    (context_from (with_start_if_some (parent_source r.settings.activation q (current_of (t.entries (here_at setup t at place).lane))) at t.recording).spans (context_around (t.contexts (here_at setup t at place).lane) q) (parent_source r.settings.activation q (current_of (t.entries (here_at setup t at place).lane)))) at r.settings r.counting
made_is setup t at place callsite c values p q before r current recorded layer c_is p_is id name current_is contexts =
    let source = λ (x : Parent) (o : Option ℕ). parent_source r.settings.activation x o in
    ap (λ (x : Callsite). new_span_data x before values (context_from (with_start_if_some (source p current) at r).spans (lane_context before p) (source p current)) at r.settings r.counting) c_is
    ∙ ap (λ (x : Parent). new_span_data callsite before values (context_from (with_start_if_some (source x current) at r).spans (lane_context before x) (source x current)) at r.settings r.counting) p_is
    ∙ ap (λ (o : Option ℕ). new_span_data callsite before values (context_from (with_start_if_some (source q o) at r).spans (lane_context before q) (source q o)) at r.settings r.counting) current_is
    ∙ ap (λ (xs : List (ℕ × SpanData)). new_span_data callsite before values (context_from xs (lane_context before q) (source q (current_of (t.entries (here_at setup t at place).lane)))) at r.settings r.counting) (starts_open (source q (current_of (t.entries (here_at setup t at place).lane))) at r t.recording recorded)
    ∙ ap (λ (x : Context). new_span_data callsite before values (context_from (with_start_if_some (source q (current_of (t.entries (here_at setup t at place).lane))) at t.recording).spans x (source q (current_of (t.entries (here_at setup t at place).lane)))) at r.settings r.counting) (around_is q before (t.contexts (here_at setup t at place).lane) contexts)
    ∙ ap (λ (first : List KeyValue). after_op (data_at_making (record { name = callsite.name; parent = context_from (with_start_if_some (source q (current_of (t.entries (here_at setup t at place).lane))) at t.recording).spans (context_around (t.contexts (here_at setup t at place).lane) q) (source q (current_of (t.entries (here_at setup t at place).lane))); made_at = at; first = first; counting = r.counting; inactivity = r.settings.inactivity })) at (ops.Update (span_update callsite values r.settings))) (first_same callsite before (lane_in (here_at setup t at place)) r.settings id name)

module _ {S : Type 0} (spans : S → Spans) (views : Views S) (attaches : S → Bool) (kept : S → ℕ → ℕ → ℕ) (is_whole : S → Type 0) (parts : Parts S) (new : WorldValue S) where
  module _ (does : S → SubscriberCall → S → Type 0) (law : CallsLaw spans views attaches kept is_whole does)
      (hs' : List (Option Handle)) (at place number : ℕ) (many : number ≡ length parts.handles) (inv : PipelineInvariant spans views kept is_whole parts) where
    abbrev now : PipelineState
    now = state_of spans views parts

    abbrev then_parts : Parts S
    then_parts = record parts { world = new; handles = hs'; moment = at }

    abbrev then : PipelineState
    then = state_of spans views then_parts

    abbrev place_id : ℕ
    place_id = id_at now.setup.ids place

    abbrev r : Recording
    r = read_subscriber views.recording no_recording parts.world parts.dispatch

    next_number : (t : Tables) → Fits now t → number ≡ length t.handles
    next_number t fits = many ∙ sym (length-map parts.handles held_by) ∙ ap length fits.handle_slots ∙ length-map t.handles (option_map (held_of parts.dispatch))

    module _ (under : RequestParent) (p : Parent) (site : ℕ) (callsite : Callsite) (sited : span_site parts.world.sites site ≡ Some callsite) (found : parent_for (map held_by parts.handles) under ≡ Some p) where
      -- a span that is let through
      module _ (fields : Fields) (values : ValueSet) (valued : all_values callsite fields ≡ Some values) (made : Handle) (before : Lane) (within : place < length parts.lanes) (seen_is : before ≡ get_or parts.lanes place before) (through : (t : Tables) → StandsFor now t → admits_on now.setup t place_id callsite ≡ true) (one : hs' ≡ parts.handles ++ Some made ∷ [])
          (did : Makes spans does parts.world new before at p site values parts.dispatch made) where
        abbrev made_call : Replaced (λ s t. does s (NewSpan before at p site did.callsite values) t) parts.world new parts.dispatch
        made_call = record { before = did.made.before; later = did.made.later; there = did.made.there; did = did.made.did.1; others = did.made.others }

        made_shown : ChangesPlainData spans attaches kept is_whole parts.world new parts.dispatch (NewSpan before at p site did.callsite values)
        made_shown = law.shown parts.world new parts.dispatch _ made_call

        id_is : did.id ≡ length (spans_in spans parts.world parts.dispatch).made
        id_is = did.made.did.0 ∙ ap (λ (x : Spans). length x.made) (sym (seen_before (λ s t. does s (NewSpan before at p site did.callsite values) t) parts.world new parts.dispatch made_call spans no_spans))

        pub serves_made : (t : Tables) → StandsFor now t → IsServed (effect_of_call now.setup t at place (call.New site under fields)) t now then (reply.Made true number)
        serves_made t stands =
            let fits = stands.fits in
            let up = find_up now t fits place_id under p found in
            let sp = spans_in spans parts.world parts.dispatch in
            let ids = now.setup.ids in
            let id_is' = id_seen parts.lanes place before within seen_is in
            let step : spans_in spans new parts.dispatch ≡ with_new_span sp (span_of_scope up.up) site = made_shown.spans_after ∙ ap (λ (l : ℕ). with_new_span sp (parent_on (entries_on l sp.lanes) p) site) id_is' ∙ ap (λ (o : Option ℕ). with_new_span sp o site) up.on in
            let line : Scope = length t.spans ∷ up.up in
            let mine : did.id ≡ length t.spans = id_is ∙ fits.made.count in
            let q = parent_under under up.up in
            let current = current_of (entries_on before.id sp.lanes) in
            let current_is : current ≡ current_of (t.entries place_id) = ap (λ (l : ℕ). current_of (entries_on l sp.lanes)) id_is' ∙ ap current_of (fits.balanced.entries place_id) in
            let callsite_is : did.callsite ≡ callsite = the_callsite did.callsite callsite (sym did.is ∙ site_is parts.world.sites site callsite sited) in
            let contexts : map (λ (x : ℕ × Context). x.1) before.contexts.live ≡ map (λ (a : Attached). a.context) (t.contexts place_id) =
            (own_fit r.settings.activation parts.lanes place before before within seen_is refl inv.lanes.differ r.tokens parts.contexts.attaches t.contexts stands.recording.attached).contexts ∙ ap (λ (l : ℕ). map (λ (a : Attached). a.context) (t.contexts l)) id_is' in
            let told : SpanData = new_span_data_at (here_at now.setup t at place) callsite values q in
            let raw : SpanData = new_span_data did.callsite before values (context_from (with_start_if_some (parent_source r.settings.activation p current) at r).spans (lane_context before p) (parent_source r.settings.activation p current)) at r.settings r.counting in
            let told_is : raw ≡ told =
            made_is now.setup t at place callsite did.callsite values p q before r current stands.recording.recorded refl callsite_is up.parent_is id_is' (name_seen parts.lanes place before within seen_is) current_is contexts
            ∙ told_settings now.setup t at place callsite values q r stands.recording.recorded in
            let new_made : MadeSpan = record { site = site; scope = line; made_with = told } in
            let e : Effect = span_effect (here_at now.setup t at place) site callsite values under up.up in
            let source = parent_source r.settings.activation p current in
            let source_is : source ≡ parent_source r.settings.activation q (current_of (t.entries place_id)) = ap (λ (x : Parent). parent_source r.settings.activation x current) up.parent_is ∙ ap (λ (o : Option ℕ). parent_source r.settings.activation q o) current_is in
            let viewed = law.viewed parts.world new parts.dispatch _ made_call in
            let rec_is : read_subscriber views.recording no_recording new parts.dispatch ≡ record (recording_after (length t.spans) e r) { tokens = r.tokens } =
            viewed.0 ∙ ap (λ (n : ℕ). with_start_if_some (id_if_on r.settings.eager n) at (made_record n raw (with_start_if_some source at r))) fits.made.count
            ∙ ap (λ (x : SpanData). with_start_if_some (id_if_on r.settings.eager (length t.spans)) at (made_record (length t.spans) x (with_start_if_some source at r))) told_is
            ∙ ap (λ (x : Recording). with_start_if_some (id_if_on r.settings.eager (length t.spans)) at (made_record (length t.spans) told x)) (sym (starts_fold source at r) ∙ ap (λ (o : Option ℕ). fold (λ r s. with_start s at r) r (option_to_list o)) source_is)
            ∙ ap (λ (ts : List Token). record (recording_after (length t.spans) e r) { tokens = ts }) (recorded_tokens (length t.spans) e r) in
            let settings = ap (λ (x : Recording). x.settings) rec_is ∙ recorded_settings (length t.spans) e r in
            let sites = ap (λ (w : WorldValue S). w.sites) did.made.others in
            let setup : then.setup ≡ now.setup = ap (λ x. record now.setup { sites = x; layer = (read_subscriber views.recording no_recording new parts.dispatch).settings }) sites ∙ ap (λ x. record now.setup { layer = x }) settings in
            let known : (s : ℕ) → 0 < (span_at then.spans.made s).holds → data_at s (read_subscriber views.recording no_recording new parts.dispatch).spans ≢ None = λ s some. elim (cases_eq s (length t.spans)) [
              | inl here ↦ (λ none. recorded_known (length t.spans) s e r refl (subst (λ (k : ℕ). data_at k (with_span_data (length t.spans) told (fold (λ r s. with_start s at r) r e.starts).spans) ≢ None) (sym here) (new_known (length t.spans) told (fold (λ r s. with_start s at r) r e.starts).spans)) (ap (λ (x : Recording). data_at s x.spans) (sym rec_is) ∙ none))
              | inr other ↦ known_still now then t e r.tokens rec_is stands.recording s refl (new_live sp.made (span_of_scope up.up) site s up.live (λ e. other (e ∙ length_held sp.made (span_of_scope up.up) ∙ fits.made.count)) (subst (λ (x : Spans). 0 < (span_at x.made s).holds) step some))
            ] in
            serve now then t e _ (reply.Made true number) stands
            (ap (λ o. need what.Site o >>= (λ callsite. need what.Handle (parent_scope t place_id under) >>= (λ up. need what.Field (all_values callsite fields) >>= (λ v. Ok (new_effect (here_at now.setup t at place) site callsite v under up))))) sited
            ∙ ap (λ o. need what.Handle o >>= (λ up. need what.Field (all_values callsite fields) >>= (λ v. Ok (new_effect (here_at now.setup t at place) site callsite v under up)))) up.is
            ∙ ap (λ o. need what.Field o >>= (λ v. Ok (new_effect (here_at now.setup t at place) site callsite v under up.up))) valued
            ∙ ap Ok (cond-true {A = Effect} (admits_on now.setup t place_id callsite) _ _ (through t stands)))
            (ap (λ n. reply.Made true n) (next_number t fits))
            setup r.tokens rec_is
            (fits_step now t fits then e (record {
              setup_is = setup;
              dispatch_is = refl;
              handles_are = ap (map held_by) one ∙ map_push held_by parts.handles (Some made) ∙ ap (λ (x : Handle). map held_by parts.handles ++ Some x.held ∷ []) did.handle_is ∙ ap (λ (i : ℕ). map held_by parts.handles ++ Some (Some (parts.dispatch, i)) ∷ []) mine;
              sites_are = ap (map site_by) one ∙ map_push site_by parts.handles (Some made) ∙ ap (λ (x : Handle). map site_by parts.handles ++ Some x.site ∷ []) did.handle_is ∙ ap (λ (x : MadeSpan). map site_by parts.handles ++ Some (Some x.site) ∷ []) (sym (get_or_push t.spans new_made no_made_span (length t.spans) refl));
              guards_are = refl;
              attaches_are = refl;
              named_are = refl;
              moment_is = refl;
              balanced = subst (λ (x : Spans). Balanced x (map span_of_handle (t.handles ++ Some line ∷ [])) (map (open_guard_by ids) t.guards) t.entries) (sym step) (balanced_new ids sp t.handles t.guards t.entries fits.balanced up.up site (length t.spans) up.live fits.made.count);
              made_fit = subst (λ (x : Spans). SpansFit x.made (t.spans ++ new_made ∷ [])) (sym step) (made_pushed (with_hold_of_child sp.made (span_of_scope up.up)) t.spans up.up site told (made_child sp.made t.spans (span_of_scope up.up) fits.made up.live));
              new_made = (up.up, refl, up.scope);
              new_site = got_within parts.world.sites site callsite (site_is parts.world.sites site callsite sited);
              new_scope = λ l e. subst (IsScope (t.spans ++ new_made ∷ [])) (the_scope line l e) (new_line t.spans new_made up.up refl up.scope);
              still = still_named_more t.guards t.handles line fits.still;
              few = (let a = length_push t.handles (Some line) in let b = length_push t.spans new_made in let f = fits.few in omega (arith, a, b, f));
              few_holds = λ s. (let a = new_most sp.made (span_of_scope up.up) site s (length t.handles + length t.guards) (fits.few_holds s) in let e = ap (λ (x : Spans). (span_at x.made s).holds) step in let l = length_push t.handles (Some line) in omega (arith, a, e, l));
              one = subst (λ (x : Spans). OneEach x.lanes) (sym step) fits.one_row;
            }))
            known
            (all_same now then t.contexts setup refl refl (ap (λ (x : Recording). x.tokens) rec_is) stands.recording.attached)
            (record {
              quiet = refl;
              before = read_subscriber views.filter None parts.world parts.dispatch;
              later = read_subscriber views.filter None new parts.dispatch;
              shown_before = refl;
              shown_later = refl;
              known = (refl, sym (length_push t.spans new_made));
              told = viewed.1 ∙ ap (λ (n : ℕ). option_map (λ (f : FilterState). after_filter_hook f (HookNew n did.callsite values)) (read_subscriber views.filter None parts.world parts.dispatch)) fits.made.count
                  ∙ ap (λ (c : Callsite). option_map (λ (f : FilterState). after_filter_hook f (HookNew (length t.spans) c values)) (read_subscriber views.filter None parts.world parts.dispatch)) callsite_is;
              cached = ap (λ (w : WorldValue S). w.cached) did.made.others;
              aside = record { before = aside_in views parts.world parts.dispatch; later = aside_in views new parts.dispatch; shown_before = refl; shown_later = refl; waits_before = refl; waits_later = refl; adds = viewed.2 };
            })

        pub keeps_made : PipelineInvariant spans views kept is_whole then_parts
        keeps_made = kept_served spans views kept is_whole parts then_parts inv _ _ (serves_made inv.tables inv.stands) refl made_shown.count made_shown.whole
            (subst (λ (f : ℕ → ℕ → ℕ). LanesFit parts.dispatch f (map lane_value parts.lanes)) (sym made_shown.lanes) inv.lanes)

      -- one that isn't
      module _ (fields : Fields) (values : ValueSet) (valued : all_values callsite fields ≡ Some values) (through : (t : Tables) → StandsFor now t → admits_on now.setup t place_id callsite ≡ false) (one : hs' ≡ parts.handles ++ Some no_handle ∷ []) (same : new ≡ parts.world) where
        pub serves_declined : (t : Tables) → StandsFor now t → IsServed (effect_of_call now.setup t at place (call.New site under fields)) t now then (reply.Made false number)
        serves_declined t stands =
            let fits = stands.fits in
            let up = find_up now t fits place_id under p found in
            let sp = spans_in spans parts.world parts.dispatch in
            let ids = now.setup.ids in
            let step : spans_in spans new parts.dispatch ≡ sp = ap (λ (w : WorldValue S). spans_in spans w parts.dispatch) same in
            let rec_is : read_subscriber views.recording no_recording new parts.dispatch ≡ r = ap (λ (w : WorldValue S). read_subscriber views.recording no_recording w parts.dispatch) same in
            let setup : then.setup ≡ now.setup = ap (λ (w : WorldValue S). record now.setup { sites = w.sites; layer = (read_subscriber views.recording no_recording w parts.dispatch).settings }) same in
            let e : Effect = disabled_effect (here_at now.setup t at place) in
            serve now then t e _ (reply.Made false number) stands
            (ap (λ o. need what.Site o >>= (λ callsite. need what.Handle (parent_scope t place_id under) >>= (λ up. need what.Field (all_values callsite fields) >>= (λ v. Ok (new_effect (here_at now.setup t at place) site callsite v under up))))) sited
            ∙ ap (λ o. need what.Handle o >>= (λ up. need what.Field (all_values callsite fields) >>= (λ v. Ok (new_effect (here_at now.setup t at place) site callsite v under up)))) up.is
            ∙ ap (λ o. need what.Field o >>= (λ v. Ok (new_effect (here_at now.setup t at place) site callsite v under up.up))) valued
            ∙ ap Ok (cond-false {A = Effect} (admits_on now.setup t place_id callsite) _ _ (through t stands)))
            (ap (λ n. reply.Made false n) (next_number t fits))
            setup r.tokens rec_is
            (fits_step now t fits then e (record {
              setup_is = setup;
              dispatch_is = refl;
              handles_are = ap (map held_by) one ∙ map_push held_by parts.handles (Some no_handle);
              sites_are = ap (map site_by) one ∙ map_push site_by parts.handles (Some no_handle);
              guards_are = refl;
              attaches_are = refl;
              named_are = refl;
              moment_is = refl;
              balanced = subst (λ (x : Spans). Balanced x (map span_of_handle (t.handles ++ Some [] ∷ [])) (map (open_guard_by ids) t.guards) t.entries) (sym step) (balanced_decline ids sp t.handles t.guards t.entries fits.balanced);
              made_fit = subst (λ (x : Spans). SpansFit x.made t.spans) (sym step) fits.made;
              new_made = tt;
              new_site = tt;
              new_scope = λ l e. subst (IsScope t.spans) (the_scope [] l e) tt;
              still = still_named_more t.guards t.handles [] fits.still;
              few = (let l = length_push t.handles (Some []) in let f = fits.few in omega (arith, l, f));
              few_holds = λ s. (let f = fits.few_holds s in let e = ap (λ (x : Spans). (span_at x.made s).holds) step in let l = length_push t.handles (Some []) in omega (arith, f, e, l));
              one = subst (λ (x : Spans). OneEach x.lanes) (sym step) fits.one_row;
            }))
            (λ s some. known_still now then t e r.tokens rec_is stands.recording s refl (subst (λ (x : Spans). 0 < (span_at x.made s).holds) step some))
            (all_same now then t.contexts setup refl refl (ap (λ (x : Recording). x.tokens) rec_is) stands.recording.attached)
            (record { quiet = refl; before = read_subscriber views.filter None parts.world parts.dispatch; later = read_subscriber views.filter None new parts.dispatch; shown_before = refl; shown_later = refl; told = ap (λ (w : WorldValue S). read_subscriber views.filter None w parts.dispatch) same ∙ heard_none (read_subscriber views.filter None parts.world parts.dispatch); known = refl; cached = ap (λ (w : WorldValue S). w.cached) same; aside = record { before = aside_in views parts.world parts.dispatch; later = aside_in views new parts.dispatch; shown_before = refl; shown_later = refl; waits_before = refl; waits_later = refl; adds = adds_same views parts.world new parts.dispatch same } })

        pub keeps_declined : PipelineInvariant spans views kept is_whole then_parts
        keeps_declined = kept_served spans views kept is_whole parts then_parts inv _ _ (serves_declined inv.tables inv.stands) refl (ap (λ (w : WorldValue S). length w.subscribers) same) (λ has. subst (λ (w : WorldValue S). Has is_whole w parts.dispatch) (sym same) has)
            (subst (λ (w : WorldValue S). LanesFit parts.dispatch (kept_in kept w parts.dispatch) (map lane_value parts.lanes)) (sym same) inv.lanes)

    -- let through or not, as a request names it
    module _ (under : RequestParent) (parent : Option Parent) (found : parent ≡ parent_for (map held_by parts.handles) under) (site : ℕ) (fields : Fields) (made : Handle × Bool) (one : hs' ≡ parts.handles ++ Some made.0 ∷ [])
        (before : Lane) (within : place < length parts.lanes) (seen_is : before ≡ get_or parts.lanes place before) (gate : IsGateAnswer (read_subscriber views.filter None parts.world parts.dispatch) parts.world.sites before.id site made.1)
        (did : MakesSpanOfRequest spans does parts.world new before at parent site fields parts.dispatch made) where
      abbrev named : HasWhatItNames (span_site parts.world.sites site) parent fields
      named = did.named

      its_parent : parent_for (map held_by parts.handles) under ≡ Some named.under
      its_parent = sym found ∙ named.under_is

      -- the gate answered by the filter in force
      its_answer : (enabled : Bool) → made.1 ≡ enabled → (t : Tables) → StandsFor now t → admits_on now.setup t place_id named.given ≡ enabled
      its_answer enabled is t stands = answered spans views parts place before within seen_is site named.given (site_is parts.world.sites site named.given named.given_is) made.1 gate t stands ∙ is

      abbrev Did : Bool → Type 0
      Did enabled = MakesSpanOrNothing spans does enabled parts.world new before at named.under site named.values parts.dispatch made.0

      serves_let : (enabled : Bool) → made.1 ≡ enabled → Did enabled → (t : Tables) → StandsFor now t → IsServed (effect_of_call now.setup t at place (call.New site under fields)) t now then (reply.Made enabled number)
      serves_let true is it t stands = serves_made under named.under site named.given named.given_is its_parent fields named.values named.values_are made.0 before within seen_is (its_answer true is) one it t stands
      serves_let false is it t stands = serves_declined under named.under site named.given named.given_is its_parent fields named.values named.values_are (its_answer false is) (one ∙ ap (λ (h : Handle). parts.handles ++ Some h ∷ []) it.0) it.1 t stands

      keeps_let : (enabled : Bool) → made.1 ≡ enabled → Did enabled → PipelineInvariant spans views kept is_whole then_parts
      keeps_let true is it = keeps_made under named.under site named.given named.given_is its_parent fields named.values named.values_are made.0 before within seen_is (its_answer true is) one it
      keeps_let false is it = keeps_declined under named.under site named.given named.given_is its_parent fields named.values named.values_are (its_answer false is) (one ∙ ap (λ (h : Handle). parts.handles ++ Some h ∷ []) it.0) it.1

      pub serves_new : (t : Tables) → StandsFor now t → IsServed (effect_of_call now.setup t at place (call.New site under fields)) t now then (reply.Made made.1 number)
      serves_new t stands = serves_let made.1 refl did.did t stands

      pub keeps_new : PipelineInvariant spans views kept is_whole then_parts
      keeps_new = keeps_let made.1 refl did.did

-- what a making requires
few_if : (o : Option ℕ) (made : List Span) → ((s : ℕ) → HasFewHolds made s) → IfSome o (HasFewHolds made)
few_if None made few = tt
few_if (Some s) made few = few s

module _ {S : Type 0} (spans : S → Spans) (views : Views S) (kept : S → ℕ → ℕ → ℕ) (is_whole : S → Type 0) (parts : Parts S) (inv : PipelineInvariant spans views kept is_whole parts) where
  pub make_may : (under : RequestParent) (p : Parent) → parent_for (map held_by parts.handles) under ≡ Some p → (lane : ℕ) → length parts.handles < 2 ^ 62 → length parts.guards < 2 ^ 62 → MayMake spans is_whole parts.world lane p parts.dispatch
  make_may under p found lane few_handles few_guards =
      let a = sym (length-map parts.handles held_by) ∙ ap length inv.stands.fits.handle_slots ∙ length-map inv.tables.handles (option_map (held_of parts.dispatch)) in
      let b = ap length inv.stands.fits.guard_slots ∙ length-map inv.tables.guards (option_map (guard_of parts.dispatch)) in
      record {
        there = inv.there;
        whole = inv.whole;
        live = has_by spans no_spans parts.world parts.dispatch (λ (x : Spans). IsLiveParent x.made p) (find_up (state_of spans views parts) inv.tables inv.stands.fits 0 under p found).live_place;
        few = has_by spans no_spans parts.world parts.dispatch (λ (x : Spans). AreFew x) (let c = inv.stands.fits.made.count in let f = inv.stands.fits.few in omega (arith, a, c, f, few_handles));
        few_holds = has_by spans no_spans parts.world parts.dispatch (λ (x : Spans). ParentHasFewHolds x lane p)
            (few_if (parent_on (entries_on lane (spans_in spans parts.world parts.dispatch).lanes) p) (spans_in spans parts.world parts.dispatch).made (λ s. let f = inv.stands.fits.few_holds s in omega (arith, f, a, b, few_handles, few_guards)));
      }

  -- where the parent is there
  pub make_may_named : (under : RequestParent) (parent : Option Parent) → parent ≡ parent_for (map held_by parts.handles) under → (lane : ℕ) → length parts.handles < 2 ^ 62 → length parts.guards < 2 ^ 62 → IfSome parent (λ p. MayMake spans is_whole parts.world lane p parts.dispatch)
  make_may_named under None found lane few_handles few_guards = tt
  make_may_named under (Some p) found lane few_handles few_guards = make_may under p (sym found) lane few_handles few_guards

  pub tell_live : (under : RequestParent) (parent : Option Parent) → parent ≡ parent_for (map held_by parts.handles) under → IfSome parent (λ p. Has (λ s. IsLiveParent (spans s).made p) parts.world parts.dispatch)
  tell_live under None found = tt
  tell_live under (Some p) found = has_by spans no_spans parts.world parts.dispatch (λ (x : Spans). IsLiveParent x.made p) (find_up (state_of spans views parts) inv.tables inv.stands.fits 0 under p (sym found)).live_place

-- after a refusal for want of memory
pub made_alike : {S : Type 0} (spans : S → Spans) (views : Views S) (attaches : S → Bool) (kept : S → ℕ → ℕ → ℕ) (is_whole : S → Type 0) (same : S → S → Type 0) → SameLaw spans views attaches kept is_whole same
    → (parts : Parts S) (new : WorldValue S) (hs' : List (Option Handle)) → hs' ≡ parts.handles → Replaced same parts.world new parts.dispatch
    → (state_of spans views (record parts { world = new; handles = hs' }) ≡ state_of spans views parts) × (PipelineInvariant spans views kept is_whole parts → PipelineInvariant spans views kept is_whole (record parts { world = new; handles = hs' }))
made_alike {S} spans views attaches kept is_whole same law parts new hs' handles did =
    let alike = law.shown parts.world new parts.dispatch did in
    let sites = ap (λ (w : WorldValue S). w.sites) did.others in
    let told = law.viewed parts.world new parts.dispatch did in
    let cached = ap (λ (w : WorldValue S). w.cached) did.others in
    let next : Parts S = record parts { world = new; handles = hs' } in
    let still = adds_nothing (aside_in views parts.world parts.dispatch) (aside_in views new parts.dispatch) told.2 in
    let state : state_of spans views next ≡ state_of spans views parts = rw (alike.spans_same, sites, told.0, told.1, cached, still.0, still.1, handles) refl in
    (state, λ inv. kept_alike spans views attaches kept is_whole parts next inv state alike)
