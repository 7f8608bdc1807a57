-- Ops on spans that leave all else as it is, served; and events.
use Rattle.span_script.proofs.Common.{length-map, Measure, Token, Recording, no_recording, with_start, with_applied, Lane, Callsite, Kind, ValueSet, Parent, WorldValue, FilterState, IsNewFilter, enables_in, Spans, span_at, entries_on, parent_on, SubscriberCall, read_subscriber, spans_in, kept_in, Has, Reply, RequestParent, id_at, if_event, event_site, Scope, SpanOp, FilterHook, Effect, Tables, span_of_scope, recording_after, quiet_effect, Fields, all_values, text_filter, here_at, Resolved, ◌>>=◌, need, ops_on, effect_of_call, if_enabled, event_ops, event_effect, after_filter_hook, parent_scope, parent_for, HasWhatItNames, TellsEventOfRequest, TellsEventOrNothing, IsGateAnswer, Views, shown_of, PipelineState, state_of, lane_value, held_by, StandsFor, LanesFit, PipelineInvariant, IsServed, Parts, with_counted, with_event_by, AddsMeasures, CallsLaw, aside_in}
use Rattle.std.proofs.Common.{◌≡◌, ℕ, ◌<◌, List, [], ◌∷◌, length, Bool, true, false, fold, get_or, Option, Some, None, Ok, option_map, map, refl, sym, ap, subst, ◌∙◌, arith, slice_get, option_and_then, IfSome}
use Rattle.otel_state.specs.fields.EventFields.{event_op}
use Rattle.otel_state.specs.declared.op.Op.TheVariants as ops
use Rattle.otel_metrics.specs.Measures.{measures}
use Rattle.env_directives.specs.orders.Choice.{admits}
use Rattle.trace_base.specs.declared.callsite.Kind.TheVariants as kinds
use Rattle.span_script.specs.declared.reply.Reply.TheVariants as reply
use Rattle.span_script.specs.declared.request.Call.TheVariants as call
use Rattle.span_script.specs.declared.reply.What.TheVariants as what
use Rattle.span_script.proofs.filter.CounterLemmas.{adds_same}
use Rattle.span_script.proofs.steps.StepLemmas.{fits_step, quiet_step}
use Rattle.span_script.proofs.filter.FilterLemmas.{AreKnown, heard_none, agree_by, enables_alike}
use Rattle.span_script.proofs.filter.GateLemmas.{answered}
use Rattle.span_script.proofs.steps.LanesLemmas.{id_seen}
use Rattle.span_script.proofs.steps.RecordingLemmas.{recorded_settings, recorded_tokens}
use Rattle.span_script.proofs.spans.MoreHandlesLemmas.{find_up}
use Rattle.span_script.proofs.steps.ServesLemmas.{serve, known_still, all_same, kept_served}
use Rattle.span_script.proofs.spans.SitesLemmas.{the_callsite}

-- the callsite of an event at a place
pub site_is : (sites : List Callsite) (site : ℕ) (callsite : Callsite) → event_site sites site ≡ Some callsite → slice_get sites site ≡ Some callsite
site_is sites site callsite is = by_site (slice_get sites site) is
  where
    by_kind : (c : Callsite) (kind : Kind) → if_event c kind ≡ Some callsite → Some c ≡ Some callsite
    by_kind c kinds.Span e = absurd (cc e)
    by_kind c kinds.Event e = e

    by_site : (o : Option Callsite) → option_and_then (λ c. if_event c c.kind) o ≡ Some callsite → o ≡ Some callsite
    by_site None e = absurd (cc e)
    by_site (Some c) e = by_kind c c.kind e

event_kind : (sites : List Callsite) (site : ℕ) (callsite : Callsite) → event_site sites site ≡ Some callsite → callsite.kind ≡ kinds.Event
event_kind sites site callsite is = by_site (slice_get sites site) is
  where
    by_kind : (c : Callsite) (kind : Kind) → c.kind ≡ kind → if_event c kind ≡ Some callsite → callsite.kind ≡ kinds.Event
    by_kind c kinds.Span k e = absurd (cc e)
    by_kind c kinds.Event k e = ap (λ (x : Callsite). x.kind) (sym (the_callsite c callsite e)) ∙ k

    by_site : (o : Option Callsite) → option_and_then (λ c. if_event c c.kind) o ≡ Some callsite → callsite.kind ≡ kinds.Event
    by_site None e = absurd (cc e)
    by_site (Some c) e = by_kind c c.kind refl e

-- ops on spans, of which the filter hears
abbrev pub tells_heard : ℕ → ℕ → Reply → List SpanOp → List FilterHook → Effect
tells_heard at place answer done heard = record (quiet_effect at place answer) { ops = done; hooks = heard }

-- what a list of ops makes of what was recorded
abbrev pub done_by : ℕ → List SpanOp → Recording → Recording
done_by at o r = fold (λ r d. with_applied d.span at d.op r) r o

-- what a list of starts makes of it
abbrev pub started_by : ℕ → List ℕ → Recording → Recording
started_by at ss r = fold (λ r s. with_start s at r) r ss

-- what law a new filter has for events
abbrev pub Decides : Type 0
Decides = (f : FilterState) (lane : ℕ) (c : Callsite) → IsNewFilter f → c.kind ≡ kinds.Event → enables_in f lane c ≡ admits f.statics.directives c

-- an event is some ops of the own span of the scope that it reaches
told_is : Decides → (ids : List ℕ) (counting : Option (List ℕ)) (counting_filter : Option FilterState) → option_map (shown_of 0 ids) counting_filter ≡ option_map (shown_of 0 ids) (option_map text_filter counting) → IfSome (option_map text_filter counting) IsNewFilter
    → (scope : Scope) (id place : ℕ) → id ≡ id_at ids place → place < length ids → (at : ℕ) (callsite : Callsite) → callsite.kind ≡ kinds.Event → (values : ValueSet) (r : Recording)
    → with_event_by counting_filter (span_of_scope scope) id at callsite values r ≡ done_by at (ops_on scope (event_ops counting callsite (event_op callsite values r.settings at))) r
told_is decides ids counting counting_filter shown new scope id place mine within at callsite event values r = by_counting counting counting_filter shown new scope
  where
    by_flag : (b : Bool) (s : ℕ) → with_counted b s at callsite values r ≡ done_by at (ops_on (s ∷ []) (ops.Counted ∷ if_enabled b (event_op callsite values r.settings at ∷ []))) r
    by_flag true s = refl
    by_flag false s = refl

    takes : (f g : FilterState) → Some (shown_of 0 ids f) ≡ Some (shown_of 0 ids g) → IsNewFilter g → enables_in f id callsite ≡ admits g.statics.directives callsite
    takes f g same fresh =
        ap (λ (l : ℕ). enables_in f l callsite) mine ∙ enables_alike 0 ids f g place callsite (agree_by 0 ids f g (let e : shown_of 0 ids f ≡ shown_of 0 ids g = cc same in e)) within ∙ decides g (id_at ids place) callsite fresh event

    by_counting : (text : Option (List ℕ)) (o : Option FilterState) → option_map (shown_of 0 ids) o ≡ option_map (shown_of 0 ids) (option_map text_filter text) → IfSome (option_map text_filter text) IsNewFilter → (reached : Scope)
        → with_event_by o (span_of_scope reached) id at callsite values r ≡ done_by at (ops_on reached (event_ops text callsite (event_op callsite values r.settings at))) r
    by_counting None None same fresh [] = refl
    by_counting None None same fresh (s ∷ up) = refl
    by_counting None (Some f) same fresh reached = absurd (cc same)
    by_counting (Some text) None same fresh reached = absurd (cc same)
    by_counting (Some text) (Some f) same fresh [] = refl
    by_counting (Some text) (Some f) same fresh (s ∷ up) = ap (λ (b : Bool). with_counted b s at callsite values r) (takes f (text_filter text) same fresh) ∙ by_flag (admits (text_filter text).statics.directives callsite) s

module _ {S : Type 0} (spans : S → Spans) (views : Views S) (attaches : S → Bool) (kept : S → ℕ → ℕ → ℕ) (is_whole : S → Type 0) (parts : Parts S) (new : WorldValue S) where
  -- spans were started, then ops were done on spans, of which the filter heard, some measures were added, and nothing else
  pub record Starts (at : ℕ) (ss : List ℕ) (o : List SpanOp) (heard : List FilterHook) (added : List Measure) : Type 0 where
    pub spans_same : spans_in spans new parts.dispatch ≡ spans_in spans parts.world parts.dispatch
    pub kept_same : kept_in kept new parts.dispatch ≡ kept_in kept parts.world parts.dispatch
    pub sites_same : new.sites ≡ parts.world.sites
    pub recorded_is : read_subscriber views.recording no_recording new parts.dispatch ≡ done_by at o (started_by at ss (read_subscriber views.recording no_recording parts.world parts.dispatch))
    pub filter_is : read_subscriber views.filter None new parts.dispatch ≡ option_map (λ f. fold after_filter_hook f heard) (read_subscriber views.filter None parts.world parts.dispatch)
    pub cached_same : new.cached ≡ parts.world.cached
    pub aside_is : AddsMeasures (aside_in views parts.world parts.dispatch) (aside_in views new parts.dispatch) added
    pub count : length new.subscribers ≡ length parts.world.subscribers
    pub whole : Has is_whole parts.world parts.dispatch → Has is_whole new parts.dispatch

  -- the ops alone
  abbrev pub Does : ℕ → List SpanOp → List FilterHook → Type 0
  Does at o heard = Starts at [] o heard []

  -- none, where nothing changed
  pub does_none : (at : ℕ) → new ≡ parts.world → Does at [] []
  does_none at same = record {
    spans_same = ap (λ (w : WorldValue S). spans_in spans w parts.dispatch) same;
    kept_same = ap (λ (w : WorldValue S). kept_in kept w parts.dispatch) same;
    sites_same = ap (λ (w : WorldValue S). w.sites) same;
    recorded_is = ap (λ (w : WorldValue S). read_subscriber views.recording no_recording w parts.dispatch) same;
    filter_is = ap (λ (w : WorldValue S). read_subscriber views.filter None w parts.dispatch) same ∙ heard_none (read_subscriber views.filter None parts.world parts.dispatch);
    cached_same = ap (λ (w : WorldValue S). w.cached) same;
    aside_is = adds_same views parts.world new parts.dispatch same;
    count = ap (λ (w : WorldValue S). length w.subscribers) same;
    whole = λ has. subst (λ (w : WorldValue S). Has is_whole w parts.dispatch) (sym same) has;
  }

  abbrev now : PipelineState
  now = state_of spans views parts

  abbrev r : Recording
  r = read_subscriber views.recording no_recording parts.world parts.dispatch

  module _ (at place : ℕ) where
    abbrev then_parts : Parts S
    then_parts = record parts { world = new; moment = at }

    abbrev then : PipelineState
    then = state_of spans views then_parts

    -- the effect of some starts and ops, of which the filter hears, and of measures
    abbrev pub measures_then : List ℕ → List SpanOp → List FilterHook → List Measure → Reply → Effect
    measures_then ss o heard added answer = record (tells_heard at (id_at now.setup.ids place) answer o heard) { starts = ss; measures = added }

    abbrev pub starts_then : List ℕ → List SpanOp → List FilterHook → Reply → Effect
    starts_then ss o heard answer = measures_then ss o heard [] answer

    pub serves_measures : (t : Tables) → StandsFor now t → (ss : List ℕ) (o : List SpanOp) (heard : List FilterHook) (added : List Measure) (known : AreKnown (length t.spans) heard (length t.spans)) (answer : Reply) (resolved : Resolved) → Starts at ss o heard added → resolved ≡ Ok (measures_then ss o heard added answer) → IsServed resolved t now then answer
    serves_measures t stands ss o heard added known answer resolved did is =
        let fits = stands.fits in
        let ids = now.setup.ids in
        let step = did.spans_same in
        let e : Effect = measures_then ss o heard added answer in
        let tokens = recorded_tokens (length t.spans) e r in
        let rec_is : read_subscriber views.recording no_recording new parts.dispatch ≡ record (recording_after (length t.spans) e r) { tokens = r.tokens } = did.recorded_is ∙ ap (λ (ts : List Token). record (recording_after (length t.spans) e r) { tokens = ts }) tokens in
        let settings = ap (λ (x : Recording). x.settings) rec_is ∙ recorded_settings (length t.spans) e r in
        let setup : then.setup ≡ now.setup = ap (λ x. record now.setup { sites = x; layer = (read_subscriber views.recording no_recording new parts.dispatch).settings }) did.sites_same ∙ ap (λ x. record now.setup { layer = x }) settings in
        serve now then t e resolved answer stands is refl setup r.tokens rec_is
        (fits_step now t fits then e (quiet_step now then t e fits setup refl refl refl refl refl refl refl step))
        (λ s some. known_still now then t e r.tokens rec_is stands.recording s refl (subst (λ (x : Spans). 0 < (span_at x.made s).holds) step some))
        (all_same now then t.contexts setup refl refl (ap (λ (x : Recording). x.tokens) rec_is) stands.recording.attached)
        (record { quiet = refl; before = read_subscriber views.filter None parts.world parts.dispatch; later = read_subscriber views.filter None new parts.dispatch; shown_before = refl; shown_later = refl; told = did.filter_is; known = known; cached = did.cached_same; aside = record { before = aside_in views parts.world parts.dispatch; later = aside_in views new parts.dispatch; shown_before = refl; shown_later = refl; waits_before = refl; waits_later = refl; adds = did.aside_is } })

    pub keeps_measures : (inv : PipelineInvariant spans views kept is_whole parts) (ss : List ℕ) (o : List SpanOp) (heard : List FilterHook) (added : List Measure) (known : AreKnown (length inv.tables.spans) heard (length inv.tables.spans)) (answer : Reply) (resolved : Resolved) → Starts at ss o heard added → resolved ≡ Ok (measures_then ss o heard added answer) → PipelineInvariant spans views kept is_whole then_parts
    keeps_measures inv ss o heard added known answer resolved did is =
        kept_served spans views kept is_whole parts then_parts inv resolved answer (serves_measures inv.tables inv.stands ss o heard added known answer resolved did is) refl did.count did.whole
        (subst (λ (f : ℕ → ℕ → ℕ). LanesFit parts.dispatch f (map lane_value parts.lanes)) (sym did.kept_same) inv.lanes)

    -- the same without measures
    pub serves_starts : (t : Tables) → StandsFor now t → (ss : List ℕ) (o : List SpanOp) (heard : List FilterHook) (known : AreKnown (length t.spans) heard (length t.spans)) (answer : Reply) (resolved : Resolved) → Starts at ss o heard [] → resolved ≡ Ok (starts_then ss o heard answer) → IsServed resolved t now then answer
    serves_starts t stands ss o heard known answer resolved did is = serves_measures t stands ss o heard [] known answer resolved did is

    pub keeps_starts : (inv : PipelineInvariant spans views kept is_whole parts) (ss : List ℕ) (o : List SpanOp) (heard : List FilterHook) (known : AreKnown (length inv.tables.spans) heard (length inv.tables.spans)) (answer : Reply) (resolved : Resolved) → Starts at ss o heard [] → resolved ≡ Ok (starts_then ss o heard answer) → PipelineInvariant spans views kept is_whole then_parts
    keeps_starts inv ss o heard known answer resolved did is = keeps_measures inv ss o heard [] known answer resolved did is

    -- the same of ops alone
    pub serves_ops : (t : Tables) → StandsFor now t → (o : List SpanOp) (heard : List FilterHook) (known : AreKnown (length t.spans) heard (length t.spans)) (answer : Reply) (resolved : Resolved) → Does at o heard → resolved ≡ Ok (tells_heard at (id_at now.setup.ids place) answer o heard) → IsServed resolved t now then answer
    serves_ops t stands o heard known answer resolved did is = serves_starts t stands [] o heard known answer resolved did is

    pub keeps_ops : (inv : PipelineInvariant spans views kept is_whole parts) (o : List SpanOp) (heard : List FilterHook) (known : AreKnown (length inv.tables.spans) heard (length inv.tables.spans)) (answer : Reply) (resolved : Resolved) → Does at o heard → resolved ≡ Ok (tells_heard at (id_at now.setup.ids place) answer o heard) → PipelineInvariant spans views kept is_whole then_parts
    keeps_ops inv o heard known answer resolved did is = keeps_starts inv [] o heard known answer resolved did is

  module _ (does : S → SubscriberCall → S → Type 0) (law : CallsLaw spans views attaches kept is_whole does)
      (at place : ℕ) where
    module _ (under : RequestParent) (parent : Option Parent) (found : parent ≡ parent_for (map held_by parts.handles) under) (site : ℕ) (fields : Fields)
        (before : Lane) (within : place < length parts.lanes) (here : before ≡ get_or parts.lanes place before) (enabled : Bool) (gate : IsGateAnswer (read_subscriber views.filter None parts.world parts.dispatch) parts.world.sites before.id site enabled)
        (did : TellsEventOfRequest does parts.world new before at parent site fields parts.dispatch enabled) (decides : Decides) where
      abbrev named : HasWhatItNames (event_site parts.world.sites site) parent fields
      named = did.named

      abbrev given : Callsite
      given = named.given

      abbrev p : Parent
      p = named.under

      abbrev values : ValueSet
      values = named.values

      same_site : (c : Callsite) → slice_get parts.world.sites site ≡ Some c → c ≡ given
      same_site c is = the_callsite c given (sym is ∙ site_is parts.world.sites site given named.given_is)

      -- the ops that it is, on the own span of the scope that it reaches, and its measures
      abbrev ops_of : Bool → Scope → List SpanOp
      ops_of b reached = if_enabled b (ops_on reached (event_ops parts.filter_texts.counting given (event_op given values r.settings at)))

      abbrev measures_of : Bool → List Measure
      measures_of b = if_enabled b (measures given values)

      does_told : (t : Tables) → StandsFor now t → (b : Bool) → TellsEventOrNothing does b parts.world new before at p site values parts.dispatch → (reached : Scope) → parent_on (entries_on before.id (spans_in spans parts.world parts.dispatch).lanes) p ≡ span_of_scope reached
          → Starts at [] (ops_of b reached) [] (measures_of b)
      does_told t stands true told reached reaches =
          let rec = r in
          let shown = law.shown parts.world new parts.dispatch _ told.told in
          let counting_filter = read_subscriber views.counting_filter None parts.world parts.dispatch in
          let viewed = law.viewed parts.world new parts.dispatch _ told.told in
          record {
            spans_same = shown.spans_after;
            kept_same = shown.lanes;
            sites_same = ap (λ (w : WorldValue S). w.sites) told.told.others;
            recorded_is = viewed.0 ∙ ap (λ (o : Option ℕ). with_event_by counting_filter o before.id at told.callsite values rec) reaches
                ∙ ap (λ (c : Callsite). with_event_by counting_filter (span_of_scope reached) before.id at c values rec) (same_site told.callsite told.is)
                ∙ told_is decides (map (λ (l : Lane). l.id) parts.lanes) parts.filter_texts.counting counting_filter stands.filtering.counting_filter stands.filtering.new reached before.id place (id_seen parts.lanes place before within here) (let l = length-map parts.lanes (λ (x : Lane). x.id) in omega (arith, within, l)) at given (event_kind parts.world.sites site given named.given_is) values rec;
            filter_is = viewed.1;
            aside_is = subst (λ (c : Callsite). AddsMeasures (aside_in views parts.world parts.dispatch) (aside_in views new parts.dispatch) (measures c values)) (same_site told.callsite told.is) viewed.2;
            cached_same = ap (λ (w : WorldValue S). w.cached) told.told.others;
            count = shown.count;
            whole = shown.whole;
          }
      does_told t stands false same reached reaches = does_none at same

      record Told (t : Tables) : Type 0 where
        ops : List SpanOp
        added : List Measure
        done : Starts at [] ops [] added
        is : effect_of_call now.setup t at place (call.Event site under fields) ≡ Ok (measures_then at place [] ops [] added (reply.Enabled enabled))

      told : (t : Tables) → StandsFor now t → Told t
      told t stands =
          let k = now in
          let id = id_at k.setup.ids place in
          let callsite = given in
          let up = find_up k t stands.fits id under p (sym found ∙ named.under_is) in
          let reaches = ap (λ (l : ℕ). parent_on (entries_on l (spans_in spans parts.world parts.dispatch).lanes) p) (id_seen parts.lanes place before within here) ∙ up.on in
          record {
            ops = ops_of enabled up.up;
            added = measures_of enabled;
            done = does_told t stands enabled did.did up.up reaches;
            is = ap (λ o. need what.Site o >>= (λ c. need what.Handle (parent_scope t id under) >>= (λ reached. need what.Field (all_values c fields) >>= (λ v. Ok (event_effect (here_at k.setup t at place) c v reached))))) named.given_is
                ∙ ap (λ o. need what.Handle o >>= (λ reached. need what.Field (all_values callsite fields) >>= (λ v. Ok (event_effect (here_at k.setup t at place) callsite v reached)))) up.is
                ∙ ap (λ o. need what.Field o >>= (λ v. Ok (event_effect (here_at k.setup t at place) callsite v up.up))) named.values_are
                ∙ ap (λ (b : Bool). Ok (measures_then at place [] (ops_of b up.up) [] (measures_of b) (reply.Enabled b))) (answered spans views parts place before within here site callsite (site_is parts.world.sites site callsite named.given_is) enabled gate t stands);
          }

      pub serves_told : (t : Tables) → StandsFor now t → IsServed (effect_of_call now.setup t at place (call.Event site under fields)) t now (then at place) (reply.Enabled enabled)
      serves_told t stands = (let e = told t stands in serves_measures at place t stands [] e.ops [] e.added refl (reply.Enabled enabled) _ e.done e.is)

      pub keeps_told : PipelineInvariant spans views kept is_whole parts → PipelineInvariant spans views kept is_whole (then_parts at place)
      keeps_told inv = (let e = told inv.tables inv.stands in keeps_measures at place inv [] e.ops [] e.added refl (reply.Enabled enabled) _ e.done e.is)
