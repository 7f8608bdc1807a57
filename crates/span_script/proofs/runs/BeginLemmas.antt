-- A pipeline without requests.
use Rattle.std.proofs.Common.{◌≡◌, ℕ, ◌<◌, List, [], ◌∷◌, ◌++◌, length, Bool, true, false, Option, Some, None, option_map, map, refl, sym, ap, subst, ◌∙◌, arith, zero, suc, slice_get, IfSome, is_some}
use Rattle.span_script.proofs.Common.{length-map, Lane, Callsite, WorldValue, AreSame, IsFresh, Interest, FilterState, FilterWithRoom, plain_filter, IsNewFilter, interest_in, Measure, filter_of_read, text_filter, IsTextFilter, IsCountingFilter, Spans, span_at, Has, Replaced, read_subscriber, spans_in, kept_in, no_spans, new_recording, Handle, Guard, Setup, HaveDistinctIds, id_at, Recording, no_recording, Owner, EntryOf, GuardOf, no_tables, nothing_recorded, open_part, Context, Views, ShownFilter, shown_of, ContextSlots, PipelineState, state_of, StandsFor, RecordingFits, FilteringFits, owner_numbers, ContextsFit, LaneValue, lane_value, lane_at, LanesFit, PipelineInvariant, Parts, AddsMeasures, SameLaw, aside_in}
use Rattle.span_script.proofs.filter.CounterLemmas.{adds_nothing}
use Rattle.span_script.proofs.filter.FilterLemmas.{cached_rows}
use Rattle.span_script.specs.declared.settings.FilterTexts.{FilterTexts}
use Rattle.span_script.specs.Fits.{Fits}
use Rattle.span_script.proofs.steps.SlotsLemmas.{some_is}

-- nothing fits no tables
pub new_fits : (setup : Setup) (lanes : List LaneValue) (recording : Recording) (filter : Option ShownFilter) (cached : List (List Interest)) (counting_filter : Option ShownFilter) (measures : List Measure) (base : Setup) (dispatch : ℕ) (spans : Spans) → spans ≡ no_spans
    → Fits (record { setup = setup; spans = spans; lanes = lanes; recording = recording; filter = filter; cached = cached; counting_filter = counting_filter; measures = measures; dispatch = dispatch; handles = []; handle_sites = []; guards = []; contexts = record { contexts = []; attaches = [] }; moment = 0 }) (no_tables base)
new_fits setup lanes recording filter cached counting_filter measures base dispatch spans is = subst (λ (x : Spans). Fits (record { setup = setup; spans = x; lanes = lanes; recording = recording; filter = filter; cached = cached; counting_filter = counting_filter; measures = measures; dispatch = dispatch; handles = []; handle_sites = []; guards = []; contexts = record { contexts = []; attaches = [] }; moment = 0 }) (no_tables base)) (sym is) (record {
  handle_slots = refl;
  site_slots = refl;
  guard_slots = refl;
  attach_slots = refl;
  paired = refl;
  named_contexts = refl;
  latest = refl;
  balanced = record { holds = λ s. refl; entries = λ lane. refl; guarded = λ lane s. refl; borrowed = λ n g there. absurd (cc there) };
  made = record { count = refl; parent = λ s live. absurd (omega (arith, live)); site = λ s live. absurd (omega (arith, live)) };
  one_row = tt;
  scopes = λ n scope there. absurd (cc there);
  still = λ n g there. absurd (cc there);
  own_scopes = λ s within. absurd (omega (arith, within));
  sited = λ s within. absurd (omega (arith, within));
  few = omega arith;
  few_holds = λ s. omega arith;
})

-- lanes with ids of their own, where nothing is kept attached
id_of_lane : (lanes : List Lane) (n : ℕ) → n < length lanes → (lane_at (map lane_value lanes) n).id ≡ id_at (map (λ (l : Lane). l.id) lanes) n
id_of_lane [] n within = absurd (omega (arith, within))
id_of_lane (l ∷ ls) zero within = refl
id_of_lane (l ∷ ls) (suc n) within = id_of_lane ls n (omega (arith, within))

own_of_lane : (dispatch : ℕ) (lanes : List Lane) → map (λ (l : Lane). l.default) lanes ≡ map (λ (l : Lane). Some dispatch) lanes → (n : ℕ) → n < length lanes → (lane_at (map lane_value lanes) n).default ≡ Some dispatch
own_of_lane dispatch [] served n within = absurd (omega (arith, within))
own_of_lane dispatch (l ∷ ls) served zero within = cc served
own_of_lane dispatch (l ∷ ls) served (suc n) within = own_of_lane dispatch ls (cc served) n (omega (arith, within))

pub new_lanes : (dispatch : ℕ) (lanes : List Lane) (ids : List ℕ) → map (λ (l : Lane). l.id) lanes ≡ ids → HaveDistinctIds ids → map (λ (l : Lane). l.default) lanes ≡ map (λ (l : Lane). Some dispatch) lanes → (kept : ℕ → ℕ → ℕ) → ((lane number : ℕ) → kept lane number ≡ 0) → LanesFit dispatch kept (map lane_value lanes)
new_lanes dispatch lanes ids are own served kept none =
    let many : length (map lane_value lanes) ≡ length ids = length-map lanes lane_value ∙ sym (length-map lanes (λ (l : Lane). l.id)) ∙ ap length are in
    let few : length (map lane_value lanes) ≡ length lanes = length-map lanes lane_value in
    let at : (n : ℕ) → n < length (map lane_value lanes) → (lane_at (map lane_value lanes) n).id ≡ id_at ids n = λ n within. id_of_lane lanes n (omega (arith, within, few)) ∙ ap (λ (is : List ℕ). id_at is n) are in
    record {
      differ = λ n m in_n in_m e. own n m (omega (arith, in_n, many)) (omega (arith, in_m, many)) (sym (at n in_n) ∙ e ∙ at m in_m);
      attached = λ n number within. (let z = none (lane_at (map lane_value lanes) n).id number in omega (arith, z));
      served = λ n within. own_of_lane dispatch lanes served n (omega (arith, within, few));
    }

no_items : {A : Type 0} (xs : List A) → length xs ≡ 0 → xs ≡ []
no_items [] e = refl
no_items (x ∷ xs) e = absurd (omega (arith, e))

-- the only subscriber of a world, seen through what is the same
module _ {S : Type 0} (same : S → S → Type 0) (spans : S → Spans) (views : Views S) (attaches : S → Bool) (kept : S → ℕ → ℕ → ℕ) (is_whole : S → Type 0)
    (law : SameLaw spans views attaches kept is_whole same) (first : S) where
  pub record Only (world : WorldValue S) (dispatch : ℕ) : Type 0 where
    pub there : dispatch < length world.subscribers
    pub spans_are : spans_in spans world dispatch ≡ spans first
    pub kept_is : kept_in kept world dispatch ≡ kept first
    pub recorded_is : read_subscriber views.recording no_recording world dispatch ≡ views.recording first
    pub filter_is : read_subscriber views.filter None world dispatch ≡ views.filter first
    pub aside_is : AddsMeasures (views.counting_filter first, views.measures first) (aside_in views world dispatch) []
    pub alone : length world.subscribers ≡ 1
    pub whole : is_whole first → Has is_whole world dispatch

  only_first : (world : WorldValue S) (x : S) → world.subscribers ≡ x ∷ [] → same first x → Only world 0
  only_first world x is kin =
      let old : WorldValue S = record world { subscribers = first ∷ [] } in
      let r : Replaced same old world 0 = record { before = first; later = x; there = refl; did = kin; others = ap (λ (xs : List S). record world { subscribers = xs }) is } in
      let alike = law.shown old world 0 r in
      record {
        there = (let k = ap (λ (ys : List S). length ys) is in omega (arith, k));
        spans_are = alike.spans_same;
        kept_is = alike.kept_same;
        recorded_is = (law.viewed old world 0 r).0;
        filter_is = (law.viewed old world 0 r).1;
        aside_is = (law.viewed old world 0 r).2;
        alone = ap (λ (ys : List S). length ys) is;
        whole = λ was. alike.whole (λ s there. (let e : first ≡ s = some_is first s there in subst is_whole e was));
      }

  pub only_one : (world : WorldValue S) (dispatch : ℕ) → dispatch ≡ 0 → AreSame same (first ∷ []) world.subscribers → Only world dispatch
  only_one world dispatch is are = subst (λ (d : ℕ). Only world d) (sym is) (by_list world.subscribers refl)
    where
      by_list : (xs : List S) → world.subscribers ≡ xs → Only world 0
      by_list [] e = absurd (let c = are.count in let k = ap (λ (ys : List S). length ys) e in omega (arith, c, k))
      by_list (x ∷ []) e = only_first world x e (are.each 0 first x refl (ap (λ (ys : List S). slice_get ys 0) e))
      by_list (x ∷ y ∷ ys) e = absurd (let c = are.count in let k = ap (λ (zs : List S). length zs) e in omega (arith, c, k))

-- nobody attached anything
no_numbers : (activation : Bool) (place lane : ℕ) (o : Owner) → owner_numbers activation place lane [] [] o ≡ []
no_numbers true place lane (EntryOf s) = refl
no_numbers false place lane (EntryOf s) = refl
no_numbers activation place lane (GuardOf n) = refl

-- lanes without contexts
no_live : (lanes : List Lane) → map (λ (l : Lane). l.contexts.live) lanes ≡ map (λ (l : Lane). []) lanes → (n : ℕ) → (lane_at (map lane_value lanes) n).live ≡ []
no_live [] are n = refl
no_live (l ∷ ls) are zero = cc are
no_live (l ∷ ls) are (suc n) = no_live ls (cc are) n

-- what a pipeline begins with
module _ {S : Type 0} (same : S → S → Type 0) (spans : S → Spans) (views : Views S) (attaches : S → Bool) (kept : S → ℕ → ℕ → ℕ) (is_whole : S → Type 0)
    (law : SameLaw spans views attaches kept is_whole same) (first : S)
    (world before : WorldValue S) (dispatch : ℕ) (opening : FilterTexts) (lanes : List Lane) (ids : List ℕ) (is : dispatch ≡ length before.subscribers) (empty : length before.subscribers ≡ 0) (are : AreSame same (before.subscribers ++ first ∷ []) world.subscribers)
    (none : spans first ≡ no_spans) (base : Setup) (nothing : views.recording first ≡ nothing_recorded base) (quiet : map (λ (l : Lane). l.contexts.live) lanes ≡ map (λ (l : Lane). []) lanes)
    (interest : S → Callsite → Interest) (shown : (s : S) (f : FilterState) (c : Callsite) → views.filter s ≡ Some f → interest s c ≡ interest_in f c) (fresh : IsFresh interest world)
    (f : FilterState) (opened : IsTextFilter opening.filter f) (gate : views.filter first ≡ Some f) (counts : IsCountingFilter opening.counting (views.counting_filter first)) (no_measures : views.measures first ≡ [])
    (hs : List (Option Handle)) (no_handles : hs ≡ []) (gs : List (Option Guard)) (no_guards : gs ≡ []) (cs : ContextSlots) (no_contexts : cs ≡ record { contexts = []; attaches = [] }) where
  its_only : Only same spans views attaches kept is_whole law first world dispatch
  its_only = only_one same spans views attaches kept is_whole law first world dispatch (is ∙ empty) (subst (λ (xs : List S). AreSame same (xs ++ first ∷ []) world.subscribers) (no_items before.subscribers empty) are)

  abbrev begun_parts : List (Option Handle) → List (Option Guard) → ContextSlots → Parts S
  begun_parts handles guards contexts = record { world = world; dispatch = dispatch; filter_texts = opening; lanes = lanes; handles = handles; guards = guards; contexts = contexts; moment = 0 }

  abbrev begun_state : PipelineState
  begun_state = state_of spans views (begun_parts hs gs cs)

  pub recorded_nothing : begun_state.recording ≡ nothing_recorded base
  recorded_nothing = its_only.recorded_is ∙ nothing

  fits_begun : Fits begun_state (no_tables base)
  fits_begun = subst (λ (x : List (Option Handle)). Fits (state_of spans views (begun_parts x gs cs)) (no_tables base)) (sym no_handles)
      (subst (λ (x : List (Option Guard)). Fits (state_of spans views (begun_parts [] x cs)) (no_tables base)) (sym no_guards)
      (subst (λ (x : ContextSlots). Fits (state_of spans views (begun_parts [] [] x)) (no_tables base)) (sym no_contexts) (new_fits _ _ _ _ _ _ _ base _ _ (its_only.spans_are ∙ none))))

  records_begun : RecordingFits begun_state (no_tables base)
  records_begun = record {
    recorded = ap open_part recorded_nothing;
    known = λ s live. absurd (let e = ap (λ (x : Spans). (span_at x.made s).holds) (its_only.spans_are ∙ none) in omega (arith, e, live));
    attached = λ n within. subst (λ (live : List (ℕ × Context)). ContextsFit (owner_numbers begun_state.setup.layer.activation n (lane_at (map lane_value lanes) n).id begun_state.recording.tokens cs.attaches) live []) (sym (no_live lanes quiet n))
        (subst (λ (r : Recording). ContextsFit (owner_numbers begun_state.setup.layer.activation n (lane_at (map lane_value lanes) n).id r.tokens cs.attaches) [] []) (sym recorded_nothing)
        (subst (λ (x : ContextSlots). ContextsFit (owner_numbers begun_state.setup.layer.activation n (lane_at (map lane_value lanes) n).id [] x.attaches) [] []) (sym no_contexts)
        (record { contexts = refl; distinct = tt; numbers_are = λ o. sym (no_numbers begun_state.setup.layer.activation n (lane_at (map lane_value lanes) n).id o) })));
  }

  filter_begun : FilteringFits begun_state (no_tables base)
  filter_begun =
      let now : text_filter opening.filter ≡ f = ap filter_of_read opened.read ∙ sym opened.is in
      record {
        in_place = ap (option_map (shown_of (length (spans_in spans world dispatch).made) begun_state.setup.ids)) (its_only.filter_is ∙ gate)
            ∙ ap (λ (x : Spans). Some (shown_of (length x.made) begun_state.setup.ids f)) (its_only.spans_are ∙ none) ∙ ap (λ (x : FilterState). Some (shown_of 0 begun_state.setup.ids x)) (sym now);
        fresh = cached_rows views interest shown world dispatch f its_only.alone its_only.there (its_only.filter_is ∙ gate) fresh
            ∙ ap (λ (x : FilterState). map (λ (c : Callsite). interest_in x c ∷ []) world.sites) (sym now);
        counting_filter = ap (option_map (shown_of 0 begun_state.setup.ids)) (its_only.aside_is.counting_filter ∙ counts.is);
        new = subst (λ (o : Option FilterState). IfSome o IsNewFilter) counts.is counts.new;
      }

  pub measured_nothing : begun_state.measures ≡ []
  measured_nothing = (adds_nothing (views.counting_filter first, views.measures first) (aside_in views world dispatch) its_only.aside_is).1 ∙ no_measures

  pub begins : StandsFor begun_state (no_tables base)
  begins = record { fits = fits_begun; recording = records_begun; filtering = filter_begun }

  pub begun_setup : (sites : List Callsite) (names : List (Option (List ℕ))) (force : FilterTexts) → world.sites ≡ sites → map (λ (l : Lane). l.id) lanes ≡ ids → map (λ (l : Lane). l.name) lanes ≡ names → opening ≡ force
      → begun_state.setup ≡ record { sites = sites; ids = ids; names = names; filter = force.filter; counting = force.counting; layer = base.layer }
  begun_setup sites names force sites_are ids_are names_are is_force = rw (sites_are, ids_are, names_are, is_force, ap (λ (r : Recording). r.settings) recorded_nothing) refl

  pub keeps_begun : is_whole first → map (λ (l : Lane). l.id) lanes ≡ ids → HaveDistinctIds ids → map (λ (l : Lane). l.default) lanes ≡ map (λ (l : Lane). Some dispatch) lanes → ((lane number : ℕ) → kept first lane number ≡ 0) → PipelineInvariant spans views kept is_whole (begun_parts hs gs cs)
  keeps_begun whole ids_are own served free = record {
    there = its_only.there;
    alone = its_only.alone;
    whole = its_only.whole whole;
    lanes = new_lanes dispatch lanes ids ids_are own served _ (λ lane number. ap (λ (f : ℕ → ℕ → ℕ). f lane number) its_only.kept_is ∙ free lane number);
    tables = no_tables base;
    stands = begins;
  }

-- a stack that was just made has recorded nothing, and counts where events are counted
pub records_none : (r : Recording) (base : Setup) (counting_filter : Option FilterWithRoom) → r ≡ new_recording base.layer (is_some counting_filter) → IsCountingFilter base.counting (option_map plain_filter counting_filter) → r ≡ nothing_recorded base
records_none r base counting_filter is counts = is ∙ ap (λ (b : Bool). new_recording base.layer b) (sym (some_mapped plain_filter counting_filter) ∙ ap is_some counts.is ∙ some_mapped text_filter base.counting)
  where
    some_mapped : {A B : Type 0} (f : A → B) (o : Option A) → is_some (option_map f o) ≡ is_some o
    some_mapped f None = refl
    some_mapped f (Some x) = refl
