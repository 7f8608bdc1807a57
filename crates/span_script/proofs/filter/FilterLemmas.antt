-- The filter in force, and the cache, after one effect more.
use Rattle.std.proofs.Common.{◌≡◌, ℕ, zero, suc, ◌+◌, ◌<◌, List, [], ◌∷◌, ◌++◌, length, fold, Option, Some, None, option_map, map, slice_get, refl, sym, ap, subst, ◌∙◌, arith, inl, inr, is_some, nat_eq, IfSome}
use Rattle.span_script.proofs.Common.{cases_eq, cond-true, cond-false, option_map_or, Callsite, Interest, WorldValue, IsFresh, interests_of_sites, read_subscriber, SubscriberStack, filter_in_place, stack_interest, layer_or, sometimes, Directive, FilterState, FilterWithRoom, IsNewFilter, plain_filter, interest_in, is_admitted, enables_in, Setup, id_at, FilterHook, HookNew, HookRecord, HookEnter, HookExit, HookClose, Effect, Tables, after_effect, with_item, newer_text, hooks_since, after_filter_hook, text_in_force, filter_in_force, text_filter, Views, ShownFilter, values_below, shown_of, counting_filter_by, PipelineState, FilteringFits}
use Rattle.std.proofs.lemmas.Bool.{eq-eqb, ne_eqb}
use Rattle.trace_base.specs.declared.subscriber.Interest.TheVariants as interests
use Rattle.span_registry.specs.Both.{joint_interest}
use Rattle.env_directives.specs.orders.Table.{DirectiveTable}
use Rattle.env_filter.specs.spans.Keyed.{put}
use Rattle.env_filter.specs.spans.Kept.{with_open_level, without_open_level}
use Rattle.env_filter.specs.spans.Levels.{OpenLevel}
use Rattle.env_filter.specs.spans.Watching.{MatchState, new_match_state, with_values, level_of_match}
use Rattle.span_script.proofs.filter.CounterLemmas.{AddsTo}

-- one after another
heard_both : (f : FilterState) (xs ys : List FilterHook) → fold after_filter_hook f (xs ++ ys) ≡ fold after_filter_hook (fold after_filter_hook f xs) ys
heard_both f [] ys = refl
heard_both f (x ∷ xs) ys = heard_both (after_filter_hook f x) xs ys

-- nothing that is heard changes what a filter is interested in
interest_heard : (f : FilterState) (all : List FilterHook) (c : Callsite) → interest_in (fold after_filter_hook f all) c ≡ interest_in f c
interest_heard f [] c = refl
interest_heard f (heard ∷ all) c = interest_heard (after_filter_hook f heard) all c ∙ by_one heard
  where
    by_one : (heard : FilterHook) → interest_in (after_filter_hook f heard) c ≡ interest_in f c
    by_one (HookNew s callsite values) = refl
    by_one (HookRecord s callsite values) = refl
    by_one (HookEnter s lane) = refl
    by_one (HookExit s lane) = refl
    by_one (HookClose s) = refl

abbrev pub rows_of : FilterState → List Callsite → List (List Interest)
rows_of f sites = map (λ c. interest_in f c ∷ []) sites

rows_heard : (f : FilterState) (all : List FilterHook) (sites : List Callsite) → rows_of (fold after_filter_hook f all) sites ≡ rows_of f sites
rows_heard f all [] = refl
rows_heard f all (c ∷ sites) = ap (λ (i : Interest). (i ∷ []) ∷ rows_of (fold after_filter_hook f all) sites) (interest_heard f all c) ∙ ap (λ (rows : List (List Interest)). (interest_in f c ∷ []) ∷ rows) (rows_heard f all sites)

-- ---- filters that are seen alike

pub record Agree (many : ℕ) (ids : List ℕ) (f g : FilterState) : Type 0 where
  pub statics : f.statics ≡ g.statics
  pub dynamics : f.dynamics ≡ g.dynamics
  pub spans : (s : ℕ) → s < many → f.spans s ≡ g.spans s
  pub lanes : map f.lanes ids ≡ map g.lanes ids

firsts_agree : {X : Type 0} (f g : ℕ → X) (n : ℕ) → values_below f n ≡ values_below g n → (s : ℕ) → s < n → f s ≡ g s
firsts_agree f g zero e s below = absurd (omega (arith, below))
firsts_agree {X} f g (suc n) e s below = elim (cases_eq s n) [
  | inl here ↦ ap f here ∙ heads e ∙ ap g (sym here)
  | inr other ↦ firsts_agree f g n (tails e) s (omega (arith, below, other))
]
  where
    heads : {x y : X} {xs ys : List X} → x ∷ xs ≡ y ∷ ys → x ≡ y
    heads e = cc e

    tails : {x y : X} {xs ys : List X} → x ∷ xs ≡ y ∷ ys → xs ≡ ys
    tails e = cc e

firsts_same : {X : Type 0} (f g : ℕ → X) (n : ℕ) → ((s : ℕ) → s < n → f s ≡ g s) → values_below f n ≡ values_below g n
firsts_same f g zero same = refl
firsts_same {X} f g (suc n) same = ap (λ (x : X). x ∷ values_below f n) (same n (omega arith)) ∙ ap (λ (xs : List X). g n ∷ xs) (firsts_same f g n (λ s below. same s (omega (arith, below))))

pub agree_by : (many : ℕ) (ids : List ℕ) (f g : FilterState) → shown_of many ids f ≡ shown_of many ids g → Agree many ids f g
agree_by many ids f g same = record {
  statics = ap (λ (x : ShownFilter). x.statics) same;
  dynamics = ap (λ (x : ShownFilter). x.dynamics) same;
  spans = firsts_agree f.spans g.spans many (ap (λ (x : ShownFilter). x.spans) same);
  lanes = ap (λ (x : ShownFilter). x.lanes) same;
}

shown_same : (many : ℕ) (ids : List ℕ) (f g : FilterState) → Agree many ids f g → shown_of many ids f ≡ shown_of many ids g
shown_same many ids f g a = rw (a.statics, a.dynamics, firsts_same f.spans g.spans many a.spans, a.lanes) refl

put_same : {V : Type 0} (f g : ℕ → V) (k : ℕ) (v w : V) (j : ℕ) → (k ≡ j → v ≡ w) → ((k ≡ j → ⊥) → f j ≡ g j) → put f k v j ≡ put g k w j
put_same {V} f g k v w j here there = elim (cases_eq k j) [
  | inl e ↦ cond-true {A = V} (nat_eq k j) v (f j) (eq-eqb k j e) ∙ here e ∙ sym (cond-true {A = V} (nat_eq k j) w (g j) (eq-eqb k j e))
  | inr other ↦ cond-false {A = V} (nat_eq k j) v (f j) (ne_eqb k j other) ∙ there other ∙ sym (cond-false {A = V} (nat_eq k j) w (g j) (ne_eqb k j other))
]

lanes_put : (ids : List ℕ) (f g : ℕ → List OpenLevel) (k : ℕ) (step : List OpenLevel → List OpenLevel) → map f ids ≡ map g ids → map (put f k (step (f k))) ids ≡ map (put g k (step (g k))) ids
lanes_put [] f g k step same = refl
lanes_put (i ∷ ids) f g k step same =
    let head : f i ≡ g i = cc same in
    let tail : map f ids ≡ map g ids = cc same in
    ap (λ (x : List OpenLevel). x ∷ map (put f k (step (f k))) ids) (put_same f g k (step (f k)) (step (g k)) i (λ e. ap (λ (n : ℕ). step (f n)) e ∙ ap step head ∙ ap (λ (n : ℕ). step (g n)) (sym e)) (λ other. head))
    ∙ ap (λ (xs : List (List OpenLevel)). put g k (step (g k)) i ∷ xs) (lanes_put ids f g k step tail)

-- what is heard names spans that are there, and makes the next one
abbrev pub IsKnownHeard : ℕ → FilterHook → Type 0
IsKnownHeard n (HookNew s callsite values) = s ≡ n
IsKnownHeard n (HookRecord s callsite values) = Unit {0}
IsKnownHeard n (HookEnter s lane) = s < n
IsKnownHeard n (HookExit s lane) = s < n
IsKnownHeard n (HookClose s) = Unit {0}

abbrev pub count_heard : ℕ → FilterHook → ℕ
count_heard n (HookNew s callsite values) = n + 1
count_heard n (HookRecord s callsite values) = n
count_heard n (HookEnter s lane) = n
count_heard n (HookExit s lane) = n
count_heard n (HookClose s) = n

abbrev pub AreKnown : ℕ → List FilterHook → ℕ → Type 0
AreKnown n [] m = n ≡ m
AreKnown n (heard ∷ all) m = IsKnownHeard n heard × AreKnown (count_heard n heard) all m

agree_heard : (n : ℕ) (ids : List ℕ) (f g : FilterState) (heard : FilterHook) → IsKnownHeard n heard → Agree n ids f g → Agree (count_heard n heard) ids (after_filter_hook f heard) (after_filter_hook g heard)
agree_heard n ids f g (HookNew id callsite values) known a = record {
  statics = a.statics;
  dynamics = a.dynamics;
  spans = λ s below. put_same f.spans g.spans id (new_match_state f.dynamics.directives callsite values.pairs) (new_match_state g.dynamics.directives callsite values.pairs) s
      (λ e. ap (λ (t : DirectiveTable Directive). new_match_state t.directives callsite values.pairs) a.dynamics) (λ other. a.spans s (omega (arith, below, known, other)));
  lanes = a.lanes;
}
agree_heard n ids f g (HookRecord id callsite values) known a = record {
  statics = a.statics;
  dynamics = a.dynamics;
  spans = λ s below. put_same f.spans g.spans id (option_map (with_values values.pairs) (f.spans id)) (option_map (with_values values.pairs) (g.spans id)) s
      (λ e. ap (option_map (with_values values.pairs)) (a.spans id (omega (arith, e, below)))) (λ other. a.spans s below);
  lanes = a.lanes;
}
agree_heard n ids f g (HookEnter id lane) known a = record {
  statics = a.statics;
  dynamics = a.dynamics;
  spans = a.spans;
  lanes = lanes_put ids f.lanes g.lanes lane (with_open_level (option_map level_of_match (f.spans id)) id) a.lanes
      ∙ ap (λ (o : Option MatchState). map (put g.lanes lane (with_open_level (option_map level_of_match o) id (g.lanes lane))) ids) (a.spans id known);
}
agree_heard n ids f g (HookExit id lane) known a = record {
  statics = a.statics;
  dynamics = a.dynamics;
  spans = a.spans;
  lanes = lanes_put ids f.lanes g.lanes lane (without_open_level (is_some (f.spans id)) id) a.lanes
      ∙ ap (λ (o : Option MatchState). map (put g.lanes lane (without_open_level (is_some o) id (g.lanes lane))) ids) (a.spans id known);
}
agree_heard n ids f g (HookClose id) known a = record {
  statics = a.statics;
  dynamics = a.dynamics;
  spans = λ s below. put_same f.spans g.spans id None None s (λ e. refl) (λ other. a.spans s below);
  lanes = a.lanes;
}

agree_all : (n m : ℕ) (ids : List ℕ) (f g : FilterState) (all : List FilterHook) → AreKnown n all m → Agree n ids f g → Agree m ids (fold after_filter_hook f all) (fold after_filter_hook g all)
agree_all n m ids f g [] known a = subst (λ (k : ℕ). Agree k ids f g) known a
agree_all n m ids f g (heard ∷ all) known a = agree_all (count_heard n heard) m ids (after_filter_hook f heard) (after_filter_hook g heard) all known.1 (agree_heard n ids f g heard known.0 a)

-- on the lanes that are seen
lane_agrees : (f g : ℕ → List OpenLevel) (ids : List ℕ) (place : ℕ) → map f ids ≡ map g ids → place < length ids → f (id_at ids place) ≡ g (id_at ids place)
lane_agrees f g [] place same within = absurd (omega (arith, within))
lane_agrees f g (i ∷ ids) zero same within = cc same
lane_agrees f g (i ∷ ids) (suc place) same within = lane_agrees f g ids place (let tail : map f ids ≡ map g ids = cc same in tail) (omega (arith, within))

-- filters that are seen alike admit the same there
pub admits_alike : (n : ℕ) (ids : List ℕ) (f g : FilterState) (place : ℕ) (c : Callsite) → Agree n ids f g → place < length ids → is_admitted f (id_at ids place) c ≡ is_admitted g (id_at ids place) c
admits_alike n ids f g place c a within = rw (a.statics, a.dynamics, lane_agrees f.lanes g.lanes ids place a.lanes within) refl

-- and take the same
pub enables_alike : (n : ℕ) (ids : List ℕ) (f g : FilterState) (place : ℕ) (c : Callsite) → Agree n ids f g → place < length ids → enables_in f (id_at ids place) c ≡ enables_in g (id_at ids place) c
enables_alike n ids f g place c a within = rw (a.statics, a.dynamics, lane_agrees f.lanes g.lanes ids place a.lanes within) refl

-- ---- one effect more

-- what an effect leaves that puts no filter in force: what is heard is told to the filter, and the cache stays
pub record Hears (k : PipelineState) (t : Tables) (e : Effect) (next : PipelineState) : Type 0 where
  pub quiet : e.filter ≡ None
  pub before : Option FilterState
  pub later : Option FilterState
  pub shown_before : k.filter ≡ option_map (shown_of (length k.spans.made) k.setup.ids) before
  pub shown_later : next.filter ≡ option_map (shown_of (length next.spans.made) next.setup.ids) later
  pub told : later ≡ option_map (λ f. fold after_filter_hook f e.hooks) before
  pub known : AreKnown (length t.spans) e.hooks (length (with_item t.spans e.new_span))
  pub cached : next.cached ≡ k.cached
  pub aside : AddsTo k next e.measures

heard_at : (setup : Setup) (t : Tables) (e : Effect) → e.filter ≡ None → filter_in_force setup (after_effect t e) ≡ fold after_filter_hook (filter_in_force setup t) e.hooks
heard_at setup t e quiet =
    ap (λ (o : Option (List ℕ)). filter_in_force setup (record (after_effect t e) { filter = newer_text t.filter o; hooks = hooks_since t.hooks o ++ e.hooks })) quiet
    ∙ heard_both (text_filter (text_in_force setup t)) t.hooks e.hooks

-- what is seen of the filter in place is seen of the one in force
pub record InPlace (n : ℕ) (ids : List ℕ) (place : Option FilterState) (force : FilterState) : Type 0 where
  pub filter : FilterState
  pub is : place ≡ Some filter
  pub agree : Agree n ids filter force

pub in_place_by : (n : ℕ) (ids : List ℕ) (place : Option FilterState) (force : FilterState) → option_map (shown_of n ids) place ≡ Some (shown_of n ids force) → InPlace n ids place force
in_place_by n ids None force same = absurd (cc same)
in_place_by n ids (Some f) force same = record { filter = f; is = refl; agree = agree_by n ids f force (let shown : shown_of n ids f ≡ shown_of n ids force = cc same in shown) }

pub filtering_step : (k next : PipelineState) (t : Tables) (e : Effect) → length k.spans.made ≡ length t.spans → length next.spans.made ≡ length (after_effect t e).spans → FilteringFits k t → next.setup ≡ k.setup → Hears k t e next → FilteringFits next (after_effect t e)
filtering_step k next t e count count_later fits setup h =
    let ids = k.setup.ids in
    let n = length t.spans in
    let m = length (with_item t.spans e.new_span) in
    let place = in_place_by n ids h.before (filter_in_force k.setup t) (ap (λ (i : ℕ). option_map (shown_of i ids) h.before) (sym count) ∙ sym h.shown_before ∙ fits.in_place) in
    let now : filter_in_force next.setup (after_effect t e) ≡ fold after_filter_hook (filter_in_force k.setup t) e.hooks = ap (λ (x : Setup). filter_in_force x (after_effect t e)) setup ∙ heard_at k.setup t e h.quiet in
    let ids_are : next.setup.ids ≡ ids = ap (λ (x : Setup). x.ids) setup in
    let alike = shown_same m ids (fold after_filter_hook place.filter e.hooks) (fold after_filter_hook (filter_in_force k.setup t) e.hooks) (agree_all n m ids place.filter (filter_in_force k.setup t) e.hooks h.known place.agree) in
    record {
      in_place = h.shown_later ∙ ap (λ (o : Option FilterState). option_map (shown_of (length next.spans.made) next.setup.ids) o) (h.told ∙ ap (option_map (λ (f : FilterState). fold after_filter_hook f e.hooks)) place.is)
          ∙ ap (λ (i : ℕ). Some (shown_of i next.setup.ids (fold after_filter_hook place.filter e.hooks))) count_later
          ∙ ap (λ (xs : List ℕ). Some (shown_of m xs (fold after_filter_hook place.filter e.hooks))) ids_are
          ∙ ap Some alike
          ∙ ap (λ (f : FilterState). Some (shown_of m ids f)) (sym now) ∙ ap (λ (xs : List ℕ). Some (shown_of m xs (filter_in_force next.setup (after_effect t e)))) (sym ids_are);
      fresh = h.cached ∙ fits.fresh ∙ sym (rows_heard (filter_in_force k.setup t) e.hooks k.setup.sites)
          ∙ ap (λ (f : FilterState). rows_of f k.setup.sites) (sym now) ∙ ap (λ (x : Setup). rows_of (filter_in_force next.setup (after_effect t e)) x.sites) (sym setup);
      counting_filter = h.aside.shown_later ∙ ap (λ (xs : List ℕ). option_map (shown_of 0 xs) h.aside.later.0) ids_are ∙ ap (option_map (shown_of 0 ids)) h.aside.adds.counting_filter ∙ sym h.aside.shown_before
          ∙ fits.counting_filter ∙ ap (λ (x : Setup). counting_filter_by x) (sym setup);
      new = subst (λ (x : Setup). IfSome (option_map text_filter x.counting) IsNewFilter) (sym setup) fits.new;
    }

-- the same where nothing is heard
pub heard_none : (o : Option FilterState) → o ≡ option_map (λ (f : FilterState). fold after_filter_hook f []) o
heard_none None = refl
heard_none (Some f) = refl

-- ---- the cache of a world with one subscriber

module _ {S : Type 0} (views : Views S) (interest : S → Callsite → Interest) (shown : (s : S) (f : FilterState) (c : Callsite) → views.filter s ≡ Some f → interest s c ≡ interest_in f c) where
  rows_asked : (s : S) (f : FilterState) → views.filter s ≡ Some f → (sites : List Callsite) → interests_of_sites interest (s ∷ []) sites ≡ rows_of f sites
  rows_asked s f is [] = refl
  rows_asked s f is (c ∷ sites) = ap (λ (i : Interest). (i ∷ []) ∷ interests_of_sites interest (s ∷ []) sites) (shown s f c is) ∙ ap (λ (rows : List (List Interest)). (interest_in f c ∷ []) ∷ rows) (rows_asked s f is sites)

  registered_rows : (ss : List S) (dispatch : ℕ) (f : FilterState) → length ss ≡ 1 → dispatch < length ss → option_map_or views.filter (slice_get ss dispatch) None ≡ Some f → (sites : List Callsite) → interests_of_sites interest ss sites ≡ rows_of f sites
  registered_rows [] dispatch f one there is sites = absurd (omega (arith, one))
  registered_rows (s ∷ []) zero f one there is sites = rows_asked s f is sites
  registered_rows (s ∷ []) (suc dispatch) f one there is sites = absurd (omega (arith, there))
  registered_rows (s ∷ r ∷ ss) dispatch f one there is sites = absurd (omega (arith, one))

  pub cached_rows : (world : WorldValue S) (dispatch : ℕ) (f : FilterState) → length world.subscribers ≡ 1 → dispatch < length world.subscribers → read_subscriber views.filter None world dispatch ≡ Some f → IsFresh interest world → world.cached ≡ rows_of f world.sites
  cached_rows world dispatch f one there is fresh = fresh ∙ registered_rows world.subscribers dispatch f one there is world.sites

  pub rows_fresh : (world : WorldValue S) (dispatch : ℕ) (f : FilterState) → length world.subscribers ≡ 1 → dispatch < length world.subscribers → read_subscriber views.filter None world dispatch ≡ Some f → world.cached ≡ rows_of f world.sites → IsFresh interest world
  rows_fresh world dispatch f one there is rows = rows ∙ sym (registered_rows world.subscribers dispatch f one there is world.sites)

-- a stack is interested in what its filter is
always_above : (i : Interest) → joint_interest i interests.Always ≡ i
always_above interests.Never = refl
always_above interests.Sometimes = refl
always_above interests.Always = refl

pub stack_shows : (s : SubscriberStack) (f : FilterState) (c : Callsite) → filter_in_place s ≡ Some f → stack_interest s c ≡ interest_in f c
stack_shows s f c is = by_layer s.layer.inner is
  where
    by_layer : (o : Option FilterWithRoom) → option_map plain_filter o ≡ Some f → joint_interest (layer_or sometimes (λ (g : FilterWithRoom). interest_in (plain_filter g)) o c) interests.Always ≡ interest_in f c
    by_layer None e = absurd (cc e)
    by_layer (Some g) e = always_above (interest_in (plain_filter g) c) ∙ ap (λ (x : FilterState). interest_in x c) (let same : plain_filter g ≡ f = cc e in same)
