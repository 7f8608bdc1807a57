-- A layer over a subscriber is told hooks in which each span is made once and first.
use Rattle.std.proofs.Common.{◌≡◌, ℕ, ◌+◌, ◌<◌, ◌≤◌, List, [], ◌∷◌, ◌++◌, length, append_assoc, Bool, true, false, Option, Some, None, refl, sym, ap, subst, ◌∙◌, arith, inl, inr, ◌==◌, ◌||◌, if◌then◌else◌, is_some, fold}
use Rattle.std.specs.Option.{unwrap_or, option_map}
use Rattle.env_filter.proofs.Common.{cases_eq, cond-false, length_push, Callsite, Value, Spans, Span, span_at, entries_on, is_in, times_in, current_of, parent_on, with_hold, without_hold, span_without_hold, with_hold_of_child, CallKeepsLanes, Hook, OnNewSpan, OnRecord, OnFollows, OnEvent, OnEnter, OnExit, OnClose, DoesBoth, Directive, FilterState, FilterWithRoom, plain_filter, Each, fresh_filter, after_hook, DoesFilter, BothOrNeither, callsite_if_made, values_given_by, is_close_of, callsite_by_calls, all_values_given, is_ended, HasNoCalls, MayComeNext, AreInOrder, level_by_calls, levels_by_calls}
use Rattle.std.proofs.lemmas.Bool.{ne_eqb}
use Rattle.std.proofs.lemmas.List.{length-set, append-nil}
use Rattle.std.proofs.lemmas.List.Sums.{fold-append}
use Rattle.trace_base.specs.Calls.{SubscriberCall, NewSpan, Records, Follows, Event, Enter, Exit, CloneSpan, TryClose, spans_after_call}
use Rattle.trace_base.specs.Conditions.{Allowed}
use Rattle.trace_base.proofs.EntryLemmas.{made_if_held, length_held}
use Rattle.span_registry.specs.Layering.{both_allowed, both_shows}
use Rattle.span_registry.specs.Hearing.{ObservesCall, both_told}
use Rattle.span_registry.specs.History.{CallsLead}
use Rattle.env_filter.specs.Stacked.{Appends, AreHooksOf, ObservesCalls}
use Rattle.env_filter.proofs.kept.ToldLevelsLemmas.{level_is_by_calls, levels_are_told}

-- the span that a hook makes, records on or closes was made before
abbrev pub IsBefore : ℕ → Hook → Type 0
IsBefore n (OnNewSpan id lane at parent current callsite values) = id < n
IsBefore n (OnRecord id at callsite values) = id < n
IsBefore n (OnFollows id from at) = Unit {0}
IsBefore n (OnEvent reached lane at callsite values) = Unit {0}
IsBefore n (OnEnter id at before later) = Unit {0}
IsBefore n (OnExit id at before later) = Unit {0}
IsBefore n (OnClose id at) = id < n

before_more : (n m : ℕ) → n ≤ m → (h : Hook) → IsBefore n h → IsBefore m h
before_more n m up (OnNewSpan id lane at parent current callsite values) is = omega (arith, up, is)
before_more n m up (OnRecord id at callsite values) is = omega (arith, up, is)
before_more n m up (OnFollows id from at) is = tt
before_more n m up (OnEvent reached lane at callsite values) is = tt
before_more n m up (OnEnter id at before later) is = tt
before_more n m up (OnExit id at before later) is = tt
before_more n m up (OnClose id at) is = omega (arith, up, is)

pub all_more : (n m : ℕ) → n ≤ m → (hs : List Hook) → Each (IsBefore n) hs → Each (IsBefore m) hs
all_more n m up [] all = tt
all_more n m up (h ∷ hs) all = (before_more n m up h all.0, all_more n m up hs all.1)

pub all_push : (n : ℕ) (hs : List Hook) (h : Hook) → Each (IsBefore n) hs → IsBefore n h → Each (IsBefore n) (hs ++ h ∷ [])
all_push n [] h all one = (one, tt)
all_push n (g ∷ hs) h all one = (all.0, all_push n hs h all.1 one)

-- hooks of spans that were made before are of no new span
not_eq : {X : Type 0} (id q : ℕ) (x y : X) → id < q → (if id == q then x else y) ≡ y
not_eq {X} id q x y less = cond-false {A = X} (id == q) x y (ne_eqb id q (λ e. absurd (omega (arith, e, less))))

not_of : (q : ℕ) (h : Hook) → IsBefore q h → (callsite_if_made q h ≡ None) × (values_given_by q h ≡ []) × (is_close_of q h ≡ false)
not_of q (OnNewSpan id lane at parent current c values) is = (not_eq id q (Some c) None is, not_eq id q values.pairs [] is, refl)
not_of q (OnRecord id at c values) is = (refl, not_eq id q values.pairs [] is, refl)
not_of q (OnFollows id from at) is = (refl, refl, refl)
not_of q (OnEvent reached lane at callsite values) is = (refl, refl, refl)
not_of q (OnEnter id at before later) is = (refl, refl, refl)
not_of q (OnExit id at before later) is = (refl, refl, refl)
not_of q (OnClose id at) is = (refl, refl, ne_eqb id q (λ e. absurd (omega (arith, e, is))))

pub new_if : (q : ℕ) (past : List Hook) → Each (IsBefore q) past → HasNoCalls q past
new_if q [] all = record { unmade = refl; nothing = refl; not_ended = refl }
new_if q (h ∷ past) all =
    let no = not_of q h all.0 in
    let rest = new_if q past all.1 in
    record {
      unmade = ap (λ (o : Option Callsite). if is_some o then o else callsite_by_calls q past) no.0 ∙ rest.unmade;
      nothing = ap (λ (vs : List (ℕ × Value)). vs ++ all_values_given q past) no.1 ∙ rest.nothing;
      not_ended = ap (λ (b : Bool). b || is_ended q past) no.2 ∙ rest.not_ended;
    }

-- what a call tells, and what it makes of something that hears hooks one by one
abbrev pub Steps : {A : Type 0} → (A → Hook → A) → A → Hook → A → Type 0
Steps step a hook b = b ≡ step a hook

record ToldOne {A : Type 0} (step : A → Hook → A) (spans : Spans) (call : SubscriberCall) (a b : A) (past : List Hook) : Type 0 where
  pub first : List Hook
  pub told : ObservesCall Appends spans [] call first
  pub order : AreInOrder past first
  pub below : Each (IsBefore (length (spans_after_call spans call).made)) (past ++ first)
  pub value : b ≡ fold step a first

if_length : (b : Bool) (xs ys : List Span) (n : ℕ) → length xs ≡ n → length ys ≡ n → length (if b then xs else ys) ≡ n
if_length true xs ys n e f = e
if_length false xs ys n e f = f

grows : (spans : Spans) (call : SubscriberCall) → length spans.made ≤ length (spans_after_call spans call).made
grows spans (NewSpan lane at parent site callsite values) =
    let above = parent_on (entries_on lane.id spans.lanes) parent in
    let new : Span = record { holds = 1; parent = above; site = site } in
    omega (arith, length_held spans.made above, length_push (with_hold_of_child spans.made above) new)
grows spans (Records id at callsite values) = omega arith
grows spans (Follows id from at) = omega arith
grows spans (Event lane at parent site callsite values) = omega arith
grows spans (Enter id at before later) =
    let e = if_length (is_in id (entries_on before.id spans.lanes)) spans.made (with_hold spans.made id) (length spans.made) refl (length-set spans.made id _) in omega (arith, e)
grows spans (Exit id at before later) =
    let e = if_length (times_in id (entries_on before.id spans.lanes) == 1) (without_hold spans.made id) spans.made (length spans.made) (length-set spans.made id _) refl in omega (arith, e)
grows spans (CloneSpan id) = let e = length-set spans.made id (record (span_at spans.made id) { holds = (span_at spans.made id).holds + 1 }) in omega (arith, e)
grows spans (TryClose id at) = let e = length-set spans.made id (span_without_hold (span_at spans.made id)) in omega (arith, e)

module _ {A : Type 0} (step : A → Hook → A) where
  with_hook : (spans : Spans) (call : SubscriberCall) (h : Hook) (a b : A) (past : List Hook) → ObservesCall Appends spans [] call (h ∷ []) → MayComeNext past h → IsBefore (length (spans_after_call spans call).made) h
      → b ≡ step a h → Each (IsBefore (length spans.made)) past → ToldOne step spans call a b past
  with_hook spans call h a b past told next before value below = record {
    first = h ∷ [];
    told = told;
    order = (next, tt);
    below = all_push (length (spans_after_call spans call).made) past h (all_more (length spans.made) (length (spans_after_call spans call).made) (grows spans call) past below) before;
    value = value;
  }

  without_hook : (spans : Spans) (call : SubscriberCall) (a b : A) (past : List Hook) → ObservesCall Appends spans [] call [] → b ≡ a → Each (IsBefore (length spans.made)) past → ToldOne step spans call a b past
  without_hook spans call a b past told value below = record {
    first = [];
    told = told;
    order = tt;
    below = subst (Each (IsBefore (length (spans_after_call spans call).made))) (sym (append-nil past)) (all_more (length spans.made) (length (spans_after_call spans call).made) (grows spans call) past below);
    value = value;
  }

  told_one : (spans : Spans) (call : SubscriberCall) (a b : A) (past : List Hook) → ObservesCall (Steps step) spans a call b → Allowed spans call → Each (IsBefore (length spans.made)) past → ToldOne step spans call a b past
  told_one spans (NewSpan lane at parent site callsite values) a b past hears allowed below =
      let above = parent_on (entries_on lane.id spans.lanes) parent in
      let new : Span = record { holds = 1; parent = above; site = site } in
      let longer = length_push (with_hold_of_child spans.made above) new in
      let count = length_held spans.made above in
      with_hook spans (NewSpan lane at parent site callsite values) (OnNewSpan (length spans.made) lane at parent (current_of (entries_on lane.id spans.lanes)) callsite values) a b past refl (new_if (length spans.made) past below)
      (omega (arith, longer, count)) hears below
  told_one spans (Records id at callsite values) a b past hears allowed below =
      with_hook spans (Records id at callsite values) (OnRecord id at callsite values) a b past refl tt (made_if_held spans.made id allowed) hears below
  told_one spans (Follows id from at) a b past hears allowed below = with_hook spans (Follows id from at) (OnFollows id from at) a b past refl tt tt hears below
  told_one spans (Event lane at parent site callsite values) a b past hears allowed below =
      with_hook spans (Event lane at parent site callsite values) (OnEvent (parent_on (entries_on lane.id spans.lanes) parent) lane at callsite values) a b past refl tt tt hears below
  told_one spans (Enter id at before later) a b past hears allowed below =
      with_hook spans (Enter id at before later) (OnEnter id at hears.before hears.later) a b past (record { before = hears.before; later = hears.later; id = hears.id; heard = refl }) tt tt hears.heard below
  told_one spans (Exit id at before later) a b past hears allowed below =
      with_hook spans (Exit id at before later) (OnExit id at hears.before hears.later) a b past (record { before = hears.before; later = hears.later; id = hears.id; heard = refl }) tt tt hears.heard below
  told_one spans (CloneSpan id) a b past hears allowed below = without_hook spans (CloneSpan id) a b past refl hears below
  told_one spans (TryClose id at) a b past hears allowed below = elim (cases_eq (span_at spans.made id).holds 1) [
    | inl one ↦ (
        let within = made_if_held spans.made id (omega (arith, one)) in
        let longer = grows spans (TryClose id at) in
        with_hook spans (TryClose id at) (OnClose id at) a b past (record { closed = λ _. refl; open_still = λ more. absurd (more one) }) tt (omega (arith, within, longer)) (hears.closed one) below)
    | inr more ↦ without_hook spans (TryClose id at) a b past (record { closed = λ one. absurd (more one); open_still = λ _. refl }) (hears.open_still more) below
  ]

pub in_order : (past first later : List Hook) → AreInOrder past first → AreInOrder (past ++ first) later → AreInOrder past (first ++ later)
in_order past [] later f l = subst (λ (hs : List Hook). AreInOrder hs later) (append-nil past) l
in_order past (h ∷ first) later f l = (f.0, in_order (past ++ h ∷ []) first later f.1 (subst (λ (hs : List Hook). AreInOrder hs later) (sym (append_assoc past (h ∷ []) first)) l))

pub record ToldAll {A : Type 0} (step : A → Hook → A) (spans : Spans) (calls : List SubscriberCall) (a b : A) (past : List Hook) : Type 0 where
  pub hooks : List Hook
  pub of_calls : AreHooksOf spans calls hooks
  pub order : AreInOrder past hooks
  pub value : b ≡ fold step a hooks

module _ {S A : Type 0} (spans : S → Spans) (does : S → SubscriberCall → S → Type 0) (same : S → S → Type 0) (step : A → Hook → A) (value : S → A) (alike : (s t : S) → same s t → value t ≡ value s)
    (allowed : (s : S) (call : SubscriberCall) (t : S) → does s call t → Allowed (spans s) call) (shows : (s : S) (call : SubscriberCall) (t : S) → does s call t → spans t ≡ spans_after_call (spans s) call)
    (hears : (s : S) (call : SubscriberCall) (t : S) → does s call t → ObservesCall (Steps step) (spans s) (value s) call (value t)) where
  told_from : (calls : List SubscriberCall) (s t : S) (past : List Hook) → Each (IsBefore (length (spans s).made)) past → CallsLead does same s calls t → ToldAll step (spans s) calls (value s) (value t) past
  told_from [] s t past below runs = record { hooks = []; of_calls = refl; order = tt; value = alike s t runs }
  told_from (call ∷ calls) s t past below runs =
      let m = runs.0 in
      let d = runs.1 in
      let one = told_one step (spans s) call (value s) (value m) past (hears s call m d) (allowed s call m d) below in
      let here = subst (λ (x : Spans). Each (IsBefore (length x.made)) (past ++ one.first)) (sym (shows s call m d)) one.below in
      let rest = told_from calls m t (past ++ one.first) here runs.2 in
      record {
        hooks = one.first ++ rest.hooks;
        of_calls = record { first = one.first; later = rest.hooks; told = one.told; behind = subst (λ (x : Spans). AreHooksOf x calls rest.hooks) (shows s call m d) rest.of_calls; all = refl };
        order = in_order past one.first rest.hooks one.order rest.order;
        value = rest.value ∙ ap (λ (x : A). fold step x rest.hooks) one.value ∙ sym (fold-append step (value s) one.first rest.hooks);
      }

  pub told_all : (s : S) (calls : List SubscriberCall) (t : S) → CallsLead does same s calls t → ToldAll step (spans s) calls (value s) (value t) []
  told_all s calls t runs = told_from calls s t [] tt runs

-- a layer hears at each call the hook of that call
pub over_hears : {S L A : Type 0} (spans : S → Spans) (inner : S → SubscriberCall → S → Type 0) (outer : L → Hook → L → Type 0) (same : L → L → Type 0) (attaches : L → Bool) (step : A → Hook → A) (value : L → A)
    → ((l : L) (h : Hook) (m : L) → outer l h m → value m ≡ step (value l) h) → ((l m : L) → same l m → value m ≡ value l)
    → (s t : S) (l m : L) (call : SubscriberCall) (sa : Bool) (sk tk : ℕ → ℕ → ℕ) → ((c : SubscriberCall) → inner s c t → CallKeepsLanes sa sk c tk)
    → DoesBoth spans inner outer same attaches s l call t m → ObservesCall (Steps step) (spans s) (value l) call (value m)
over_hears {S} {L} {A} spans inner outer same attaches step value heard alike s t l m call sa sk tk lanes d =
    let told = both_told (Steps step) spans inner outer same attaches s t l m call sa sk tk (Some (value l)) (Some (value m)) None None lanes (λ h o. (value m, refl, heard l h m o)) (λ e. ap (λ (a : A). Some a) (alike l m e)) (λ c o. refl) d in
    subst (λ (b : A). ObservesCall (Steps step) (spans s) (value l) call b) (sym (ap (λ (o : Option A). unwrap_or o (value m)) told.1)) told.2

-- the tables stay, so what is told of a filter that had no span is told of what it began with
fresh_after : (f : FilterState) (h : Hook) → fresh_filter (after_hook f h) ≡ fresh_filter f
fresh_after f (OnNewSpan id lane at parent current callsite values) = refl
fresh_after f (OnRecord id at callsite values) = refl
fresh_after f (OnFollows id from at) = refl
fresh_after f (OnEvent reached lane at callsite values) = refl
fresh_after f (OnEnter id at before later) = refl
fresh_after f (OnExit id at before later) = refl
fresh_after f (OnClose id at) = refl

fresh_fold : (hooks : List Hook) (f : FilterState) → fresh_filter (fold after_hook f hooks) ≡ fresh_filter f
fresh_fold [] f = refl
fresh_fold (h ∷ hooks) f = fresh_fold hooks (after_hook f h) ∙ fresh_after f h

pub heard : (spans : Spans) (calls : List SubscriberCall) (f g : FilterState) (hooks : List Hook) → f ≡ fresh_filter f → AreHooksOf spans calls hooks → AreInOrder [] hooks → g ≡ fold after_hook f hooks → ObservesCalls spans calls f g
heard spans calls f g hooks alone of_calls order now =
    let began : fresh_filter g ≡ f = ap fresh_filter now ∙ fresh_fold hooks f ∙ sym alone in
    let again : g ≡ fold after_hook (fresh_filter g) hooks = now ∙ ap (λ (x : FilterState). fold after_hook x hooks) (sym began) in
    let tables = ap (λ (x : FilterState). x.dynamics.directives) began in
    record {
      hooks = hooks;
      of_calls = of_calls;
      order = order;
      now = now;
      level = λ id. level_is_by_calls g hooks id order again ∙ ap (λ (ds : List Directive). level_by_calls ds id hooks) tables;
      levels = λ lane. levels_are_told g hooks lane order again ∙ ap (λ (ds : List Directive). levels_by_calls ds lane hooks) tables;
    }

-- any layer over any subscriber
pub over_all_calls : {P S L A : Type 0} (top : P → L) (below : P → S) (spans : S → Spans) (inner : S → SubscriberCall → S → Type 0) (inner_same : S → S → Type 0) (outer : L → Hook → L → Type 0) (same : L → L → Type 0) (attaches : L → Bool)
    (inner_attaches : S → Bool) (inner_kept : S → ℕ → ℕ → ℕ) (step : A → Hook → A) (value : L → A) → ((l : L) (h : Hook) (m : L) → outer l h m → value m ≡ step (value l) h) → ((l m : L) → same l m → value m ≡ value l)
    → ((s : S) (c : SubscriberCall) (t : S) → inner s c t → Allowed (spans s) c) → ((s : S) (c : SubscriberCall) (t : S) → inner s c t → spans t ≡ spans_after_call (spans s) c)
    → ((s : S) (c : SubscriberCall) (t : S) → inner s c t → CallKeepsLanes (inner_attaches s) (inner_kept s) c (inner_kept t))
    → (p : P) (calls : List SubscriberCall) (q : P)
    → CallsLead (λ (p : P) (c : SubscriberCall) (q : P). DoesBoth spans inner outer same attaches (below p) (top p) c (below q) (top q)) (λ (p q : P). inner_same (below p) (below q) × same (top p) (top q)) p calls q
    → ToldAll step (spans (below p)) calls (value (top p)) (value (top q)) []
over_all_calls {P} {S} {L} {A} top below spans inner inner_same outer same attaches inner_attaches inner_kept step value hears alike allowed shows lanes p calls q runs =
    told_all (λ (p : P). spans (below p)) (λ (p : P) (c : SubscriberCall) (q : P). DoesBoth spans inner outer same attaches (below p) (top p) c (below q) (top q)) (λ (p q : P). inner_same (below p) (below q) × same (top p) (top q))
    step (λ (p : P). value (top p)) (λ p q h. alike (top p) (top q) h.1)
    (λ p c q d. both_allowed spans inner outer same attaches (below p) (below q) (top p) (top q) c (λ k. allowed (below p) k (below q)) d)
    (λ p c q d. both_shows spans inner outer same attaches (below p) (below q) (top p) (top q) c (λ k. shows (below p) k (below q)) d)
    (λ p c q d. over_hears spans inner outer same attaches step value hears alike (below p) (below q) (top p) (top q) c (inner_attaches (below p)) (inner_kept (below p)) (inner_kept (below q)) (λ k. lanes (below p) k (below q)) d)
    p calls q runs

-- what is in place
abbrev pub step_in_place : Option FilterState → Hook → Option FilterState
step_in_place o h = option_map (λ (f : FilterState). after_hook f h) o

pub does_in_place : (N : Type 0) (h : Hook) (o p : Option FilterWithRoom) → BothOrNeither (λ l m. DoesFilter l h m) N o p → option_map plain_filter p ≡ step_in_place (option_map plain_filter o) h
does_in_place N h None None d = refl
does_in_place N h None (Some m) d = absurd d
does_in_place N h (Some l) None d = absurd d
does_in_place N h (Some l) (Some m) d = ap (λ (f : FilterState). Some f) d.now

pub same_in_place : (N : Type 0) (o p : Option FilterWithRoom) → BothOrNeither (λ (l m : FilterWithRoom). plain_filter m ≡ plain_filter l) N o p → option_map plain_filter p ≡ option_map plain_filter o
same_in_place N None None d = refl
same_in_place N None (Some m) d = absurd d
same_in_place N (Some l) None d = absurd d
same_in_place N (Some l) (Some m) d = ap (λ (f : FilterState). Some f) d

pub fold_in_place : (hooks : List Hook) (f : FilterState) → fold step_in_place (Some f) hooks ≡ Some (fold after_hook f hooks)
fold_in_place [] f = refl
fold_in_place (h ∷ hooks) f = fold_in_place hooks (after_hook f h)
