-- What was heard of spans since the filter in force was put there is in order, so the levels are those that it tells.
use Rattle.span_laws.proofs.Common.{AreInOrder, Bool, Directive, Each, Effect, Err, FilterHook, FilterState, History, Hook, HookClose, HookEnter, HookExit, HookNew, HookRecord, IsBefore, IsHistory, List, MadeSpan, NeverFalls, None, Ok, Option, Scope, Setup, Some, Tables, TextRead, [], after_effect, after_filter_hook, after_hook, all_more, all_push, ap, append_assoc, arith, cases_eq, false, filter_in_force, filter_of_read, flat_map, fold, fold-append, fold_push, fresh_filter, hook_of, hooks_since, in_order, inl, inr, is_close_of, is_ended, is_in, is_open, is_some, length, length_push, level_by_calls, levels_by_calls, map, map-append, more, new_if, newer_text, no_tables, none, or_right, refl, span_level, subst, sym, tables, text_filter, text_in_force, text_read, true, unwrap_or, with_item, ℕ, ◌++◌, ◌<◌, ◌==◌, ◌||◌, ◌∙◌, ◌∷◌, ◌≡◌, ◌≤◌}
use Rattle.std.proofs.lemmas.Bool.{ne_eqb, true≢false}
use Rattle.std.proofs.lemmas.List.{append-nil}
use Rattle.std.proofs.lemmas.List.Folds.{list_any-append}
use Rattle.trace_base.specs.declared.level.LevelFilter.{LevelFilter}
use Rattle.env_filter.proofs.kept.RisingLevelsLemmas.{level_rises, level_stays}
use Rattle.env_filter.proofs.kept.ToldLevelsLemmas.{level_is_by_calls, levels_are_told}
use Rattle.span_laws.specs.Levels.{level_in, directives_in, hooks_in, HasNoReload}
use Rattle.span_laws.proofs.levels.HooksLemmas.{Hears, of_making, of_open, IsEndIn, heard_in_order, heard_before, heard_closed}
use Rattle.span_laws.proofs.records.HistoriesLemmas.{fits, open_made, whole}
use Rattle.span_laws.proofs.steps.StepsLemmas.{step_of}

-- ---- in order

-- each span's making comes once and before all else of it; what is heard is of spans that were made, and what ends closed
pub record IsOrdered (made : ℕ) (closed : List ℕ) (heard : List FilterHook) : Type 0 where
  pub order : AreInOrder [] (map hook_of heard)
  pub below : Each (IsBefore made) (map hook_of heard)
  pub ended : Each (IsEndIn closed) heard

each_append : {X : Type 0} (P : X → Type 0) (xs ys : List X) → Each P xs → Each P ys → Each P (xs ++ ys)
each_append P [] ys one two = two
each_append P (x ∷ xs) ys one two = (one.0, each_append P xs ys one.1 two)

each_map : {X : Type 0} (P Q : X → Type 0) → ((x : X) → P x → Q x) → (xs : List X) → Each P xs → Each Q xs
each_map P Q f [] all = tt
each_map P Q f (x ∷ xs) all = (f x all.0, each_map P Q f xs all.1)

-- with more spans closed, before or behind
end_of_more : (closed closes : List ℕ) → ((s : ℕ) → is_in s closed ≡ true → is_in s closes ≡ true) → (heard : FilterHook) → IsEndIn closed heard → IsEndIn closes heard
end_of_more closed closes wider (HookClose s) is = wider s is
end_of_more closed closes wider (HookNew s callsite values) is = tt
end_of_more closed closes wider (HookRecord s callsite values) is = tt
end_of_more closed closes wider (HookEnter s lane) is = tt
end_of_more closed closes wider (HookExit s lane) is = tt

in_front : (s : ℕ) (closed closes : List ℕ) → is_in s closed ≡ true → is_in s (closed ++ closes) ≡ true
in_front s closed closes is = list_any-append (λ x. x == s) closed closes ∙ ap (λ (b : Bool). b || is_in s closes) is

in_back : (s : ℕ) (closed closes : List ℕ) → is_in s closes ≡ true → is_in s (closed ++ closes) ≡ true
in_back s closed closes is = list_any-append (λ x. x == s) closed closes ∙ or_right (is_in s closed) (is_in s closes) is

since : (n : ℕ) (closed : List ℕ) (heard : List FilterHook) (text : Option (List ℕ)) → IsOrdered n closed heard → IsOrdered n closed (hooks_since heard text)
since n closed heard None is = is
since n closed heard (Some text) is = record { order = tt; below = tt; ended = tt }

module _ (hs : List (Option Scope)) (ms : List MadeSpan) (closed closes : List ℕ) (past : List FilterHook) (made_before : (s : ℕ) → is_open hs s ≡ true → s < length ms) (is : IsOrdered (length ms) closed past) where
  as_many : (o : Option MadeSpan) → length ms ≤ length (with_item ms o)
  as_many None = omega arith
  as_many (Some m) = let longer = length_push ms m in omega (arith, longer)

  ended_past : Each (IsEndIn (closed ++ closes)) past
  ended_past = each_map (IsEndIn closed) (IsEndIn (closed ++ closes)) (end_of_more closed (closed ++ closes) (λ s. in_front s closed closes)) past is.ended

  -- by the hooks of the one and of the other
  both : (heard : List FilterHook) (n : ℕ) → AreInOrder [] (map hook_of past ++ map hook_of heard) → Each (IsBefore n) (map hook_of past ++ map hook_of heard) → Each (IsEndIn (closed ++ closes)) heard → IsOrdered n (closed ++ closes) (past ++ heard)
  both heard n order below ended = record {
    order = subst (AreInOrder []) (sym (map-append hook_of past heard)) order;
    below = subst (Each (IsBefore n)) (sym (map-append hook_of past heard)) below;
    ended = each_append (IsEndIn (closed ++ closes)) past heard ended_past ended;
  }

  with_heard : (o : Option MadeSpan) (heard : List FilterHook) → Hears hs (length ms) closes o heard → IsOrdered (length (with_item ms o)) (closed ++ closes) (past ++ heard)
  with_heard _ _ (of_making m callsite values) =
      let longer = length_push ms m in
      let hook = hook_of (HookNew (length ms) callsite values) in
      let hooks = map hook_of past in
      both (HookNew (length ms) callsite values ∷ []) (length (ms ++ m ∷ []))
      (in_order [] hooks (hook ∷ []) is.order (new_if (length ms) hooks is.below, tt))
      (all_push (length (ms ++ m ∷ [])) hooks hook (all_more (length ms) (length (ms ++ m ∷ [])) (omega (arith, longer)) hooks is.below) (omega (arith, longer)))
      (tt, tt)
  with_heard _ _ (of_open o heard all) =
      let hooks = map hook_of past in
      both heard (length (with_item ms o))
      (in_order [] hooks (map hook_of heard) is.order (heard_in_order hs closes hooks heard all))
      (all_more (length ms) (length (with_item ms o)) (as_many o) (hooks ++ map hook_of heard) (each_append (IsBefore (length ms)) hooks (map hook_of heard) is.below (heard_before hs closes (length ms) made_before heard all)))
      (each_map (IsEndIn closes) (IsEndIn (closed ++ closes)) (end_of_more closes (closed ++ closes) (λ s. in_back s closed closes)) heard (heard_closed hs closes heard all))

ordered : (setup : Setup) (h : History) → IsHistory setup h → IsOrdered (length (tables setup h).spans) (tables setup h).closed (tables setup h).hooks
ordered setup _ none = record { order = tt; below = tt; ended = tt }
ordered setup _ (more h request e before is) =
    let t = tables setup h in
    let now = whole setup h before in
    let step = step_of setup t (fits setup h now) request e is in
    subst (λ (u : Tables). IsOrdered (length u.spans) u.closed u.hooks) (sym (fold_push after_effect (no_tables setup) h e))
    (with_heard t.handles t.spans t.closed e.closes (hooks_since t.hooks e.filter) (open_made t.handles t.spans t.closed now.stands.sound)
    (since (length t.spans) t.closed t.hooks e.filter (ordered setup h before)) e.new_span e.hooks step.1.heard)

-- ---- what is heard changes no table

fresh_heard : (f : FilterState) (all : List FilterHook) → fresh_filter (fold after_filter_hook f all) ≡ fresh_filter f
fresh_heard f [] = refl
fresh_heard f (heard ∷ all) = fresh_heard (after_filter_hook f heard) all ∙ by_one heard
  where
    by_one : (heard : FilterHook) → fresh_filter (after_filter_hook f heard) ≡ fresh_filter f
    by_one (HookNew s callsite values) = refl
    by_one (HookRecord s callsite values) = refl
    by_one (HookEnter s lane) = refl
    by_one (HookExit s lane) = refl
    by_one (HookClose s) = refl

fresh_text : (r : TextRead) → fresh_filter (filter_of_read r) ≡ filter_of_read r
fresh_text (Ok ds) = refl
fresh_text (Err piece) = refl

-- by the hooks
heard_by : (f : FilterState) (all : List FilterHook) → fold after_filter_hook f all ≡ fold after_hook f (map hook_of all)
heard_by f [] = refl
heard_by f (heard ∷ all) = heard_by (after_filter_hook f heard) all

heard_fresh : (text : List ℕ) (all : List FilterHook) → fold after_filter_hook (text_filter text) all ≡ fold after_hook (fresh_filter (fold after_filter_hook (text_filter text) all)) (map hook_of all)
heard_fresh text all = heard_by (text_filter text) all
    ∙ ap (λ (f : FilterState). fold after_hook f (map hook_of all)) (sym (fresh_text (text_read text)) ∙ sym (fresh_heard (text_filter text) all))

same_directives : (f : FilterState) (all : List FilterHook) → (fold after_filter_hook f all).dynamics.directives ≡ f.dynamics.directives
same_directives f all = ap (λ (x : FilterState). x.dynamics.directives) (fresh_heard f all)

-- ---- levels

level_at : (setup : Setup) (t : Tables) (s : ℕ) → AreInOrder [] (map hook_of t.hooks) → span_level (filter_in_force setup t) s ≡ level_by_calls (text_filter (text_in_force setup t)).dynamics.directives s (map hook_of t.hooks)
level_at setup t s order = level_is_by_calls (filter_in_force setup t) (map hook_of t.hooks) s order (heard_fresh (text_in_force setup t) t.hooks)
    ∙ ap (λ (ds : List Directive). level_by_calls ds s (map hook_of t.hooks)) (same_directives (text_filter (text_in_force setup t)) t.hooks)

levels_at : (setup : Setup) (t : Tables) (lane : ℕ) → AreInOrder [] (map hook_of t.hooks) → (filter_in_force setup t).lanes lane ≡ levels_by_calls (text_filter (text_in_force setup t)).dynamics.directives lane (map hook_of t.hooks)
levels_at setup t lane order = levels_are_told (filter_in_force setup t) (map hook_of t.hooks) lane order (heard_fresh (text_in_force setup t) t.hooks)
    ∙ ap (λ (ds : List Directive). levels_by_calls ds lane (map hook_of t.hooks)) (same_directives (text_filter (text_in_force setup t)) t.hooks)

pub span_is : (setup : Setup) (h : History) (s : ℕ) → IsHistory setup h → level_in setup h s ≡ level_by_calls (directives_in setup h) s (hooks_in setup h)
span_is setup h s legal = level_at setup (tables setup h) s (ordered setup h legal).order

pub lane_is : (setup : Setup) (h : History) (lane : ℕ) → IsHistory setup h → (filter_in_force setup (tables setup h)).lanes lane ≡ levels_by_calls (directives_in setup h) lane (hooks_in setup h)
lane_is setup h lane legal = levels_at setup (tables setup h) lane (ordered setup h legal).order

-- ---- while a filter is in force

abbrev heard_in : History → List FilterHook
heard_in later = flat_map (λ (e : Effect). e.hooks) later

unchanged : (t : Tables) (later : History) → HasNoReload later → ((fold after_effect t later).filter ≡ t.filter) × ((fold after_effect t later).hooks ≡ t.hooks ++ heard_in later)
unchanged t [] kept = (refl, sym (append-nil t.hooks))
unchanged t (e ∷ later) kept =
    let rest = unchanged (after_effect t e) later kept.1 in (
      rest.0 ∙ ap (newer_text t.filter) kept.0,
      rest.1 ∙ ap (λ (o : Option (List ℕ)). (hooks_since t.hooks o ++ e.hooks) ++ heard_in later) kept.0 ∙ append_assoc t.hooks e.hooks (heard_in later),
    )

front_in_order : (past first later : List Hook) → AreInOrder past (first ++ later) → AreInOrder past first
front_in_order past [] later order = tt
front_in_order past (hook ∷ first) later order = (order.0, front_in_order (past ++ hook ∷ []) first later order.1)

-- what closed no span ended none
unended : (s : ℕ) (closed : List ℕ) (heard : FilterHook) → is_in s closed ≡ false → IsEndIn closed heard → is_close_of s (hook_of heard) ≡ false
unended s closed (HookClose id) shut is = elim (cases_eq id s) [
  | inl same ↦ absurd (true≢false (sym is ∙ ap (λ (n : ℕ). is_in n closed) same ∙ shut))
  | inr other ↦ ne_eqb id s other
]
unended s closed (HookNew id callsite values) shut is = refl
unended s closed (HookRecord id callsite values) shut is = refl
unended s closed (HookEnter id lane) shut is = refl
unended s closed (HookExit id lane) shut is = refl

none_ended : (s : ℕ) (closed : List ℕ) (all : List FilterHook) → is_in s closed ≡ false → Each (IsEndIn closed) all → is_ended s (map hook_of all) ≡ false
none_ended s closed [] shut is = refl
none_ended s closed (heard ∷ all) shut is = ap (λ (b : Bool). b || is_ended s (map hook_of all)) (unended s closed heard shut is.0) ∙ none_ended s closed all shut is.1

neither : (a b : Bool) → (a || b) ≡ false → b ≡ false
neither true b is = absurd (true≢false is)
neither false b is = is

module _ (setup : Setup) (h later : History) (legal : IsHistory setup (h ++ later)) (kept : HasNoReload later) where
  abbrev t : Tables
  t = tables setup h

  abbrev u : Tables
  u = tables setup (h ++ later)

  goes_on : u ≡ fold after_effect t later
  goes_on = fold-append after_effect (no_tables setup) h later

  abbrev past : List Hook
  past = map hook_of t.hooks

  abbrev since_then : List Hook
  since_then = map hook_of (heard_in later)

  all_hooks : map hook_of u.hooks ≡ past ++ since_then
  all_hooks = ap (λ (x : Tables). map hook_of x.hooks) goes_on ∙ ap (map hook_of) (unchanged t later kept).1 ∙ map-append hook_of t.hooks (heard_in later)

  level_before : (s : ℕ) → level_in setup h s ≡ level_by_calls (directives_in setup h) s past
  level_before s = level_at setup t s (front_in_order [] past since_then (subst (AreInOrder []) all_hooks (ordered setup (h ++ later) legal).order))

  level_later : (s : ℕ) → level_in setup (h ++ later) s ≡ level_by_calls (directives_in setup h) s (past ++ since_then)
  level_later s =
      span_is setup (h ++ later) s legal
      ∙ ap (λ (o : Option (List ℕ)). level_by_calls (text_filter (unwrap_or o setup.filter)).dynamics.directives s (map hook_of u.hooks)) (ap (λ (x : Tables). x.filter) goes_on ∙ (unchanged t later kept).0)
      ∙ ap (level_by_calls (directives_in setup h) s) all_hooks

  never_falls : (s : ℕ) → NeverFalls (level_in setup h s) (level_in setup (h ++ later) s)
  never_falls s l m is now = level_rises (directives_in setup h) s past since_then l m (sym (level_before s) ∙ is) (sym (level_later s) ∙ now)

  stays : (s : ℕ) → is_in s u.closed ≡ false → is_some (level_in setup h s) ≡ true → is_some (level_in setup (h ++ later) s) ≡ true
  stays s shut some =
      let unended_all = none_ended s u.closed u.hooks shut (ordered setup (h ++ later) legal).ended in
      let going = neither (is_ended s past) (is_ended s since_then) (sym (list_any-append (is_close_of s) past since_then) ∙ ap (is_ended s) (sym all_hooks) ∙ unended_all) in
      ap (λ (o : Option LevelFilter). is_some o) (level_later s)
      ∙ level_stays (directives_in setup h) s past since_then (ap (λ (o : Option LevelFilter). is_some o) (sym (level_before s)) ∙ some) going

pub level_never_falls : (setup : Setup) (h later : History) (s : ℕ) → IsHistory setup (h ++ later) → HasNoReload later → NeverFalls (level_in setup h s) (level_in setup (h ++ later) s)
level_never_falls setup h later s legal kept = never_falls setup h later legal kept s

pub level_kept : (setup : Setup) (h later : History) (s : ℕ) → IsHistory setup (h ++ later) → HasNoReload later → is_in s (tables setup (h ++ later)).closed ≡ false
    → is_some (level_in setup h s) ≡ true → is_some (level_in setup (h ++ later) s) ≡ true
level_kept setup h later s legal kept = stays setup h later legal kept s
