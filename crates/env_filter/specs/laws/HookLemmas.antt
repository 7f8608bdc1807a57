-- The laws of the hooks of a filter.
use Rattle.std.proofs.Common.{◌≡◌, ℕ, ◌+◌, ◌<◌, List, [], ◌∷◌, ◌++◌, length, take, drop, map, Bool, true, false, count_by, Option, Some, None, refl, sym, ap, subst, ◌∙◌, arith, inl, inr}
use Rattle.std.specs.Prelude.{◌==◌, ◌&&◌, if◌then◌else◌, is_some, IfSome, nat_le}
use Rattle.std.specs.List.{list_any, list_all}
use Rattle.std.specs.Option.{option_map}
use Rattle.std.proofs.lemmas.Bool.{true≢false, cases_Bool, cases_eq, cond-true, cond-false, eq-eqb, eqb-true, ne_eqb}
use Rattle.trace_base.specs.declared.callsite.Callsite.{Callsite}
use Rattle.trace_base.specs.declared.lane.Lane.{Lane}
use Rattle.trace_base.specs.declared.level.LevelFilter.{LevelFilter}
use Rattle.trace_base.specs.declared.level.LevelFilter.TheVariants.{OFF}
use Rattle.trace_base.specs.words.Level.{greatest_verbosity}
use Rattle.trace_base.specs.layers.Hooks.{Hook, OnNewSpan, OnRecord, OnFollows, OnEvent, OnEnter, OnExit, OnClose, Sees, HookKeepsLanes, one_if_entered, one_if_exited, one_if}
use Rattle.trace_base.specs.lanes.Contexts.{attached_count_on, KeepsLane, TracksAttached}
use Rattle.trace_base.specs.Spans.{without_last}
use Rattle.trace_base.proofs.EntryLemmas.{count_push, any_if_counted, count_without_last}
use Rattle.env_directives.specs.declared.env.directive.Directive.{Directive}
use Rattle.env_directives.specs.Cares.{cares_for_span}
use Rattle.env_directives.specs.orders.Table.{more_verbose}
use Rattle.env_filter.specs.declared.watch.Care.{Care}
use Rattle.env_filter.specs.spans.Keyed.{put}
use Rattle.env_filter.specs.spans.Puts.{put_at, put_off}
use Rattle.env_filter.specs.spans.Levels.{OpenLevel, is_of_span}
use Rattle.env_filter.specs.spans.Kept.{with_open_level, without_open_level}
use Rattle.env_filter.specs.spans.Watching.{MatchState, new_match_state, match_state_by, cares_of, care_of, with_values, level_from, level_of_match}
use Rattle.env_filter.specs.Filtering.{FilterState, FilterWithRoom, plain_filter, after_hook, seen_in, knows_in, entries_in, span_level, interest_in, hint_in, enables_in, AllowsHook, DoesFilter, IsWholeFilter, Each, IsAtMostLevel}

pub same_seen : (s t : FilterWithRoom) → (plain_filter t) ≡ (plain_filter s) → seen_in (plain_filter t) ≡ seen_in (plain_filter s)
same_seen s t h = ap seen_in h

pub same_gate : (s t : FilterWithRoom) → (plain_filter t) ≡ (plain_filter s) → (interest_in (plain_filter t) ≡ interest_in (plain_filter s)) × (◌≡◌ {A = Option LevelFilter} (Some (hint_in (plain_filter t))) (Some (hint_in (plain_filter s))))
same_gate s t h = (ap interest_in h, ap (λ (f : FilterState). Some (hint_in f)) h)

pub same_enables : (s t : FilterWithRoom) → (plain_filter t) ≡ (plain_filter s) → enables_in (plain_filter t) ≡ enables_in (plain_filter s)
same_enables s t h = ap enables_in h

pub same_whole : (s t : FilterWithRoom) → (plain_filter t) ≡ (plain_filter s) → IsWholeFilter (plain_filter s) → IsWholeFilter (plain_filter t)
same_whole s t h w = subst IsWholeFilter (sym h) w

pub same_does : (s t : FilterWithRoom) (hook : Hook) (u : FilterWithRoom) → (plain_filter t) ≡ (plain_filter s) → DoesFilter t hook u → DoesFilter s hook u
same_does s t hook u h d = record { given = subst (λ (f : FilterState). AllowsHook f hook) h d.given; now = d.now ∙ ap (λ (f : FilterState). after_hook f hook) h }

-- the tables stay
hook_keeps_gate : (f : FilterState) (hook : Hook) → (interest_in (after_hook f hook) ≡ interest_in f) × (◌≡◌ {A = Option LevelFilter} (Some (hint_in (after_hook f hook))) (Some (hint_in f)))
hook_keeps_gate f (OnNewSpan id lane at parent current callsite values) = (refl, refl)
hook_keeps_gate f (OnRecord id at callsite values) = (refl, refl)
hook_keeps_gate f (OnFollows id from at) = (refl, refl)
hook_keeps_gate f (OnEvent reached lane at callsite values) = (refl, refl)
hook_keeps_gate f (OnEnter id at before later) = (refl, refl)
hook_keeps_gate f (OnExit id at before later) = (refl, refl)
hook_keeps_gate f (OnClose id at) = (refl, refl)

pub keeps_gate : (s : FilterWithRoom) (hook : Hook) (t : FilterWithRoom) → DoesFilter s hook t → (interest_in (plain_filter t) ≡ interest_in (plain_filter s)) × (◌≡◌ {A = Option LevelFilter} (Some (hint_in (plain_filter t))) (Some (hint_in (plain_filter s))))
keeps_gate s hook t d = (ap interest_in d.now ∙ (hook_keeps_gate (plain_filter s) hook).0, ap (λ (f : FilterState). Some (hint_in f)) d.now ∙ (hook_keeps_gate (plain_filter s) hook).1)

-- nothing is attached
no_keep : (before later : Lane) → later ≡ before → KeepsLane false before later × TracksAttached (λ lane number. 0) before later (λ lane number. 0)
no_keep a b e = (
  record { id = ap (λ (l : Lane). l.id) e; name = ap (λ (l : Lane). l.name) e; default = ap (λ (l : Lane). l.default) e; as_it_is = λ no. e },
  λ lane number. ap (λ (l : Lane). 0 + attached_count_on lane number l) (sym e),
)

pub filter_lanes : (s : FilterWithRoom) (hook : Hook) (t : FilterWithRoom) → DoesFilter s hook t → HookKeepsLanes false (λ lane number. 0) hook (λ lane number. 0)
filter_lanes s (OnNewSpan id lane at parent current callsite values) t d = refl
filter_lanes s (OnRecord id at callsite values) t d = refl
filter_lanes s (OnFollows id from at) t d = refl
filter_lanes s (OnEvent reached lane at callsite values) t d = refl
filter_lanes s (OnEnter id at before later) t d = no_keep before later d.given
filter_lanes s (OnExit id at before later) t d = no_keep before later d.given.0
filter_lanes s (OnClose id at) t d = refl

-- what is seen
knows_put_off : (f : FilterState) (id other : ℕ) (w : Option MatchState) → (other ≡ id → ⊥) → is_some (put f.spans id w other) ≡ knows_in f other
knows_put_off f id other w off = ap is_some (put_off f.spans id w other off)

knows_put_at : (f : FilterState) (id other : ℕ) (w : Option MatchState) → other ≡ id → is_some (put f.spans id w other) ≡ is_some w
knows_put_at f id other w is = ap is_some (put_at f.spans id w other is)

recorded_is_some : (o : Option MatchState) (given : _) → is_some (option_map (with_values given) o) ≡ is_some o
recorded_is_some None given = refl
recorded_is_some (Some w) given = refl

knows_recorded : (f : FilterState) (id other : ℕ) (given : _) → is_some (put f.spans id (option_map (with_values given) (f.spans id)) other) ≡ knows_in f other
knows_recorded f id other given = elim (cases_eq other id) [
  | inl here ↦ knows_put_at f id other _ here ∙ recorded_is_some (f.spans id) given ∙ ap (knows_in f) (sym here)
  | inr off ↦ knows_put_off f id other _ off
]

-- an entry
opened_other : (o : Option LevelFilter) (id other : ℕ) (levels : List OpenLevel) → (is_some o ≡ true → other ≡ id → ⊥) → count_by (is_of_span other) (with_open_level o id levels) ≡ count_by (is_of_span other) levels
opened_other None id other levels apart = refl
opened_other (Some l) id other levels apart =
    let e : OpenLevel = record { span = id; level = l } in
    let none = cond-false {A = ℕ} (id == other) 1 0 (ne_eqb id other (λ same. apart refl (sym same))) in
    omega (arith, count_push (is_of_span other) levels e, none)

opened_same : (o : Option LevelFilter) (id other : ℕ) (levels : List OpenLevel) → is_some o ≡ true → count_by (is_of_span other) (with_open_level o id levels) ≡ count_by (is_of_span other) levels + one_if (id == other)
opened_same None id other levels some = absurd (true≢false (sym some))
opened_same (Some l) id other levels some = let e : OpenLevel = record { span = id; level = l } in count_push (is_of_span other) levels e

level_is_some : (f : FilterState) (id : ℕ) → is_some (span_level f id) ≡ knows_in f id
level_is_some f id = go (f.spans id)
  where
    go : (o : Option MatchState) → is_some (option_map level_of_match o) ≡ is_some o
    go None = refl
    go (Some w) = refl

entered_known : (f : FilterState) (id lane mine other : ℕ) → knows_in f other ≡ true
    → count_by (is_of_span other) (put f.lanes mine (with_open_level (span_level f id) id (f.lanes mine)) lane) + 0 ≡ entries_in f lane other + one_if (mine == lane && id == other)
entered_known f id lane mine other knew =
    elim (cases_eq lane mine) [
      | inl here ↦ (
          let there = ap (λ (es : List OpenLevel). count_by (is_of_span other) es) (put_at f.lanes mine (with_open_level (span_level f id) id (f.lanes mine)) lane here) in
          let old = ap (λ (l : ℕ). entries_in f l other) here in
          let test = ap (λ b. one_if (b && id == other)) (eq-eqb mine lane (sym here)) in
          elim (cases_Bool (knows_in f id)) [
            | inl known ↦ (let more = opened_same (span_level f id) id other (f.lanes mine) (level_is_some f id ∙ known) in omega (arith, there, old, test, more))
            | inr unknown ↦ (
                let apart : other ≡ id → ⊥ = λ same. true≢false (sym knew ∙ ap (knows_in f) same ∙ unknown) in
                let more = opened_other (span_level f id) id other (f.lanes mine) (λ some same. apart same) in
                let none = cond-false {A = ℕ} (id == other) 1 0 (ne_eqb id other (λ same. apart (sym same))) in
                omega (arith, there, old, test, more, none))
          ])
      | inr off ↦ (
          let there = ap (λ (es : List OpenLevel). count_by (is_of_span other) es) (put_off f.lanes mine (with_open_level (span_level f id) id (f.lanes mine)) lane off) in
          let test = ap (λ b. one_if (b && id == other)) (ne_eqb mine lane (λ same. off (sym same))) in
          omega (arith, there, test))
    ]

entered_unknown : (f : FilterState) (id lane mine other : ℕ) → knows_in f other ≡ false
    → count_by (is_of_span other) (put f.lanes mine (with_open_level (span_level f id) id (f.lanes mine)) lane) ≡ entries_in f lane other
entered_unknown f id lane mine other unknown =
    elim (cases_eq lane mine) [
      | inl here ↦ ap (λ (es : List OpenLevel). count_by (is_of_span other) es) (put_at f.lanes mine (with_open_level (span_level f id) id (f.lanes mine)) lane here)
          ∙ opened_other (span_level f id) id other (f.lanes mine) (λ some same. true≢false (sym some ∙ level_is_some f id ∙ ap (knows_in f) (sym same) ∙ unknown)) ∙ ap (λ (l : ℕ). entries_in f l other) (sym here)
      | inr off ↦ ap (λ (es : List OpenLevel). count_by (is_of_span other) es) (put_off f.lanes mine (with_open_level (span_level f id) id (f.lanes mine)) lane off)
    ]

-- an exit
taken_off : (id other : ℕ) (levels : List OpenLevel) → 0 < count_by (is_of_span id) levels → count_by (is_of_span other) (without_last (is_of_span id) levels) + one_if (id == other) ≡ count_by (is_of_span other) levels
taken_off id other levels some = count_without_last (is_of_span id) (is_of_span other) (id == other) levels (λ e is. ap (λ (n : ℕ). n == other) (eqb-true e.span id is)) (any_if_counted (is_of_span id) levels some)

exited_known : (f : FilterState) (id lane mine other : ℕ) → (knows_in f id ≡ true → 0 < entries_in f mine id) → knows_in f other ≡ true
    → count_by (is_of_span other) (put f.lanes mine (without_open_level (knows_in f id) id (f.lanes mine)) lane) + one_if (mine == lane && id == other) ≡ entries_in f lane other + 0
exited_known f id lane mine other opens knew =
    elim (cases_eq lane mine) [
      | inl here ↦ (
          let there = ap (λ (es : List OpenLevel). count_by (is_of_span other) es) (put_at f.lanes mine (without_open_level (knows_in f id) id (f.lanes mine)) lane here) in
          let old = ap (λ (l : ℕ). entries_in f l other) here in
          let test = ap (λ b. one_if (b && id == other)) (eq-eqb mine lane (sym here)) in
          elim (cases_Bool (knows_in f id)) [
            | inl known ↦ (
                let less = taken_off id other (f.lanes mine) (opens known) in
                let is = ap (λ b. count_by (is_of_span other) (without_open_level b id (f.lanes mine))) known in
                omega (arith, there, old, test, less, is))
            | inr unknown ↦ (
                let is = ap (λ b. count_by (is_of_span other) (without_open_level b id (f.lanes mine))) unknown in
                let none = cond-false {A = ℕ} (id == other) 1 0 (ne_eqb id other (λ same. true≢false (sym knew ∙ ap (knows_in f) (sym same) ∙ unknown))) in
                omega (arith, there, old, test, is, none))
          ])
      | inr off ↦ (
          let there = ap (λ (es : List OpenLevel). count_by (is_of_span other) es) (put_off f.lanes mine (without_open_level (knows_in f id) id (f.lanes mine)) lane off) in
          let test = ap (λ b. one_if (b && id == other)) (ne_eqb mine lane (λ same. off (sym same))) in
          omega (arith, there, test))
    ]

exited_unknown : (f : FilterState) (id lane mine other : ℕ) → (knows_in f id ≡ true → 0 < entries_in f mine id) → knows_in f other ≡ false
    → count_by (is_of_span other) (put f.lanes mine (without_open_level (knows_in f id) id (f.lanes mine)) lane) ≡ entries_in f lane other
exited_unknown f id lane mine other opens unknown =
    elim (cases_eq lane mine) [
      | inl here ↦ (
          let there = ap (λ (es : List OpenLevel). count_by (is_of_span other) es) (put_at f.lanes mine (without_open_level (knows_in f id) id (f.lanes mine)) lane here) in
          let old = ap (λ (l : ℕ). entries_in f l other) here in
          elim (cases_Bool (knows_in f id)) [
            | inl known ↦ (
                let less = taken_off id other (f.lanes mine) (opens known) in
                let is = ap (λ b. count_by (is_of_span other) (without_open_level b id (f.lanes mine))) known in
                let none = cond-false {A = ℕ} (id == other) 1 0 (ne_eqb id other (λ same. true≢false (sym known ∙ ap (knows_in f) same ∙ unknown))) in
                omega (arith, there, old, less, is, none))
            | inr missing ↦ (
                let is = ap (λ b. count_by (is_of_span other) (without_open_level b id (f.lanes mine))) missing in
                omega (arith, there, old, is))
          ])
      | inr off ↦ ap (λ (es : List OpenLevel). count_by (is_of_span other) es) (put_off f.lanes mine (without_open_level (knows_in f id) id (f.lanes mine)) lane off)
    ]

quiet : (f : FilterState) (hook : Hook) → ((lane id : ℕ) → one_if_exited hook lane id ≡ one_if_entered hook lane id) → Sees (seen_in f) hook (seen_in f)
quiet f hook none = record {
  gains = λ id knows unknown. absurd (true≢false (sym knows ∙ unknown));
  loses = λ id knew forgot. absurd (true≢false (sym knew ∙ forgot));
  known = λ lane id knew. ap (λ (n : ℕ). entries_in f lane id + n) (none lane id);
  unknown = λ lane id knew. refl;
}

sees_after : (f : FilterState) (hook : Hook) → AllowsHook f hook → Sees (seen_in f) hook (seen_in (after_hook f hook))
sees_after f (OnNewSpan id lane at parent current callsite values) g = record {
  gains = λ other knows unknown. elim (cases_eq other id) [ inl here ↦ eq-eqb id other (sym here) | inr off ↦ absurd (true≢false (sym knows ∙ knows_put_off f id other _ off ∙ unknown)) ];
  loses = λ other knew forgot. elim (cases_eq other id) [ inl here ↦ absurd (true≢false (sym knew ∙ ap (knows_in f) here ∙ g)) | inr off ↦ absurd (true≢false (sym knew ∙ sym (knows_put_off f id other _ off) ∙ forgot)) ];
  known = λ l other knew. refl;
  unknown = λ l other knew. refl;
}
sees_after f (OnRecord id at callsite values) g = record {
  gains = λ other knows unknown. absurd (true≢false (sym knows ∙ knows_recorded f id other values.pairs ∙ unknown));
  loses = λ other knew forgot. absurd (true≢false (sym knew ∙ sym (knows_recorded f id other values.pairs) ∙ forgot));
  known = λ l other knew. refl;
  unknown = λ l other knew. refl;
}
sees_after f (OnFollows id from at) g = quiet f (OnFollows id from at) (λ lane other. refl)
sees_after f (OnEvent reached l at callsite values) g = quiet f (OnEvent reached l at callsite values) (λ lane other. refl)
sees_after f (OnEnter id at before later) g = record {
  gains = λ other knows unknown. absurd (true≢false (sym knows ∙ unknown));
  loses = λ other knew forgot. absurd (true≢false (sym knew ∙ forgot));
  known = λ lane other knew. entered_known f id lane before.id other knew;
  unknown = λ lane other unknown. entered_unknown f id lane before.id other unknown;
}
sees_after f (OnExit id at before later) g = record {
  gains = λ other knows unknown. absurd (true≢false (sym knows ∙ unknown));
  loses = λ other knew forgot. absurd (true≢false (sym knew ∙ forgot));
  known = λ lane other knew. exited_known f id lane before.id other g.1 knew;
  unknown = λ lane other unknown. exited_unknown f id lane before.id other g.1 unknown;
}
sees_after f (OnClose id at) g = record {
  gains = λ other knows unknown. elim (cases_eq other id) [ inl here ↦ absurd (true≢false (sym knows ∙ knows_put_at f id other None here)) | inr off ↦ absurd (true≢false (sym knows ∙ knows_put_off f id other None off ∙ unknown)) ];
  loses = λ other knew forgot. elim (cases_eq other id) [ inl here ↦ eq-eqb id other (sym here) | inr off ↦ absurd (true≢false (sym knew ∙ sym (knows_put_off f id other None off) ∙ forgot)) ];
  known = λ lane other knew. refl;
  unknown = λ lane other knew. refl;
}

pub filter_sees : (s : FilterWithRoom) (hook : Hook) (t : FilterWithRoom) → DoesFilter s hook t → Sees (seen_in (plain_filter s)) hook (seen_in (plain_filter t))
filter_sees s hook t d = subst (λ (f : FilterState). Sees (seen_in (plain_filter s)) hook (seen_in f)) (sym d.now) (sees_after (plain_filter s) hook d.given)

-- what the gate stands on stays
each_append : {X : Type 0} (P : X → Type 0) (xs : List X) (x : X) → Each P xs → P x → Each P (xs ++ x ∷ [])
each_append P [] x all one = (one, tt)
each_append P (y ∷ xs) x all one = (all.0, each_append P xs x all.1 one)

each_without : {X : Type 0} (P : X → Type 0) (p : X → Bool) (xs : List X) → Each P xs → Each P (without_last p xs)
each_without P p [] all = all
each_without {X} P p (x ∷ xs) all = elim (cases_Bool (list_any p xs)) [
  | inl some ↦ subst (Each P) (sym (cond-true {A = List X} (list_any p xs) _ _ some)) (all.0, each_without P p xs all.1)
  | inr none ↦ subst (Each P) (sym (cond-false {A = List X} (list_any p xs) _ _ none)) (elim (cases_Bool (p x)) [
    | inl here ↦ subst (Each P) (sym (cond-true {A = List X} (p x) xs (x ∷ xs) here)) all.1
    | inr off ↦ subst (Each P) (sym (cond-false {A = List X} (p x) xs (x ∷ xs) off)) all
  ])
]

cares_below : (most : LevelFilter) (c : Callsite) (ds : List Directive) → Each (λ (d : Directive). IsAtMostLevel most d.level) ds → Each (λ (care : Care). IsAtMostLevel most care.level) (cares_of c ds)
cares_below most c [] all = tt
cares_below most c (d ∷ ds) all = elim (cases_Bool (cares_for_span d c)) [
  | inl cared ↦ subst (λ (xs : List Directive). Each (λ (care : Care). IsAtMostLevel most care.level) (map (care_of c) xs)) (sym (cond-true {A = List Directive} (cares_for_span d c) _ _ cared)) (all.0, cares_below most c ds all.1)
  | inr passed ↦ subst (λ (xs : List Directive). Each (λ (care : Care). IsAtMostLevel most care.level) (map (care_of c) xs)) (sym (cond-false {A = List Directive} (cares_for_span d c) _ _ passed)) (cares_below most c ds all.1)
]

watched_below : (most : LevelFilter) (cares : List Care) (given : _) → Each (λ (care : Care). IsAtMostLevel most care.level) cares → IfSome (match_state_by cares given) (λ w. Each (λ (care : Care). IsAtMostLevel most care.level) w.cares)
watched_below most [] given all = tt
watched_below most (care ∷ cares) given all = all

pub more_below : (most now other : LevelFilter) → IsAtMostLevel most now → IsAtMostLevel most other → IsAtMostLevel most (more_verbose now other)
more_below most now other a b = elim (cases_Bool (nat_le (greatest_verbosity other) (greatest_verbosity now))) [
  | inl less ↦ subst (IsAtMostLevel most) (sym (cond-true {A = LevelFilter} (nat_le (greatest_verbosity other) (greatest_verbosity now)) now other less)) a
  | inr more ↦ subst (IsAtMostLevel most) (sym (cond-false {A = LevelFilter} (nat_le (greatest_verbosity other) (greatest_verbosity now)) now other more)) b
]

if_below : (most now other : LevelFilter) (b : Bool) → IsAtMostLevel most now → IsAtMostLevel most other → IsAtMostLevel most (if b then more_verbose now other else now)
if_below most now other true p q = more_below most now other p q
if_below most now other false p q = p

level_below : (most : LevelFilter) (cares : List Care) (now : LevelFilter) (met : List Bool) → IsAtMostLevel most now → Each (λ (care : Care). IsAtMostLevel most care.level) cares → IsAtMostLevel most (level_from now cares met)
level_below most [] now met is all = is
level_below most (care ∷ cares) now met is all = level_below most cares _ (drop (length care.asks) met) (if_below most now care.level (list_all (λ m. m) (take (length care.asks) met)) is all.0) all.1

opened_below : (most : LevelFilter) (o : Option MatchState) (id : ℕ) (levels : List OpenLevel) → IfSome o (λ w. Each (λ (care : Care). IsAtMostLevel most care.level) w.cares) → Each (λ (e : OpenLevel). IsAtMostLevel most e.level) levels
    → Each (λ (e : OpenLevel). IsAtMostLevel most e.level) (with_open_level (option_map level_of_match o) id levels)
opened_below most None id levels w all = all
opened_below most (Some w) id levels cares all = each_append (λ (e : OpenLevel). IsAtMostLevel most e.level) levels _ all (level_below most w.cares OFF w.met (omega arith) cares)

closed_below : (most : LevelFilter) (known : Bool) (id : ℕ) (levels : List OpenLevel) → Each (λ (e : OpenLevel). IsAtMostLevel most e.level) levels → Each (λ (e : OpenLevel). IsAtMostLevel most e.level) (without_open_level known id levels)
closed_below most true id levels all = each_without (λ (e : OpenLevel). IsAtMostLevel most e.level) (is_of_span id) levels all
closed_below most false id levels all = all

put_each : {V : Type 0} (P : V → Type 0) (f : ℕ → V) (k : ℕ) (v : V) → P v → ((other : ℕ) → P (f other)) → (other : ℕ) → P (put f k v other)
put_each P f k v one all other = elim (cases_eq other k) [
  | inl here ↦ subst P (sym (put_at f k v other here)) one
  | inr off ↦ subst P (sym (put_off f k v other off)) (all other)
]

recorded_below : (most : LevelFilter) (o : Option MatchState) (given : _) → IfSome o (λ w. Each (λ (care : Care). IsAtMostLevel most care.level) w.cares) → IfSome (option_map (with_values given) o) (λ w. Each (λ (care : Care). IsAtMostLevel most care.level) w.cares)
recorded_below most None given all = all
recorded_below most (Some w) given all = all

whole_after : (f : FilterState) (hook : Hook) → IsWholeFilter f → IsWholeFilter (after_hook f hook)
whole_after f (OnNewSpan id lane at parent current callsite values) w = record {
  statics = w.statics;
  dynamics = w.dynamics;
  lanes = w.lanes;
  none = w.none;
  spans = put_each (λ (o : Option MatchState). IfSome o (λ w. Each (λ (care : Care). IsAtMostLevel f.dynamics.greatest care.level) w.cares)) f.spans id (new_match_state f.dynamics.directives callsite values.pairs)
      (watched_below f.dynamics.greatest (cares_of callsite f.dynamics.directives) values.pairs (cares_below f.dynamics.greatest callsite f.dynamics.directives w.dynamics)) w.spans;
}
whole_after f (OnRecord id at callsite values) w = record {
  statics = w.statics;
  dynamics = w.dynamics;
  lanes = w.lanes;
  none = w.none;
  spans = put_each (λ (o : Option MatchState). IfSome o (λ w. Each (λ (care : Care). IsAtMostLevel f.dynamics.greatest care.level) w.cares)) f.spans id (option_map (with_values values.pairs) (f.spans id))
      (recorded_below f.dynamics.greatest (f.spans id) values.pairs (w.spans id)) w.spans;
}
whole_after f (OnFollows id from at) w = w
whole_after f (OnEvent reached lane at callsite values) w = w
whole_after f (OnEnter id at before later) w = record {
  statics = w.statics;
  dynamics = w.dynamics;
  spans = w.spans;
  none = w.none;
  lanes = put_each (λ (es : List OpenLevel). Each (λ (e : OpenLevel). IsAtMostLevel f.dynamics.greatest e.level) es) f.lanes before.id (with_open_level (span_level f id) id (f.lanes before.id))
      (opened_below f.dynamics.greatest (f.spans id) id (f.lanes before.id) (w.spans id) (w.lanes before.id)) w.lanes;
}
whole_after f (OnExit id at before later) w = record {
  statics = w.statics;
  dynamics = w.dynamics;
  spans = w.spans;
  none = w.none;
  lanes = put_each (λ (es : List OpenLevel). Each (λ (e : OpenLevel). IsAtMostLevel f.dynamics.greatest e.level) es) f.lanes before.id (without_open_level (knows_in f id) id (f.lanes before.id))
      (closed_below f.dynamics.greatest (knows_in f id) id (f.lanes before.id) (w.lanes before.id)) w.lanes;
}
whole_after f (OnClose id at) w = record {
  statics = w.statics;
  dynamics = w.dynamics;
  lanes = w.lanes;
  none = w.none;
  spans = put_each (λ (o : Option MatchState). IfSome o (λ w. Each (λ (care : Care). IsAtMostLevel f.dynamics.greatest care.level) w.cares)) f.spans id None tt w.spans;
}

pub keeps_whole : (s : FilterWithRoom) (hook : Hook) (t : FilterWithRoom) → DoesFilter s hook t → IsWholeFilter (plain_filter s) → IsWholeFilter (plain_filter t)
keeps_whole s hook t d w = subst IsWholeFilter (sym d.now) (whole_after (plain_filter s) hook w)
