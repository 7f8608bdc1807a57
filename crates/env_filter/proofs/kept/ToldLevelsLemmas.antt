-- The levels kept are those that the calls tell.
use Rattle.std.proofs.Common.{◌≡◌, ℕ, List, [], ◌∷◌, ◌++◌, length, take, drop, map, append_assoc, Bool, true, false, Option, Some, None, refl, sym, ap, subst, ◌∙◌, arith, inl, inr, ◌==◌, ◌||◌, ◌&&◌, if◌then◌else◌, is_some, fold}
use Rattle.env_filter.proofs.Common.{list_all, cases_Bool, cases_eq, cond-true, cond-false, list_any-append, Callsite, Value, LevelFilter, OFF, Hook, OnNewSpan, OnRecord, OnFollows, OnEvent, OnEnter, OnExit, OnClose, Directive, more_verbose, Ask, Care, OpenLevel, MatchState, is_given, all_asks, found_in, match_state_by, new_match_state, cares_of, more_met, with_values, level_from, level_of_match, FilterState, fresh_filter, after_hook, span_level, callsite_if_made, values_given_by, is_close_of, callsite_by_calls, all_values_given, is_ended, greatest_from, is_met, level_by, level_if, level_by_calls, levels_after_call, levels_from, levels_by_calls, HasNoCalls, MayComeNext, AreInOrder}
use Rattle.std.specs.List.{filter}
use Rattle.std.specs.Option.{option_map}
use Rattle.std.proofs.lemmas.Bool.{true≢false, eq-eqb, ne_eqb}
use Rattle.std.proofs.lemmas.List.{append-nil}
use Rattle.env_filter.specs.spans.Keyed.{put}
use Rattle.env_filter.specs.spans.Puts.{put_at, put_off}
use Rattle.env_filter.specs.spans.Kept.{with_open_level, without_open_level}

-- values that are given later are noted beside those given before
pub given_append : (xs ys : List (ℕ × Value)) (ask : Ask) → is_given (xs ++ ys) ask ≡ (is_given xs ask || is_given ys ask)
given_append xs ys ask = list_any-append _ xs ys

noted_more : (xs ys : List (ℕ × Value)) (asks : List Ask) → more_met (map (is_given xs) asks) (map (is_given ys) asks) ≡ map (is_given (xs ++ ys)) asks
noted_more xs ys [] = refl
noted_more xs ys (ask ∷ asks) =
    ap (λ (b : Bool). b ∷ more_met (map (is_given xs) asks) (map (is_given ys) asks)) (sym (given_append xs ys ask)) ∙ ap (λ (bs : List Bool). is_given (xs ++ ys) ask ∷ bs) (noted_more xs ys asks)

recorded_by : (cares : List Care) (xs ys : List (ℕ × Value)) → option_map (with_values ys) (match_state_by cares xs) ≡ match_state_by cares (xs ++ ys)
recorded_by [] xs ys = refl
recorded_by (care ∷ cares) xs ys = ap (λ (bs : List Bool). let w : MatchState = record { cares = care ∷ cares; met = bs } in Some w) (noted_more xs ys (all_asks (care ∷ cares)))

-- flags and values say the same of which directives are met
taken : {X : Type 0} (xs ys : List X) → take (length xs) (xs ++ ys) ≡ xs
taken [] ys = refl
taken (x ∷ xs) ys = ap (λ zs. x ∷ zs) (taken xs ys)

dropped : {X : Type 0} (xs ys : List X) → drop (length xs) (xs ++ ys) ≡ ys
dropped [] ys = refl
dropped (x ∷ xs) ys = dropped xs ys

map_append : (p : Ask → Bool) (xs ys : List Ask) → map p (xs ++ ys) ≡ map p xs ++ map p ys
map_append p [] ys = refl
map_append p (x ∷ xs) ys = ap (λ (bs : List Bool). p x ∷ bs) (map_append p xs ys)

map_length : (p : Ask → Bool) (xs : List Ask) → length (map p xs) ≡ length xs
map_length p [] = refl
map_length p (x ∷ xs) = let e = map_length p xs in omega (arith, e)

all_mapped : (p : Ask → Bool) (xs : List Ask) → list_all (λ (m : Bool). m) (map p xs) ≡ list_all p xs
all_mapped p [] = refl
all_mapped p (x ∷ xs) = ap (λ (b : Bool). p x && b) (all_mapped p xs)

pub filter_step : (p : Care → Bool) (now : LevelFilter) (care : Care) (cares : List Care) → greatest_from now (filter p (care ∷ cares)) ≡ greatest_from (if p care then more_verbose now care.level else now) (filter p cares)
filter_step p now care cares = elim (cases_Bool (p care)) [
  | inl met ↦ ap (λ (cs : List Care). greatest_from now cs) (cond-true {A = List Care} (p care) _ _ met) ∙ ap (λ (l : LevelFilter). greatest_from l (filter p cares)) (sym (cond-true {A = LevelFilter} (p care) _ _ met))
  | inr unmet ↦ ap (λ (cs : List Care). greatest_from now cs) (cond-false {A = List Care} (p care) _ _ unmet) ∙ ap (λ (l : LevelFilter). greatest_from l (filter p cares)) (sym (cond-false {A = LevelFilter} (p care) _ _ unmet))
]

level_most : (values : List (ℕ × Value)) (cares : List Care) (now : LevelFilter) → level_from now cares (found_in values cares) ≡ greatest_from now (filter (is_met values) cares)
level_most values [] now = refl
level_most values (care ∷ cares) now =
    let p : Ask → Bool = is_given values in
    let flags = map_append p care.asks (all_asks cares) in
    let front : take (length care.asks) (found_in values (care ∷ cares)) ≡ map p care.asks =
    ap (λ (bs : List Bool). take (length care.asks) bs) flags ∙ ap (λ (n : ℕ). take n (map p care.asks ++ found_in values cares)) (sym (map_length p care.asks)) ∙ taken (map p care.asks) (found_in values cares) in
    let back : drop (length care.asks) (found_in values (care ∷ cares)) ≡ found_in values cares =
    ap (λ (bs : List Bool). drop (length care.asks) bs) flags ∙ ap (λ (n : ℕ). drop n (map p care.asks ++ found_in values cares)) (sym (map_length p care.asks)) ∙ dropped (map p care.asks) (found_in values cares) in
    let next : LevelFilter = if is_met values care then more_verbose now care.level else now in
    ap (λ (bs : List Bool). level_from (if list_all (λ (m : Bool). m) bs then more_verbose now care.level else now) cares (drop (length care.asks) (found_in values (care ∷ cares)))) front
    ∙ ap (λ (b : Bool). level_from (if b then more_verbose now care.level else now) cares (drop (length care.asks) (found_in values (care ∷ cares)))) (all_mapped p care.asks)
    ∙ ap (λ (bs : List Bool). level_from next cares bs) back
    ∙ level_most values cares next
    ∙ sym (filter_step (is_met values) now care cares)

level_watched : (cares : List Care) (values : List (ℕ × Value)) → option_map level_of_match (match_state_by cares values) ≡ level_by values cares
level_watched [] values = refl
level_watched (care ∷ cares) values = ap (λ (l : LevelFilter). Some l) (level_most values (care ∷ cares) OFF)

-- one call more
pub made_append : (q : ℕ) (past : List Hook) (call : Hook) → callsite_by_calls q (past ++ call ∷ []) ≡ (if is_some (callsite_by_calls q past) then callsite_by_calls q past else callsite_if_made q call)
made_append q [] call = elim (cases_Bool (is_some (callsite_if_made q call))) [
  | inl some ↦ cond-true {A = Option Callsite} (is_some (callsite_if_made q call)) _ _ some
  | inr none ↦ cond-false {A = Option Callsite} (is_some (callsite_if_made q call)) _ _ none ∙ sym (is_none (callsite_if_made q call) none)
]
  where
    is_none : (o : Option Callsite) → is_some o ≡ false → o ≡ None
    is_none None e = refl
    is_none (Some c) e = absurd (true≢false e)
made_append q (first ∷ past) call = elim (cases_Bool (is_some (callsite_if_made q first))) [
  | inl some ↦ (
      let here : (rest : Option Callsite) → (if is_some (callsite_if_made q first) then callsite_if_made q first else rest) ≡ callsite_if_made q first = λ rest. cond-true {A = Option Callsite} (is_some (callsite_if_made q first)) _ rest some in
      here (callsite_by_calls q (past ++ call ∷ [])) ∙ sym (ap (λ (o : Option Callsite). if is_some o then o else callsite_if_made q call) (here (callsite_by_calls q past)) ∙ cond-true {A = Option Callsite} (is_some (callsite_if_made q first)) _ _ some))
  | inr none ↦ (
      let later : (rest : Option Callsite) → (if is_some (callsite_if_made q first) then callsite_if_made q first else rest) ≡ rest = λ rest. cond-false {A = Option Callsite} (is_some (callsite_if_made q first)) _ rest none in
      later (callsite_by_calls q (past ++ call ∷ [])) ∙ made_append q past call ∙ sym (ap (λ (o : Option Callsite). if is_some o then o else callsite_if_made q call) (later (callsite_by_calls q past))))
]

pub given_more : (q : ℕ) (past : List Hook) (call : Hook) → all_values_given q (past ++ call ∷ []) ≡ all_values_given q past ++ values_given_by q call
given_more q [] call = append-nil (values_given_by q call)
given_more q (first ∷ past) call = ap (λ (vs : List (ℕ × Value)). values_given_by q first ++ vs) (given_more q past call) ∙ sym (append_assoc (values_given_by q first) (all_values_given q past) (values_given_by q call))

pub ended_more : (q : ℕ) (past : List Hook) (call : Hook) → is_ended q (past ++ call ∷ []) ≡ (is_ended q past || (is_close_of q call || false))
ended_more q past call = list_any-append (is_close_of q) past (call ∷ [])

-- what is kept of a span by the calls so far
abbrev kept_if : List Directive → Bool → Option Callsite → List (ℕ × Value) → Option MatchState
kept_if ds true made values = None
kept_if ds false None values = None
kept_if ds false (Some c) values = match_state_by (cares_of c ds) values

abbrev kept : List Directive → ℕ → List Hook → Option MatchState
kept ds q calls = kept_if ds (is_ended q calls) (callsite_by_calls q calls) (all_values_given q calls)

level_kept : (ds : List Directive) (ended : Bool) (made : Option Callsite) (values : List (ℕ × Value)) → option_map level_of_match (kept_if ds ended made values) ≡ (if ended then None else level_if ds made values)
level_kept ds true made values = refl
level_kept ds false None values = refl
level_kept ds false (Some c) values = level_watched (cares_of c ds) values

-- what the filter keeps fits the calls so far
record Stands (ds : List Directive) (f : FilterState) (past : List Hook) : Type 0 where
  pub dynamics : f.dynamics.directives ≡ ds
  pub spans : (q : ℕ) → f.spans q ≡ kept ds q past

kept_same : (ds : List Directive) (q : ℕ) (past : List Hook) (call : Hook) → callsite_if_made q call ≡ None → values_given_by q call ≡ [] → is_close_of q call ≡ false → kept ds q (past ++ call ∷ []) ≡ kept ds q past
kept_same ds q past call m g e =
    ap (λ (b : Bool). kept_if ds b (callsite_by_calls q (past ++ call ∷ [])) (all_values_given q (past ++ call ∷ []))) (ended_more q past call ∙ ap (λ (b : Bool). is_ended q past || (b || false)) e ∙ or_none (is_ended q past))
    ∙ ap (λ (o : Option Callsite). kept_if ds (is_ended q past) o (all_values_given q (past ++ call ∷ []))) (made_append q past call ∙ ap (λ (o : Option Callsite). if is_some (callsite_by_calls q past) then callsite_by_calls q past else o) m ∙ if_made (callsite_by_calls q past))
    ∙ ap (λ (vs : List (ℕ × Value)). kept_if ds (is_ended q past) (callsite_by_calls q past) vs) (given_more q past call ∙ ap (λ (vs : List (ℕ × Value)). all_values_given q past ++ vs) g ∙ append-nil (all_values_given q past))
  where
    or_none : (b : Bool) → (b || (false || false)) ≡ b
    or_none true = refl
    or_none false = refl

    if_made : (o : Option Callsite) → (if is_some o then o else None) ≡ o
    if_made None = refl
    if_made (Some c) = refl

-- a making
kept_made : (ds : List Directive) (id : ℕ) (past : List Hook) (call : Hook) (c : Callsite) (values : List (ℕ × Value)) → HasNoCalls id past → callsite_if_made id call ≡ Some c → values_given_by id call ≡ values → is_close_of id call ≡ false
    → kept ds id (past ++ call ∷ []) ≡ new_match_state ds c values
kept_made ds id past call c values new m g e =
    ap (λ (b : Bool). kept_if ds b (callsite_by_calls id (past ++ call ∷ [])) (all_values_given id (past ++ call ∷ []))) (ended_more id past call ∙ ap (λ (b : Bool). is_ended id past || (b || false)) e ∙ ap (λ (b : Bool). b || (false || false)) new.not_ended)
    ∙ ap (λ (o : Option Callsite). kept_if ds false o (all_values_given id (past ++ call ∷ []))) (made_append id past call ∙ ap (λ (o : Option Callsite). if is_some o then o else callsite_if_made id call) new.unmade ∙ m)
    ∙ ap (λ (vs : List (ℕ × Value)). kept_if ds false (Some c) vs) (given_more id past call ∙ ap (λ (vs : List (ℕ × Value)). vs ++ values_given_by id call) new.nothing ∙ g)

-- a record
kept_recorded : (ds : List Directive) (id : ℕ) (past : List Hook) (call : Hook) (values : List (ℕ × Value)) → callsite_if_made id call ≡ None → values_given_by id call ≡ values → is_close_of id call ≡ false
    → kept ds id (past ++ call ∷ []) ≡ option_map (with_values values) (kept ds id past)
kept_recorded ds id past call values m g e =
    ap (λ (b : Bool). kept_if ds b (callsite_by_calls id (past ++ call ∷ [])) (all_values_given id (past ++ call ∷ []))) (ended_more id past call ∙ ap (λ (b : Bool). is_ended id past || (b || false)) e ∙ or_none (is_ended id past))
    ∙ ap (λ (o : Option Callsite). kept_if ds (is_ended id past) o (all_values_given id (past ++ call ∷ []))) (made_append id past call ∙ ap (λ (o : Option Callsite). if is_some (callsite_by_calls id past) then callsite_by_calls id past else o) m ∙ if_made (callsite_by_calls id past))
    ∙ ap (λ (vs : List (ℕ × Value)). kept_if ds (is_ended id past) (callsite_by_calls id past) vs) (given_more id past call ∙ ap (λ (vs : List (ℕ × Value)). all_values_given id past ++ vs) g)
    ∙ go (is_ended id past) (callsite_by_calls id past)
  where
    or_none : (b : Bool) → (b || (false || false)) ≡ b
    or_none true = refl
    or_none false = refl

    if_made : (o : Option Callsite) → (if is_some o then o else None) ≡ o
    if_made None = refl
    if_made (Some c) = refl

    go : (ended : Bool) (made : Option Callsite) → kept_if ds ended made (all_values_given id past ++ values) ≡ option_map (with_values values) (kept_if ds ended made (all_values_given id past))
    go true made = refl
    go false None = refl
    go false (Some c) = sym (recorded_by (cares_of c ds) (all_values_given id past) values)

-- a close
kept_ended : (ds : List Directive) (id : ℕ) (past : List Hook) (call : Hook) → is_close_of id call ≡ true → kept ds id (past ++ call ∷ []) ≡ None
kept_ended ds id past call e =
    ap (λ (b : Bool). kept_if ds b (callsite_by_calls id (past ++ call ∷ [])) (all_values_given id (past ++ call ∷ []))) (ended_more id past call ∙ ap (λ (b : Bool). is_ended id past || (b || false)) e ∙ or_true (is_ended id past))
  where
    or_true : (b : Bool) → (b || (true || false)) ≡ true
    or_true true = refl
    or_true false = refl

put_kept : (ds : List Directive) (f : FilterState) (past : List Hook) (call : Hook) (id : ℕ) (v : Option MatchState) → Stands ds f past → v ≡ kept ds id (past ++ call ∷ [])
    → ((q : ℕ) → (q ≡ id → ⊥) → (callsite_if_made q call ≡ None) × (values_given_by q call ≡ []) × (is_close_of q call ≡ false)) → (q : ℕ) → put f.spans id v q ≡ kept ds q (past ++ call ∷ [])
put_kept ds f past call id v s here off q = elim (cases_eq q id) [
  | inl mine ↦ put_at f.spans id v q mine ∙ here ∙ ap (λ (n : ℕ). kept ds n (past ++ call ∷ [])) (sym mine)
  | inr other ↦ (let no = off q other in put_off f.spans id v q other ∙ s.spans q ∙ sym (kept_same ds q past call no.0 no.1 no.2))
]

if_not : {X : Type 0} (id q : ℕ) (x y : X) → (q ≡ id → ⊥) → (if id == q then x else y) ≡ y
if_not {X} id q x y off = cond-false {A = X} (id == q) x y (ne_eqb id q (λ e. off (sym e)))

if_same : {X : Type 0} (id : ℕ) (x y : X) → (if id == id then x else y) ≡ x
if_same {X} id x y = cond-true {A = X} (id == id) x y (eq-eqb id id refl)

stands_after : (ds : List Directive) (f : FilterState) (past : List Hook) (call : Hook) → Stands ds f past → MayComeNext past call → Stands ds (after_hook f call) (past ++ call ∷ [])
stands_after ds f past (OnNewSpan id lane at parent current c values) s new = record {
  dynamics = s.dynamics;
  spans = put_kept ds f past (OnNewSpan id lane at parent current c values) id (new_match_state f.dynamics.directives c values.pairs) s
      (ap (λ (d : List Directive). new_match_state d c values.pairs) s.dynamics ∙ sym (kept_made ds id past (OnNewSpan id lane at parent current c values) c values.pairs new (if_same id (Some c) None) (if_same id values.pairs []) refl))
      (λ q off. (if_not id q (Some c) None off, if_not id q values.pairs [] off, refl));
}
stands_after ds f past (OnRecord id at c values) s new = record {
  dynamics = s.dynamics;
  spans = put_kept ds f past (OnRecord id at c values) id (option_map (with_values values.pairs) (f.spans id)) s
      (ap (option_map (with_values values.pairs)) (s.spans id) ∙ sym (kept_recorded ds id past (OnRecord id at c values) values.pairs refl (if_same id values.pairs []) refl))
      (λ q off. (refl, if_not id q values.pairs [] off, refl));
}
stands_after ds f past (OnFollows id from at) s new = record { dynamics = s.dynamics; spans = λ q. s.spans q ∙ sym (kept_same ds q past (OnFollows id from at) refl refl refl) }
stands_after ds f past (OnEvent reached l at c values) s new = record { dynamics = s.dynamics; spans = λ q. s.spans q ∙ sym (kept_same ds q past (OnEvent reached l at c values) refl refl refl) }
stands_after ds f past (OnEnter id at before later) s new = record { dynamics = s.dynamics; spans = λ q. s.spans q ∙ sym (kept_same ds q past (OnEnter id at before later) refl refl refl) }
stands_after ds f past (OnExit id at before later) s new = record { dynamics = s.dynamics; spans = λ q. s.spans q ∙ sym (kept_same ds q past (OnExit id at before later) refl refl refl) }
stands_after ds f past (OnClose id at) s new = record {
  dynamics = s.dynamics;
  spans = put_kept ds f past (OnClose id at) id None s (sym (kept_ended ds id past (OnClose id at) (eq-eqb id id refl))) (λ q off. (refl, refl, ne_eqb id q (λ e. off (sym e))));
}

told_level : (ds : List Directive) (f : FilterState) (past : List Hook) (q : ℕ) → Stands ds f past → span_level f q ≡ level_by_calls ds q past
told_level ds f past q s = ap (option_map level_of_match) (s.spans q) ∙ level_kept ds (is_ended q past) (callsite_by_calls q past) (all_values_given q past)

knows_level : (f : FilterState) (q : ℕ) → is_some (f.spans q) ≡ is_some (span_level f q)
knows_level f q = go (f.spans q)
  where
    go : (o : Option MatchState) → is_some o ≡ is_some (option_map level_of_match o)
    go None = refl
    go (Some w) = refl

moved_after : (ds : List Directive) (f : FilterState) (past : List Hook) (call : Hook) (lane : ℕ) → Stands ds f past → (after_hook f call).lanes lane ≡ levels_after_call ds lane past call (f.lanes lane)
moved_after ds f past (OnNewSpan id l at parent current c values) lane s = refl
moved_after ds f past (OnRecord id at c values) lane s = refl
moved_after ds f past (OnFollows id from at) lane s = refl
moved_after ds f past (OnEvent reached l at c values) lane s = refl
moved_after ds f past (OnEnter id at before later) lane s = elim (cases_eq lane before.id) [
  | inl here ↦ put_at f.lanes before.id (with_open_level (span_level f id) id (f.lanes before.id)) lane here
      ∙ ap (λ (o : Option LevelFilter). with_open_level o id (f.lanes before.id)) (told_level ds f past id s) ∙ ap (λ (n : ℕ). with_open_level (level_by_calls ds id past) id (f.lanes n)) (sym here)
      ∙ sym (cond-true {A = List OpenLevel} (lane == before.id) _ _ (eq-eqb lane before.id here))
  | inr off ↦ put_off f.lanes before.id (with_open_level (span_level f id) id (f.lanes before.id)) lane off ∙ sym (cond-false {A = List OpenLevel} (lane == before.id) _ _ (ne_eqb lane before.id off))
]
moved_after ds f past (OnExit id at before later) lane s = elim (cases_eq lane before.id) [
  | inl here ↦ put_at f.lanes before.id (without_open_level (is_some (f.spans id)) id (f.lanes before.id)) lane here
      ∙ ap (λ (b : Bool). without_open_level b id (f.lanes before.id)) (knows_level f id ∙ ap is_some (told_level ds f past id s)) ∙ ap (λ (n : ℕ). without_open_level (is_some (level_by_calls ds id past)) id (f.lanes n)) (sym here)
      ∙ sym (cond-true {A = List OpenLevel} (lane == before.id) _ _ (eq-eqb lane before.id here))
  | inr off ↦ put_off f.lanes before.id (without_open_level (is_some (f.spans id)) id (f.lanes before.id)) lane off ∙ sym (cond-false {A = List OpenLevel} (lane == before.id) _ _ (ne_eqb lane before.id off))
]
moved_after ds f past (OnClose id at) lane s = refl

stands_all : (ds : List Directive) (calls past : List Hook) (f : FilterState) → Stands ds f past → AreInOrder past calls → Stands ds (fold after_hook f calls) (past ++ calls)
stands_all ds [] past f s order = subst (λ (cs : List Hook). Stands ds f cs) (sym (append-nil past)) s
stands_all ds (call ∷ calls) past f s order =
    subst (λ (cs : List Hook). Stands ds (fold after_hook (after_hook f call) calls) cs) (append_assoc past (call ∷ []) calls) (stands_all ds calls (past ++ call ∷ []) (after_hook f call) (stands_after ds f past call s order.0) order.1)

levels_all : (ds : List Directive) (calls past : List Hook) (f : FilterState) (lane : ℕ) → Stands ds f past → AreInOrder past calls → (fold after_hook f calls).lanes lane ≡ levels_from ds lane past calls (f.lanes lane)
levels_all ds [] past f lane s order = refl
levels_all ds (call ∷ calls) past f lane s order =
    levels_all ds calls (past ++ call ∷ []) (after_hook f call) lane (stands_after ds f past call s order.0) order.1 ∙ ap (λ (es : List OpenLevel). levels_from ds lane (past ++ call ∷ []) calls es) (moved_after ds f past call lane s)

stands_fresh : (f : FilterState) → Stands f.dynamics.directives (fresh_filter f) []
stands_fresh f = record { dynamics = refl; spans = λ q. refl }

pub level_is_by_calls : (f : FilterState) (calls : List Hook) (q : ℕ) → AreInOrder [] calls → f ≡ fold after_hook (fresh_filter f) calls → span_level f q ≡ level_by_calls f.dynamics.directives q calls
level_is_by_calls f calls q order is =
    ap (λ (g : FilterState). span_level g q) is ∙ told_level f.dynamics.directives (fold after_hook (fresh_filter f) calls) calls q (stands_all f.dynamics.directives calls [] (fresh_filter f) (stands_fresh f) order)

pub levels_are_told : (f : FilterState) (calls : List Hook) (lane : ℕ) → AreInOrder [] calls → f ≡ fold after_hook (fresh_filter f) calls → f.lanes lane ≡ levels_by_calls f.dynamics.directives lane calls
levels_are_told f calls lane order is =
    ap (λ (g : FilterState). g.lanes lane) is ∙ levels_all f.dynamics.directives calls [] (fresh_filter f) lane (stands_fresh f) order
