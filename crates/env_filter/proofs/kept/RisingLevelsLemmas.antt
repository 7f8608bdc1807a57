-- A span's level never falls, and stays until the span closes.
use Rattle.std.proofs.Common.{◌≡◌, ℕ, List, [], ◌∷◌, ◌++◌, Bool, true, false, Option, Some, None, refl, sym, ap, subst, ◌∙◌, arith, inl, inr, ◌||◌, if◌then◌else◌, is_some}
use Rattle.env_filter.proofs.Common.{list_all, cases_Bool, and_parts, and_from, list_any-append, Callsite, Value, LevelFilter, OFF, Hook, Directive, more_verbose, Ask, Care, is_given, cares_of, IsAtMostLevel, first_below, second_below, values_given_by, callsite_if_made, callsite_by_calls, all_values_given, is_ended, is_close_of, greatest_from, is_met, level_by, level_if, level_by_calls, NeverFalls}
use Rattle.std.specs.List.{filter}
use Rattle.std.proofs.lemmas.Grind.{flat_map-append}
use Rattle.env_filter.specs.laws.HookLemmas.{more_below}
use Rattle.env_filter.proofs.kept.ToldLevelsLemmas.{filter_step, given_append}

stays_given : (xs ys : List (ℕ × Value)) (ask : Ask) → is_given xs ask ≡ true → is_given (xs ++ ys) ask ≡ true
stays_given xs ys ask is = given_append xs ys ask ∙ ap (λ (b : Bool). b || is_given ys ask) is

all_stay : (xs ys : List (ℕ × Value)) (asks : List Ask) → list_all (is_given xs) asks ≡ true → list_all (is_given (xs ++ ys)) asks ≡ true
all_stay xs ys [] is = refl
all_stay xs ys (ask ∷ asks) is = let parts = and_parts (is_given xs ask) (list_all (is_given xs) asks) is in and_from (is_given (xs ++ ys) ask) (list_all (is_given (xs ++ ys)) asks) (stays_given xs ys ask parts.0) (all_stay xs ys asks parts.1)

most_rises : (p q : Care → Bool) → ((care : Care) → p care ≡ true → q care ≡ true) → (cares : List Care) (one other : LevelFilter) → IsAtMostLevel other one → IsAtMostLevel (greatest_from other (filter q cares)) (greatest_from one (filter p cares))
most_rises p q more [] one other is = is
most_rises p q more (care ∷ cares) one other is =
    let next : (b : Bool) (l : LevelFilter) → LevelFilter = λ b l. if b then more_verbose l care.level else l in
    let step : IsAtMostLevel (next (q care) other) (next (p care) one) = elim (cases_Bool (p care)) [
      | inl met ↦ subst (λ (b : Bool). IsAtMostLevel (next (q care) other) (next b one)) (sym met) (subst (λ (b : Bool). IsAtMostLevel (next b other) (more_verbose one care.level)) (sym (more care met))
          (more_below (more_verbose other care.level) one care.level (let e = first_below other care.level in omega (arith, e, is)) (second_below other care.level)))
      | inr unmet ↦ subst (λ (b : Bool). IsAtMostLevel (next (q care) other) (next b one)) (sym unmet) (elim (cases_Bool (q care)) [
        | inl later ↦ subst (λ (b : Bool). IsAtMostLevel (next b other) one) (sym later) (let e = first_below other care.level in omega (arith, e, is))
        | inr never ↦ subst (λ (b : Bool). IsAtMostLevel (next b other) one) (sym never) is
      ])
    ] in
    subst (λ (l : LevelFilter). IsAtMostLevel (greatest_from other (filter q (care ∷ cares))) l) (sym (filter_step p one care cares))
    (subst (λ (l : LevelFilter). IsAtMostLevel l (greatest_from (next (p care) one) (filter p cares))) (sym (filter_step q other care cares)) (most_rises p q more cares (next (p care) one) (next (q care) other) step))

by_rises : (xs ys : List (ℕ × Value)) (cares : List Care) (l m : LevelFilter) → level_by xs cares ≡ Some l → level_by (xs ++ ys) cares ≡ Some m → IsAtMostLevel m l
by_rises xs ys [] l m is later = absurd (cc is)
by_rises xs ys (care ∷ cares) l m is later =
    let rises = most_rises (is_met xs) (is_met (xs ++ ys)) (λ c met. all_stay xs ys c.asks met) (care ∷ cares) OFF OFF (omega arith) in
    let a : greatest_from OFF (filter (is_met xs) (care ∷ cares)) ≡ l = cc is in
    let b : greatest_from OFF (filter (is_met (xs ++ ys)) (care ∷ cares)) ≡ m = cc later in
    subst (λ (k : LevelFilter). IsAtMostLevel k l) b (subst (λ (k : LevelFilter). IsAtMostLevel (greatest_from OFF (filter (is_met (xs ++ ys)) (care ∷ cares))) k) a rises)

-- the making stays
made_stays : (q : ℕ) (past calls : List Hook) (c : Callsite) → callsite_by_calls q past ≡ Some c → callsite_by_calls q (past ++ calls) ≡ Some c
made_stays q [] calls c is = absurd (cc is)
made_stays q (first ∷ past) calls c is = by_first (callsite_if_made q first) (made_stays q past calls c) is
  where
    by_first : (o : Option Callsite) → (callsite_by_calls q past ≡ Some c → callsite_by_calls q (past ++ calls) ≡ Some c) → (if is_some o then o else callsite_by_calls q past) ≡ Some c → (if is_some o then o else callsite_by_calls q (past ++ calls)) ≡ Some c
    by_first None later is = later is
    by_first (Some d) later is = is

-- a level after some calls, and after more of them
module _ (ds : List Directive) where
  abbrev if_open : Bool → Option Callsite → List (ℕ × Value) → Option LevelFilter
  if_open ended made values = if ended then None else level_if ds made values

  if_rises : (ended ending : Bool) (made later : Option Callsite) (xs ys : List (ℕ × Value)) (l m : LevelFilter) → ((c : Callsite) → made ≡ Some c → later ≡ Some c) → if_open ended made xs ≡ Some l
      → if_open (ended || ending) later (xs ++ ys) ≡ Some m → IsAtMostLevel m l
  if_rises true ending made later xs ys l m stays is now = absurd (cc is)
  if_rises false true made later xs ys l m stays is now = absurd (cc now)
  if_rises false false None later xs ys l m stays is now = absurd (cc is)
  if_rises false false (Some c) later xs ys l m stays is now = by_rises xs ys (cares_of c ds) l m is (ap (λ (o : Option Callsite). level_if ds o (xs ++ ys)) (sym (stays c refl)) ∙ now)

  some_level : (xs ys : List (ℕ × Value)) (cares : List Care) → is_some (level_by xs cares) ≡ true → is_some (level_by ys cares) ≡ true
  some_level xs ys [] is = is
  some_level xs ys (care ∷ cares) is = refl

  if_stays : (ended ending : Bool) (made later : Option Callsite) (xs ys : List (ℕ × Value)) → ((c : Callsite) → made ≡ Some c → later ≡ Some c) → is_some (if_open ended made xs) ≡ true → ending ≡ false
      → is_some (if_open (ended || ending) later (xs ++ ys)) ≡ true
  if_stays true ending made later xs ys stays is going = absurd (cc is)
  if_stays false true made later xs ys stays is going = absurd (cc going)
  if_stays false false None later xs ys stays is going = absurd (cc is)
  if_stays false false (Some c) later xs ys stays is going = ap (λ (o : Option Callsite). is_some (level_if ds o (xs ++ ys))) (stays c refl) ∙ some_level xs (xs ++ ys) (cares_of c ds) is

  told_more : (q : ℕ) (past calls : List Hook) → level_by_calls ds q (past ++ calls) ≡ if_open (is_ended q past || is_ended q calls) (callsite_by_calls q (past ++ calls)) (all_values_given q past ++ all_values_given q calls)
  told_more q past calls =
      ap (λ (b : Bool). if_open b (callsite_by_calls q (past ++ calls)) (all_values_given q (past ++ calls))) (list_any-append (is_close_of q) past calls)
      ∙ ap (λ (vs : List (ℕ × Value)). if_open (is_ended q past || is_ended q calls) (callsite_by_calls q (past ++ calls)) vs) (flat_map-append (values_given_by q) past calls)

  pub level_rises : (q : ℕ) (past calls : List Hook) → NeverFalls (level_by_calls ds q past) (level_by_calls ds q (past ++ calls))
  level_rises q past calls l m is later =
      if_rises (is_ended q past) (is_ended q calls) (callsite_by_calls q past) (callsite_by_calls q (past ++ calls)) (all_values_given q past) (all_values_given q calls) l m (made_stays q past calls) is (sym (told_more q past calls) ∙ later)

  pub level_stays : (q : ℕ) (past calls : List Hook) → is_some (level_by_calls ds q past) ≡ true → is_ended q calls ≡ false → is_some (level_by_calls ds q (past ++ calls)) ≡ true
  level_stays q past calls is going =
      ap (λ (o : Option LevelFilter). is_some o) (told_more q past calls)
      ∙ if_stays (is_ended q past) (is_ended q calls) (callsite_by_calls q past) (callsite_by_calls q (past ++ calls)) (all_values_given q past) (all_values_given q calls) (made_stays q past calls) is going
