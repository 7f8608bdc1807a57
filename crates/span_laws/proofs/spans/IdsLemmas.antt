-- The ids of spans and of records.
use Rattle.span_laws.proofs.Common.{Context, EachRecord, History, IsHistory, List, None, Option, Record, Setup, Some, SpanContext, [], ap, arith, cases_Bool, cases_eq, cases_lt, cond-false, cond-true, data_at, flat_map, fold, id_in_data, id_of, ids_or_zeros, inl, inr, is_in, is_open, length, map, nat_tests, occurrences, place_from, place_in, range_with_len, records_of_history, refl, starting_order, starts_of, subst, sym, tables, true, with_started, ℕ, ◌++◌, ◌+◌, ◌<◌, ◌==◌, ◌∙◌, ◌∷◌, ◌≡◌, ◌≤◌}
use Rattle.std.proofs.lemmas.Bool.{eq-eqb, ne_eqb}
use Rattle.span_laws.proofs.records.HistoriesLemmas.{IsClosed, whole, closed_once}
use Rattle.span_laws.proofs.spans.OccurrencesLemmas.{occurs_cons, occurs_append, is_in_counted}
use Rattle.span_laws.proofs.records.PairsLemmas.{each_equal}
use Rattle.span_laws.proofs.spans.PlacesLemmas.{one_place}
use Rattle.span_laws.proofs.records.StoriesLemmas.{HasId}

-- ---- the order of starts

once_more : (order : List ℕ) (x s : ℕ) → occurrences s order ≤ 1 → occurrences s (with_started order x) ≤ 1
once_more order x s once = elim (cases_Bool (is_in x order)) [
  | inl there ↦ subst (λ (o : List ℕ). occurrences s o ≤ 1) (sym (cond-true {A = List ℕ} (is_in x order) order (order ++ x ∷ []) there)) once
  | inr out ↦ subst (λ (o : List ℕ). occurrences s o ≤ 1) (sym (cond-false {A = List ℕ} (is_in x order) order (order ++ x ∷ []) out)) (
      let all = occurs_append s order (x ∷ []) in
      let new = occurs_cons s x [] in
      let counted = is_in_counted x order in
      elim (cases_eq x s) [
        | inl same ↦ (let none : occurrences s order ≡ 0 = subst (λ (y : ℕ). occurrences y order ≡ 0) same (grind (arith, nat_tests, counted, out)) in grind (arith, nat_tests, all, new, none, same))
        | inr other ↦ grind (arith, nat_tests, all, new, once, other)
      ])
]

once_all : (order xs : List ℕ) (s : ℕ) → occurrences s order ≤ 1 → occurrences s (fold with_started order xs) ≤ 1
once_all order [] s once = once
once_all order (x ∷ xs) s once = once_all (with_started order x) xs s (once_more order x s once)

pub started_once : (h : History) (s : ℕ) → occurrences s (starting_order h) ≤ 1
started_once h s = once_all [] (flat_map starts_of h) s (omega arith)

map_alike : {B : Type 0} (f g : ℕ → B) (xs : List ℕ) → ((y : ℕ) → 0 < occurrences y xs → f y ≡ g y) → map f xs ≡ map g xs
map_alike f g [] same = refl
map_alike {B} f g (x ∷ xs) same =
    let here : 0 < occurrences x (x ∷ xs) = (let c = occurs_cons x x xs in grind (arith, nat_tests, c)) in
    ap (λ (y : B). y ∷ map f xs) (same x here) ∙ ap (λ (ys : List B). g x ∷ ys) (map_alike f g xs (λ y some. same y (let c = occurs_cons y x xs in omega (arith, c, some))))

places_from : (n : ℕ) (order : List ℕ) → ((s : ℕ) → occurrences s order ≤ 1) → map (place_from n order) order ≡ range_with_len n (length order)
places_from n [] once = refl
places_from n (x ∷ order) once =
    ap (λ (p : ℕ). p ∷ map (place_from n (x ∷ order)) order) (cond-true {A = ℕ} (x == x) n (place_from (n + 1) order x) (eq-eqb x x refl))
    ∙ ap (λ (ps : List ℕ). n ∷ ps) (map_alike (place_from n (x ∷ order)) (place_from (n + 1) order) order (λ y some. cond-false {A = ℕ} (x == y) n (place_from (n + 1) order y) (ne_eqb x y (λ e. absurd (twice y some e))))
    ∙ places_from (n + 1) order (λ s. (let c = occurs_cons s x order in let o = once s in omega (arith, c, o))))
  where
    twice : (y : ℕ) → 0 < occurrences y order → x ≡ y → ⊥
    twice y some e = let c = occurs_cons y x order in let o = once y in absurd (grind (arith, nat_tests, c, o, some, e))

pub from_one : (h : History) → map (place_in (starting_order h)) (starting_order h) ≡ range_with_len 1 (length (starting_order h))
from_one h = places_from 1 (starting_order h) (started_once h)

-- ---- the ids of a history

told_by : (own : Option SpanContext) (place : ℕ) (parent : Context) → HasId own place parent → (ids_or_zeros own).span ≡ place
told_by None place parent is = sym is
told_by (Some own) place parent is = ap (λ (c : SpanContext). c.span) is.0

pub of_open : (setup : Setup) (h : History) (s : ℕ) → IsHistory setup h → is_open (tables setup h).handles s ≡ true → id_in_data (data_at s (tables setup h).recording.spans) ≡ place_in (starting_order h) s
of_open setup h s legal held =
    let story = (whole setup h legal).stories.each s held in
    ap id_in_data story.is ∙ told_by story.told.own (place_in (starting_order h) s) story.told.parent story.has_id

pub of_records : (setup : Setup) (h : History) → IsHistory setup h → map id_of (records_of_history setup h) ≡ map (place_in (starting_order h)) (tables setup h).closed
of_records setup h legal = let t = tables setup h in each_equal (IsClosed setup t.spans h) id_of (place_in (starting_order h)) (λ s r c. ap (λ (own : SpanContext). own.span) c.ends.own) t.closed (records_of_history setup h) (whole setup h legal).each

each_placed : (P : ℕ → Record → Type 0) (g : ℕ → ℕ) → ((s : ℕ) (r : Record) → P s r → 0 < g s) → (xs : List ℕ) (rs : List Record) → EachRecord P xs rs → (s : ℕ) → 0 < occurrences s xs → 0 < g s
each_placed P g some [] [] each s there = absurd (omega (arith, there))
each_placed P g some [] (r ∷ rs) each s there = absurd each
each_placed P g some (x ∷ xs) [] each s there = absurd each
each_placed P g some (x ∷ xs) (r ∷ rs) each s there =
    let c = occurs_cons s x xs in
    elim (cases_eq x s) [
      | inl same ↦ subst (λ (y : ℕ). 0 < g y) same (some x r each.0)
      | inr other ↦ each_placed P g some xs rs each.1 s (grind (arith, nat_tests, c, other, there))
    ]

-- what a map gives is given by something
given : (f : ℕ → ℕ) (xs : List ℕ) (id : ℕ) → 0 < occurrences id (map f xs) → (y : ℕ) × (0 < occurrences y xs) × (f y ≡ id)
given f [] id some = absurd (omega (arith, some))
given f (x ∷ xs) id some =
    let all = occurs_cons id (f x) (map f xs) in
    let here = occurs_cons x x xs in
    elim (cases_eq (f x) id) [
      | inl same ↦ (x, grind (arith, nat_tests, here), same)
      | inr other ↦ (
          let rest = given f xs id (grind (arith, nat_tests, all, other, some)) in
          let more = occurs_cons rest.0 x xs in
          let there = rest.1 in
          (rest.0, omega (arith, more, there), rest.2))
    ]

mapped_once : (f : ℕ → ℕ) (xs : List ℕ) (id : ℕ) → ((s : ℕ) → occurrences s xs ≤ 1) → ((s q : ℕ) → 0 < occurrences s xs → f s ≡ f q → s ≡ q) → occurrences id (map f xs) ≤ 1
mapped_once f [] id once apart = omega arith
mapped_once f (x ∷ xs) id once apart =
    let all = occurs_cons id (f x) (map f xs) in
    let rest = mapped_once f xs id (λ s. (let c = occurs_cons s x xs in let o = once s in omega (arith, c, o))) (λ s q some. apart s q (let c = occurs_cons s x xs in omega (arith, c, some))) in
    elim (cases_eq (f x) id) [
      | inr other ↦ grind (arith, nat_tests, all, rest, other)
      | inl same ↦ elim (cases_lt 0 (occurrences id (map f xs))) [
        | inr none ↦ grind (arith, nat_tests, all, none, same)
        | inl some ↦ absurd (
            let twin = given f xs id some in
            let here = occurs_cons x x xs in
            let is : x ≡ twin.0 = apart x twin.0 (grind (arith, nat_tests, here)) (same ∙ sym twin.2) in
            let there : 0 < occurrences x xs = subst (λ (y : ℕ). 0 < occurrences y xs) (sym is) twin.1 in
            let o = once x in
            grind (arith, nat_tests, here, there, o))
      ]
    ]

pub no_two_alike : (setup : Setup) (h : History) (id : ℕ) → IsHistory setup h → occurrences id (map id_of (records_of_history setup h)) ≤ 1
no_two_alike setup h id legal =
    let t = tables setup h in
    subst (λ (ids : List ℕ). occurrences id ids ≤ 1) (sym (of_records setup h legal))
    (mapped_once (place_in (starting_order h)) t.closed id (λ s. closed_once setup h s legal) (λ s q there same. one_place 1 (starting_order h) s q (omega arith) same
    (each_placed (IsClosed setup t.spans h) (place_in (starting_order h)) (λ s r c. c.ends.started) t.closed (records_of_history setup h) (whole setup h legal).each s there)))

pub none_zero : (setup : Setup) (h : History) → IsHistory setup h → occurrences 0 (map id_of (records_of_history setup h)) ≡ 0
none_zero setup h legal =
    let t = tables setup h in
    subst (λ (ids : List ℕ). occurrences 0 ids ≡ 0) (sym (of_records setup h legal)) (elim (cases_lt 0 (occurrences 0 (map (place_in (starting_order h)) t.closed))) [
      | inr none ↦ omega (arith, none)
      | inl some ↦ absurd (
          let it = given (place_in (starting_order h)) t.closed 0 some in
          let placed = each_placed (IsClosed setup t.spans h) (place_in (starting_order h)) (λ s r c. c.ends.started) t.closed (records_of_history setup h) (whole setup h legal).each it.0 it.1 in
          let is = it.2 in
          omega (arith, placed, is))
    ])
