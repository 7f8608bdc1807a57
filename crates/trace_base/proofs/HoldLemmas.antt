-- Holds, entries and children after one change of the spans.
use Rattle.std.proofs.Common.{◌≡◌, ℕ, ◌+◌, ◌-◌, ◌<◌, List, [], ◌∷◌, ◌++◌, length, Bool, true, false, cond, set, Option, Some, None, refl, sym, ap, ◌∙◌, arith, inl, inr, ◌⊎◌}
use Rattle.std.specs.Prelude.{if◌then◌else◌, ◌==◌, ◌||◌}
use Rattle.std.proofs.lemmas.Bool.{eqb-true, eq-eqb, ne_eqb, cases_eq, cases_Bool, cond-true, cond-false, or_right, true≢false}
use Rattle.std.proofs.lemmas.List.{get_or-set_same, get_or-set_other}
use Rattle.std.proofs.lemmas.List.Folds.{list_any-append}
use Rattle.std.proofs.lemmas.List.Sums.{sum_by-set}
use Rattle.trace_base.specs.Spans.{Span, Entries, no_span, span_at, entries_on, with_entries, is_in, times_in, entered_lane_count, has_entry, is_child_of, is_open_child, open_child_count, without_last, span_without_hold, current_from}
use Rattle.trace_base.proofs.EntryLemmas.{count_cons, counted_if_any, any_if_counted, none_counted, count_without_last, sum_with}

-- a span written
pub children_set : (made : List Span) (id : ℕ) (now : Span) (q : ℕ) → id < length made → open_child_count (set made id now) q + cond {A = ℕ} (is_open_child q (span_at made id)) 1 0 ≡ open_child_count made q + cond {A = ℕ} (is_open_child q now) 1 0
children_set made id now q within = sum_by-set (λ s. cond (is_open_child q s) 1 0) made id now no_span within

pub same_child : (s t : Span) (q : ℕ) → t.parent ≡ s.parent → 0 < s.holds → 0 < t.holds → is_open_child q t ≡ is_open_child q s
same_child s t q parent live now =
    cond-false {A = Bool} (0 == t.holds) false (is_child_of q t.parent) (ne_eqb 0 t.holds (λ e. omega (arith, e, now)))
    ∙ ap (is_child_of q) parent
    ∙ sym (cond-false {A = Bool} (0 == s.holds) false (is_child_of q s.parent) (ne_eqb 0 s.holds (λ e. omega (arith, e, live))))

pub keeps_children : (made : List Span) (id : ℕ) (now : Span) → id < length made → now.parent ≡ (span_at made id).parent → 0 < (span_at made id).holds → 0 < now.holds → (q : ℕ) → open_child_count (set made id now) q ≡ open_child_count made q
keeps_children made id now within parent live still q =
    let write = children_set made id now q within in
    let same = ap (λ b. cond {A = ℕ} b 1 0) (same_child (span_at made id) now q parent live still) in
    omega (arith, write, same)

-- a span with one hold less
pub less_last : (s : Span) → s.holds ≡ 1 → span_without_hold s ≡ no_span
less_last s last = cond-true {A = Span} (s.holds == 1) no_span (record s { holds = s.holds - 1 }) (eq-eqb s.holds 1 last)

pub less_more : (s : Span) → (s.holds ≡ 1 → ⊥) → span_without_hold s ≡ record s { holds = s.holds - 1 }
less_more s more = cond-false {A = Span} (s.holds == 1) no_span (record s { holds = s.holds - 1 }) (ne_eqb s.holds 1 more)

pub less_holds : (s : Span) → (span_without_hold s).holds ≡ s.holds - 1
less_holds s = elim (cases_eq s.holds 1) [
  | inl last ↦ (let e = ap (λ (t : Span). t.holds) (less_last s last) in omega (arith, e, last))
  | inr more ↦ ap (λ (t : Span). t.holds) (less_more s more)
]

pub less_under : (s : Span) (p : ℕ) → (span_without_hold s).parent ≡ Some p → s.parent ≡ Some p
less_under s p is = elim (cases_eq s.holds 1) [
  | inl last ↦ (let no : None ≡ Some p = sym (ap (λ (t : Span). t.parent) (less_last s last)) ∙ is in absurd (cc no))
  | inr more ↦ sym (ap (λ (t : Span). t.parent) (less_more s more)) ∙ is
]

pub holds_set : (made : List Span) (id : ℕ) (now : Span) → id < length made → (q : ℕ) → q ≡ id → (span_at (set made id now) q).holds ≡ now.holds
holds_set made id now within q here = ap (λ (k : ℕ). (span_at (set made id now) k).holds) here ∙ ap (λ (s : Span). s.holds) (get_or-set_same made id now no_span within)

pub holds_other : (made : List Span) (id : ℕ) (now : Span) (q : ℕ) → (q ≡ id → ⊥) → (span_at (set made id now) q).holds ≡ (span_at made q).holds
holds_other made id now q other = ap (λ (s : Span). s.holds) (get_or-set_other made id q now no_span other)

-- first entries after the entries of a lane change
pub first_with : (lanes : List Entries) (lane q : ℕ) (ids : List ℕ) → entered_lane_count (with_entries lane ids lanes) q + cond {A = ℕ} (is_in q (entries_on lane lanes)) 1 0 ≡ entered_lane_count lanes q + cond {A = ℕ} (is_in q ids) 1 0
first_with lanes lane q ids = sum_with (λ xs. cond (is_in q xs) 1 0) lane ids lanes refl

pub in_push : (ids : List ℕ) (id q : ℕ) → is_in q (ids ++ id ∷ []) ≡ (is_in q ids || (id == q || false))
in_push ids id q = list_any-append (λ x. x == q) ids (id ∷ [])

pub in_push_other : (ids : List ℕ) (id q : ℕ) → (q ≡ id → ⊥) → is_in q (ids ++ id ∷ []) ≡ is_in q ids
in_push_other ids id q other =
    in_push ids id q ∙ ap (λ b. is_in q ids || (b || false)) (ne_eqb id q (λ e. other (sym e))) ∙ elim (cases_Bool (is_in q ids)) [ inl t ↦ ap (λ b. b || false) t ∙ sym t | inr f ↦ ap (λ b. b || false) f ∙ sym f ]

pub in_push_same : (ids : List ℕ) (id : ℕ) → is_in id (ids ++ id ∷ []) ≡ true
in_push_same ids id = in_push ids id id ∙ ap (λ b. is_in id ids || (b || false)) (eq-eqb id id refl) ∙ or_right (is_in id ids) true refl

-- whether a span is among some entries, by how often
pub in_by_times : (xs ys : List ℕ) (q : ℕ) → times_in q xs ≡ times_in q ys → is_in q xs ≡ is_in q ys
in_by_times xs ys q e = elim (cases_Bool (is_in q xs)) [
  | inl some ↦ some ∙ sym (any_if_counted (λ x. x == q) ys (let c = counted_if_any (λ x. x == q) xs some in omega (arith, c, e)))
  | inr none ↦ none ∙ sym (elim (cases_Bool (is_in q ys)) [
    | inl some ↦ absurd (let c = counted_if_any (λ x. x == q) ys some in let d = none_counted (λ x. x == q) xs none in omega (arith, c, d, e))
    | inr not ↦ not
  ])
]

pub times_without : (xs : List ℕ) (id q : ℕ) → 0 < times_in id xs → times_in q (without_last (λ x. x == id) xs) + cond {A = ℕ} (id == q) 1 0 ≡ times_in q xs
times_without xs id q some = count_without_last (λ x. x == id) (λ x. x == q) (id == q) xs (λ x is. ap (λ (y : ℕ). y == q) (eqb-true x id is)) (any_if_counted (λ x. x == id) xs some)

-- the current span is entered, and what is entered has a first entry
pub current_in : (before : List ℕ) (now : Option ℕ) (ids : List ℕ) (p : ℕ) → current_from before now ids ≡ Some p → (now ≡ Some p) ⊎ (is_in p ids ≡ true)
current_in before now [] p is = inl is
current_in before now (s ∷ ids) p is =
    let next = if is_in s before then now else Some s in
    elim (current_in (before ++ s ∷ []) next ids p is) [
      | inl here ↦ elim (cases_Bool (is_in s before)) [
        | inl again ↦ inl (sym (cond-true {A = Option ℕ} (is_in s before) now (Some s) again) ∙ here)
        | inr new ↦ (
            let e : Some s ≡ Some p = sym (cond-false {A = Option ℕ} (is_in s before) now (Some s) new) ∙ here in
            inr (ap (λ b. b || is_in p ids) (eq-eqb s p (cc e))))
      ]
      | inr later ↦ inr (elim (cases_Bool (s == p)) [
        | inl here ↦ ap (λ b. b || is_in p ids) here
        | inr not ↦ ap (λ b. b || is_in p ids) not ∙ later
      ])
    ]

pub first_if_in : (es : List Entries) (lane id : ℕ) → is_in id (entries_on lane es) ≡ true → 0 < entered_lane_count es id
first_if_in [] lane id some = absurd (true≢false (sym some))
first_if_in (e ∷ es) lane id some =
    let count = count_cons (has_entry id) e es in
    elim (cases_Bool (e.lane == lane)) [
      | inl here ↦ (
          let one = cond-true {A = ℕ} (has_entry id e) 1 0 (ap (is_in id) (sym (cond-true {A = List ℕ} (e.lane == lane) e.ids (entries_on lane es) here)) ∙ some) in
          omega (arith, count, one))
      | inr not ↦ (
          let rest = first_if_in es lane id (ap (is_in id) (sym (cond-false {A = List ℕ} (e.lane == lane) e.ids (entries_on lane es) not)) ∙ some) in
          omega (arith, count, rest))
    ]
