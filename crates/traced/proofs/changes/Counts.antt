-- How many spans and holds there are after a call.
use Rattle.std.proofs.Common.{◌≡◌, ℕ, ◌+◌, ◌≤◌, List, [], ◌∷◌, ◌++◌, length, set, Option, Some, None, refl, sym, ap, subst, arith, inl, inr, ◌==◌}
use Rattle.traced.proofs.Common.{cases_eq, cases_lt, cases_order, cases_Bool, cond-true, cond-false, length_push, get_or_past, get_or_push, get_or_append_left, Span, Spans, no_span, span_at, entries_on, is_in, times_in, parent_to_release, with_hold, without_hold, span_without_hold, with_hold_of_child, TryClose, spans_after_call, with_new_span, with_span_entry, with_span_exit, length_held, holds_set, holds_other, less_holds, ReleasesChain, all_released, releases, AreAtMost}
use Rattle.std.proofs.lemmas.List.{length-set}

pub more : (n m : ℕ) (x : Spans) → n ≤ m → AreAtMost n x → AreAtMost m x
more n m x within few = record { spans = omega (arith, within, few.spans); holds = λ id. (let h = few.holds id in omega (arith, h, within)) }

-- one span is written
written : (n : ℕ) (made : List Span) (id : ℕ) (now : Span) → now.holds ≤ n → ((q : ℕ) → (span_at made q).holds ≤ n) → (q : ℕ) → (span_at (set made id now) q).holds ≤ n
written n made id now most few q = elim (cases_eq q id) [
  | inl here ↦ elim (cases_lt id (length made)) [
    | inl within ↦ (let e = holds_set made id now within q here in omega (arith, e, most))
    | inr past ↦ (
        let long = length-set made id now in
        let e = ap (λ (s : Span). s.holds) (get_or_past (set made id now) q no_span (omega (arith, long, past, here))) in
        omega (arith, e))
  ]
  | inr other ↦ (let e = holds_other made id now q other in let h = few q in omega (arith, e, h))
]

with_held : (n : ℕ) (x : Spans) (id : ℕ) → AreAtMost n x → AreAtMost (n + 1) (record x { made = with_hold x.made id })
with_held n x id few =
    let now : Span = record (span_at x.made id) { holds = (span_at x.made id).holds + 1 } in
    record {
      spans = (let e = length-set x.made id now in omega (arith, e, few.spans));
      holds = written (n + 1) x.made id now (let h = few.holds id in omega (arith, h)) (λ q. (let h = few.holds q in omega (arith, h)));
    }

pub with_released : (n : ℕ) (x : Spans) (id : ℕ) → AreAtMost n x → AreAtMost n (record x { made = without_hold x.made id })
with_released n x id few =
    let now : Span = span_without_hold (span_at x.made id) in
    record {
      spans = (let e = length-set x.made id now in omega (arith, e, few.spans));
      holds = written n x.made id now (let e = less_holds (span_at x.made id) in let h = few.holds id in omega (arith, e, h)) few.holds;
    }

with_child : (n : ℕ) (x : Spans) (above : Option ℕ) → AreAtMost n x → AreAtMost (n + 1) (record x { made = with_hold_of_child x.made above })
with_child n x None few = more n (n + 1) x (omega arith) few
with_child n x (Some p) few = with_held n x p few

pub with_new : (n : ℕ) (x : Spans) (above : Option ℕ) (site : ℕ) → AreAtMost n x → AreAtMost (n + 1) (with_new_span x above site)
with_new n x above site few =
    let new : Span = record { holds = 1; parent = above; site = site } in
    let made = with_hold_of_child x.made above in
    let child = with_child n x above few in
    let long = length_push made new in
    record {
      spans = (let e = length_held x.made above in omega (arith, e, long, few.spans));
      holds = λ q. elim (cases_order q (length made)) [
        | inl here ↦ (let e = ap (λ (s : Span). s.holds) (get_or_push made new no_span q (sym here)) in omega (arith, e))
        | inr (inl below) ↦ (let e = ap (λ (s : Span). s.holds) (get_or_append_left made (new ∷ []) no_span q below) in let h = child.holds q in omega (arith, e, h))
        | inr (inr past) ↦ (let e = ap (λ (s : Span). s.holds) (get_or_past (made ++ new ∷ []) q no_span (omega (arith, long, past))) in omega (arith, e))
      ];
    }

pub with_entry : (n : ℕ) (x : Spans) (id lane : ℕ) → AreAtMost n x → AreAtMost (n + 1) (with_span_entry x id lane)
with_entry n x id lane few =
    let ids = entries_on lane x.lanes in
    let at_most : List Span → Type 0 = λ made. AreAtMost (n + 1) (record (with_span_entry x id lane) { made = made }) in
    elim (cases_Bool (is_in id ids)) [
      | inl again ↦ (let f = more n (n + 1) x (omega arith) few in subst at_most (sym (cond-true {A = List Span} (is_in id ids) x.made (with_hold x.made id) again)) (record { spans = f.spans; holds = f.holds }))
      | inr new ↦ (let f = with_held n x id few in subst at_most (sym (cond-false {A = List Span} (is_in id ids) x.made (with_hold x.made id) new)) (record { spans = f.spans; holds = f.holds }))
    ]

pub with_exit : (n : ℕ) (x : Spans) (id lane : ℕ) → AreAtMost n x → AreAtMost n (with_span_exit x id lane)
with_exit n x id lane few =
    let last = times_in id (entries_on lane x.lanes) == 1 in
    let at_most : List Span → Type 0 = λ made. AreAtMost n (record (with_span_exit x id lane) { made = made }) in
    elim (cases_Bool last) [
      | inl one ↦ (let f = with_released n x id few in subst at_most (sym (cond-true {A = List Span} last (without_hold x.made id) x.made one)) (record { spans = f.spans; holds = f.holds }))
      | inr many ↦ subst at_most (sym (cond-false {A = List Span} last (without_hold x.made id) x.made many)) (record { spans = few.spans; holds = few.holds })
    ]

-- a chain of closes leaves entries
pub with_closes : (n : ℕ) (next : Option ℕ) (x y : Spans) → ReleasesChain next x y → AreAtMost n x → AreAtMost n y × (y.lanes ≡ x.lanes)
with_closes n _ _ _ (all_released x) few = (few, refl)
with_closes n _ _ _ (releases id at x y own rest) few = with_closes n (parent_to_release x.made id) (spans_after_call x (TryClose id at)) y rest (with_released n x id few)
