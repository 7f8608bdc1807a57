-- Holds and first entries of a span move together.
use Rattle.std.proofs.Common.{◌≡◌, ℕ, ◌+◌, List, [], ◌∷◌, ◌++◌, false, cond, refl, sym, ap, subst, ◌∙◌, arith, inl, inr}
use Rattle.std.specs.Prelude.{◌==◌}
use Rattle.std.proofs.lemmas.Bool.{eqb-true, eqb-false, eq-eqb, ne_eqb, cases_eq, cases_Bool, cond-true, cond-false}
use Rattle.trace_base.specs.Spans.{Span, Spans, span_at, entries_on, is_in, times_in, entered_lane_count, without_last, with_hold, span_without_hold, without_hold}
use Rattle.trace_base.specs.Calls.{with_span_entry, with_span_exit}
use Rattle.trace_base.specs.Conditions.{IsLive, MayExit}
use Rattle.trace_base.proofs.EntryLemmas.{counted_if_any, any_if_counted, made_if_held}
use Rattle.trace_base.proofs.HoldLemmas.{less_holds, holds_set, holds_other, first_with, in_push_other, in_push_same, in_by_times, times_without}

-- holds and first entries of a span move together at an entry and at an exit
pub entry_moves : (x : Spans) (id lane q : ℕ) → IsLive x.made id → (span_at (with_span_entry x id lane).made q).holds + entered_lane_count x.lanes q ≡ (span_at x.made q).holds + entered_lane_count (with_span_entry x id lane).lanes q
entry_moves x id lane q live =
    let ids = entries_on lane x.lanes in
    let first = first_with x.lanes lane q (ids ++ id ∷ []) in
    let P : List Span → Type 0 = λ made. (span_at made q).holds + entered_lane_count x.lanes q ≡ (span_at x.made q).holds + entered_lane_count (with_span_entry x id lane).lanes q in
    let within = made_if_held x.made id live in
    let now : Span = record (span_at x.made id) { holds = (span_at x.made id).holds + 1 } in
    elim (cases_Bool (is_in id ids)) [
      | inl again ↦ subst P (sym (cond-true {A = List Span} (is_in id ids) x.made (with_hold x.made id) again)) (
          let stays : is_in q (ids ++ id ∷ []) ≡ is_in q ids = elim (cases_eq q id) [
            | inl here ↦ ap (λ (k : ℕ). is_in k (ids ++ id ∷ [])) here ∙ in_push_same ids id ∙ sym again ∙ ap (λ (k : ℕ). is_in k ids) (sym here)
            | inr other ↦ in_push_other ids id q other
          ] in
          let e = ap (λ b. cond {A = ℕ} b 1 0) stays in
          omega (arith, first, e))
      | inr new ↦ subst P (sym (cond-false {A = List Span} (is_in id ids) x.made (with_hold x.made id) new)) (elim (cases_eq q id) [
        | inl here ↦ (
            let a = cond-true {A = ℕ} (is_in q (ids ++ id ∷ [])) 1 0 (ap (λ (k : ℕ). is_in k (ids ++ id ∷ [])) here ∙ in_push_same ids id) in
            let b = cond-false {A = ℕ} (is_in q ids) 1 0 (ap (λ (k : ℕ). is_in k ids) here ∙ new) in
            let h = holds_set x.made id now within q here in
            let w = ap (λ (k : ℕ). (span_at x.made k).holds) here in
            omega (arith, first, a, b, h, w))
        | inr other ↦ (
            let e = ap (λ b. cond {A = ℕ} b 1 0) (in_push_other ids id q other) in
            let h = holds_other x.made id now q other in
            omega (arith, first, e, h))
      ])
    ]

pub exit_moves : (x : Spans) (id lane q : ℕ) → IsLive x.made id → MayExit x id lane → (span_at (with_span_exit x id lane).made q).holds + entered_lane_count x.lanes q ≡ (span_at x.made q).holds + entered_lane_count (with_span_exit x id lane).lanes q
exit_moves x id lane q live may =
    let ids = entries_on lane x.lanes in
    let rest = without_last (λ x. x == id) ids in
    let first = first_with x.lanes lane q rest in
    let P : List Span → Type 0 = λ made. (span_at made q).holds + entered_lane_count x.lanes q ≡ (span_at x.made q).holds + entered_lane_count (with_span_exit x id lane).lanes q in
    let within = made_if_held x.made id live in
    let now : Span = span_without_hold (span_at x.made id) in
    let fewer = less_holds (span_at x.made id) in
    let itself = times_without ids id id may.0 in
    let counts = cond-true {A = ℕ} (id == id) 1 0 (eq-eqb id id refl) in
    let there = any_if_counted (λ x. x == id) ids may.0 in
    let others : (q ≡ id → ⊥) → is_in q rest ≡ is_in q ids = λ other. (
    let t = times_without ids id q may.0 in
    let z = cond-false {A = ℕ} (id == q) 1 0 (ne_eqb id q (λ e. other (sym e))) in
    in_by_times rest ids q (omega (arith, t, z))) in
    elim (cases_Bool (times_in id ids == 1)) [
      | inl last ↦ subst P (sym (cond-true {A = List Span} (times_in id ids == 1) (without_hold x.made id) x.made last)) (
          let only = eqb-true (times_in id ids) 1 last in
          let gone : is_in id rest ≡ false = elim (cases_Bool (is_in id rest)) [
            | inl some ↦ absurd (let c = counted_if_any (λ x. x == id) rest some in omega (arith, c, itself, counts, only))
            | inr not ↦ not
          ] in
          elim (cases_eq q id) [
            | inl here ↦ (
                let a = cond-false {A = ℕ} (is_in q rest) 1 0 (ap (λ (k : ℕ). is_in k rest) here ∙ gone) in
                let b = cond-true {A = ℕ} (is_in q ids) 1 0 (ap (λ (k : ℕ). is_in k ids) here ∙ there) in
                let h = holds_set x.made id now within q here in
                let w = ap (λ (k : ℕ). (span_at x.made k).holds) here in
                omega (arith, first, a, b, h, w, fewer, live))
            | inr other ↦ (
                let e = ap (λ b. cond {A = ℕ} b 1 0) (others other) in
                let h = holds_other x.made id now q other in
                omega (arith, first, e, h))
          ])
      | inr again ↦ subst P (sym (cond-false {A = List Span} (times_in id ids == 1) (without_hold x.made id) x.made again)) (
          let several = eqb-false (times_in id ids) 1 again in
          let stays : is_in q rest ≡ is_in q ids = elim (cases_eq q id) [
            | inl here ↦ ap (λ (k : ℕ). is_in k rest) here ∙ any_if_counted (λ x. x == id) rest (omega (arith, itself, counts, several, may.0)) ∙ sym there ∙ ap (λ (k : ℕ). is_in k ids) (sym here)
            | inr other ↦ others other
          ] in
          let e = ap (λ b. cond {A = ℕ} b 1 0) stays in
          omega (arith, first, e))
    ]
