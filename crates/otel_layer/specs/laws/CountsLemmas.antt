-- How counts go where the last that passes is taken off a list, and where a context is taken off a lane.
use Rattle.std.proofs.Common.{◌≡◌, ℕ, ◌+◌, ◌<◌, List, [], ◌∷◌, Bool, true, cond, count_by, Option, Some, None, sym, ap, ◌∙◌, arith, inl, inr}
use Rattle.std.specs.Prelude.{if◌then◌else◌, ◌==◌, ◌||◌, unwrap_or}
use Rattle.std.specs.List.{list_any}
use Rattle.std.proofs.lemmas.Bool.{cases_Bool, eqb-true, cond-true, cond-false}
use Rattle.otel_base.specs.declared.context.Context.{Context}
use Rattle.otel_base.specs.Stack.{has_number, without_number}
use Rattle.trace_base.specs.Spans.{without_last}
use Rattle.trace_base.specs.layers.Hooks.{one_if}
use Rattle.trace_base.proofs.EntryLemmas.{count_cons}
use Rattle.otel_state.specs.Stack.{last_passing}

none_isnt : {X : Type 0} (x : X) → (let o : Option X = None in o) ≡ Some x → ⊥
none_isnt x h = cc

module _ {X : Type 0} (p : X → Bool) where
  pub last_passes : (xs : List X) (x : X) → last_passing p xs ≡ Some x → p x ≡ true
  last_passes [] x h = absurd (cc)
  last_passes (y ∷ ys) x h =
      elim (cases_Bool (list_any p ys)) [
        | inl later ↦ last_passes ys x (sym (cond-true {A = Option X} (list_any p ys) (last_passing p ys) (if p y then Some y else None) later) ∙ h)
        | inr none ↦ (
            let h2 = sym (cond-false {A = Option X} (list_any p ys) (last_passing p ys) (if p y then Some y else None) none) ∙ h in
            elim (cases_Bool (p y)) [
              | inl here ↦ sym (ap (λ (o : Option X). p (unwrap_or o y)) (sym (cond-true {A = Option X} (p y) (Some y) None here) ∙ h2)) ∙ here
              | inr apart ↦ absurd (none_isnt x (sym (cond-false {A = Option X} (p y) (Some y) None apart) ∙ h2))
            ])
      ]

  pub last_counted : (q : X → Bool) (xs : List X) (x : X) → last_passing p xs ≡ Some x → count_by q (without_last p xs) + cond {A = ℕ} (q x) 1 0 ≡ count_by q xs
  last_counted q [] x h = absurd (cc)
  last_counted q (y ∷ ys) x h =
      let all = count_cons q y ys in
      elim (cases_Bool (list_any p ys)) [
        | inl later ↦ (
            let left = ap (λ (zs : List X). count_by q zs) (cond-true {A = List X} (list_any p ys) (y ∷ without_last p ys) (if p y then ys else y ∷ ys) later) ∙ count_cons q y (without_last p ys) in
            let rest = last_counted q ys x (sym (cond-true {A = Option X} (list_any p ys) (last_passing p ys) (if p y then Some y else None) later) ∙ h) in
            omega (arith, all, left, rest))
        | inr none ↦ (
            let h2 = sym (cond-false {A = Option X} (list_any p ys) (last_passing p ys) (if p y then Some y else None) none) ∙ h in
            let left = ap (λ (zs : List X). count_by q zs) (cond-false {A = List X} (list_any p ys) (y ∷ without_last p ys) (if p y then ys else y ∷ ys) none) in
            elim (cases_Bool (p y)) [
              | inl here ↦ (
                  let gone = left ∙ ap (λ (zs : List X). count_by q zs) (cond-true {A = List X} (p y) ys (y ∷ ys) here) in
                  let is = ap (λ (o : Option X). cond {A = ℕ} (q (unwrap_or o y)) 1 0) (sym (cond-true {A = Option X} (p y) (Some y) None here) ∙ h2) in
                  omega (arith, all, gone, is))
              | inr apart ↦ absurd (none_isnt x (sym (cond-false {A = Option X} (p y) (Some y) None apart) ∙ h2))
            ])
      ]

pub count_without : (m number : ℕ) (live : List (ℕ × Context)) → 0 < count_by (λ item. item.0 == number) live
    → count_by (λ item. item.0 == m) (without_number number live) + one_if (number == m) ≡ count_by (λ item. item.0 == m) live
count_without m number [] some = absurd (omega (arith, some))
count_without m number (item ∷ live) some =
    let all = count_cons (λ (i : ℕ × Context). i.0 == m) item live in
    let found = count_cons (λ (i : ℕ × Context). i.0 == number) item live in
    elim (cases_Bool (item.0 == number)) [
      | inl here ↦ (
          let is = ap (λ (n : ℕ). one_if (n == m)) (eqb-true item.0 number here) in
          let gone = ap (λ (xs : List (ℕ × Context)). count_by (λ i. i.0 == m) xs) (cond-true {A = List (ℕ × Context)} (item.0 == number) live (item ∷ without_number number live) here) in
          omega (arith, all, is, gone))
      | inr apart ↦ (
          let no = cond-false {A = ℕ} (item.0 == number) 1 0 apart in
          let rest = count_without m number live (omega (arith, some, found, no)) in
          let more = count_cons (λ (i : ℕ × Context). i.0 == m) item (without_number number live) in
          let stays = ap (λ (xs : List (ℕ × Context)). count_by (λ i. i.0 == m) xs) (cond-false {A = List (ℕ × Context)} (item.0 == number) live (item ∷ without_number number live) apart) in
          omega (arith, all, rest, more, stays))
    ]

pub has_if_counted : (number : ℕ) (live : List (ℕ × Context)) → 0 < count_by (λ item. item.0 == number) live → has_number number live ≡ true
has_if_counted number [] some = absurd (omega (arith, some))
has_if_counted number (item ∷ live) some =
    let found = count_cons (λ (i : ℕ × Context). i.0 == number) item live in
    elim (cases_Bool (item.0 == number)) [
      | inl here ↦ ap (λ b. b || has_number number live) here
      | inr apart ↦ (
          let no = cond-false {A = ℕ} (item.0 == number) 1 0 apart in
          ap (λ b. b || has_number number live) apart ∙ has_if_counted number live (omega (arith, some, found, no)))
    ]
