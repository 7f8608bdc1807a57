-- The start of a span among several starts.
use Rattle.span_laws.proofs.Common.{Bool, List, SpanContext, TimedOp, [], ap, cases_Bool, cond-false, cond-true, false, if◌then◌else◌, in_push, in_push_same, inl, inr, is_in, not, refl, start_in, sym, true, with_started, ℕ, ◌&&◌, ◌++◌, ◌==◌, ◌||◌, ◌∙◌, ◌∷◌, ◌≡◌}
use Rattle.std.proofs.lemmas.Bool.{eq-eqb, eqb-true, ne_eqb}
use Rattle.otel_state.specs.declared.op.Op.TheVariants as ops
use Rattle.span_laws.proofs.records.StoriesLemmas.{stamp}

or_false : (b : Bool) → b ≡ (b || false)
or_false true = refl
or_false false = refl

pub in_started : (order : List ℕ) (id : ℕ) → is_in id (with_started order id) ≡ true
in_started order id = elim (cases_Bool (is_in id order)) [
  | inl there ↦ ap (is_in id) (cond-true {A = List ℕ} (is_in id order) order (order ++ id ∷ []) there) ∙ there
  | inr out ↦ ap (is_in id) (cond-false {A = List ℕ} (is_in id order) order (order ++ id ∷ []) out) ∙ in_push_same order id
]

-- what has started after one start more
started_in : (order : List ℕ) (id s : ℕ) → is_in s (with_started order id) ≡ (is_in s order || id == s)
started_in order id s = elim (cases_Bool (is_in id order)) [
  | inl there ↦ ap (is_in s) (cond-true {A = List ℕ} (is_in id order) order (order ++ id ∷ []) there) ∙ by_test there (id == s) refl
  | inr out ↦ ap (is_in s) (cond-false {A = List ℕ} (is_in id order) order (order ++ id ∷ []) out) ∙ in_push order id s ∙ ap (λ b. is_in s order || b) (sym (or_false (id == s)))
]
  where
    already : (c : Bool) → c ≡ true → c ≡ (c || true)
    already true is = refl
    already false is = absurd (cc is)

    by_test : is_in id order ≡ true → (b : Bool) → (id == s) ≡ b → is_in s order ≡ (is_in s order || b)
    by_test there true same = already (is_in s order) (sym (ap (λ (q : ℕ). is_in q order) (eqb-true id s same)) ∙ there)
    by_test there false other = or_false (is_in s order)

module _ (own : SpanContext) (at s : ℕ) where
  abbrev one : List TimedOp
  one = stamp at (ops.Start own) ∷ []

  pub starts_here : (order : List ℕ) (id : ℕ) → s ≡ id → is_in id order ≡ false → start_in own at s order (id ∷ []) ≡ one
  starts_here order id same out =
      let test : ((id == s || false) && not (is_in s order)) ≡ true = ap (λ b. (b || false) && not (is_in s order)) (eq-eqb id s (sym same)) ∙ ap not (ap (λ (q : ℕ). is_in q order) same ∙ out) in
      cond-true {A = List TimedOp} ((id == s || false) && not (is_in s order)) one [] test

  pub starts_other : (order : List ℕ) (id : ℕ) → (s ≡ id → ⊥) → start_in own at s order (id ∷ []) ≡ []
  starts_other order id other =
      let test : ((id == s || false) && not (is_in s order)) ≡ false = ap (λ b. (b || false) && not (is_in s order)) (ne_eqb id s (λ e. other (sym e))) in
      cond-false {A = List TimedOp} ((id == s || false) && not (is_in s order)) one [] test

  never : (b : Bool) → (b && false) ≡ false
  never true = refl
  never false = refl

  pub starts_not : (order ids : List ℕ) → is_in s order ≡ true → start_in own at s order ids ≡ []
  starts_not order ids there =
      let test : (is_in s ids && not (is_in s order)) ≡ false = ap (λ b. is_in s ids && not b) there ∙ never (is_in s ids) in
      cond-false {A = List TimedOp} (is_in s ids && not (is_in s order)) one [] test

  pub starts_absent : (order ids : List ℕ) → is_in s ids ≡ false → start_in own at s order ids ≡ []
  starts_absent order ids out =
      let test : (is_in s ids && not (is_in s order)) ≡ false = ap (λ b. b && not (is_in s order)) out in
      cond-false {A = List TimedOp} (is_in s ids && not (is_in s order)) one [] test

  -- the first of several starts, and the others
  parts : (a b c : Bool) → (if (a || b) && not c then one else []) ≡ (if (a || false) && not c then one else []) ++ (if b && not (c || a) then one else [])
  parts true true true = refl
  parts true true false = refl
  parts true false true = refl
  parts true false false = refl
  parts false true true = refl
  parts false true false = refl
  parts false false true = refl
  parts false false false = refl

  pub starts_cons : (order : List ℕ) (id : ℕ) (ids : List ℕ) → start_in own at s order (id ∷ ids) ≡ start_in own at s order (id ∷ []) ++ start_in own at s (with_started order id) ids
  starts_cons order id ids =
      parts (id == s) (is_in s ids) (is_in s order)
      ∙ ap (λ (b : Bool). start_in own at s order (id ∷ []) ++ (if is_in s ids && not b then one else [])) (sym (started_in order id s))
