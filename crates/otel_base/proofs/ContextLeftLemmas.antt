-- Step by step, what is left is the attaches less the detaches.
use Rattle.std.proofs.Common.{◌≡◌, ℕ, Bool, true, false, true≢false, ◌||◌, List, [], ◌∷◌, ◌++◌, refl, sym, ap, ◌∙◌, inl, inr, append_assoc, append-nil}
use Rattle.std.specs.Prelude.{eqb, if◌then◌else◌}
use Rattle.std.proofs.lemmas.Bool.{cases_Bool, eqb-true, eq-eqb, ne_eqb}
use Rattle.otel_base.specs.declared.context.Context.{Context}
use Rattle.otel_base.specs.Stack.{has_number, without_number}
use Rattle.otel_base.specs.Changes.{StackChange, Attach, Detach, after_changes, ArePossible, is_detached, left_attached}

-- the items whose number doesn't pass the test
abbrev kept : (ℕ → Bool) → List (ℕ × Context) → List (ℕ × Context)
kept gone [] = []
kept gone (item ∷ items) = if gone item.0 then kept gone items else item ∷ kept gone items

-- each number is there once
abbrev Differ : List (ℕ × Context) → Type 0
Differ [] = Unit {0}
Differ (item ∷ items) = (has_number item.0 items ≡ false) × Differ items

neither : (a b : Bool) → (a || b) ≡ false → (a ≡ false) × (b ≡ false)
neither true b e = absurd (true≢false e)
neither false b e = (refl, e)

turned : (a b : ℕ) → eqb a b ≡ false → eqb b a ≡ false
turned a b e = ne_eqb b a (λ same. true≢false (sym (eq-eqb a b (sym same)) ∙ e))

all_kept : (items : List (ℕ × Context)) → kept (λ number. false) items ≡ items
all_kept [] = refl
all_kept (item ∷ items) = ap (λ (rest : List (ℕ × Context)). item ∷ rest) (all_kept items)

kept_push : (gone : ℕ → Bool) (items : List (ℕ × Context)) (x : ℕ × Context) → kept gone (items ++ x ∷ []) ≡ kept gone items ++ kept gone (x ∷ [])
kept_push gone [] x = refl
kept_push gone (item ∷ items) x = elim (cases_Bool (gone item.0)) [
  | inl is ↦ rw is (kept_push gone items x)
  | inr not ↦ rw not (ap (λ (rest : List (ℕ × Context)). item ∷ rest) (kept_push gone items x))
]

kept_others : (gone : ℕ → Bool) (number : ℕ) (items : List (ℕ × Context)) → has_number number items ≡ false → kept (λ n. eqb n number || gone n) items ≡ kept gone items
kept_others gone number [] h = refl
kept_others gone number (item ∷ items) h =
    let parts = neither (eqb item.0 number) (has_number number items) h in
    elim (cases_Bool (gone item.0)) [
      | inl is ↦ rw (parts.0, is) (kept_others gone number items parts.1)
      | inr not ↦ rw (parts.0, not) (ap (λ (rest : List (ℕ × Context)). item ∷ rest) (kept_others gone number items parts.1))
    ]

kept_without : (gone : ℕ → Bool) (number : ℕ) (items : List (ℕ × Context)) → Differ items → kept (λ n. eqb n number || gone n) items ≡ kept gone (without_number number items)
kept_without gone number [] d = refl
kept_without gone number (item ∷ items) d = elim (cases_Bool (eqb item.0 number)) [
  | inl same ↦ rw same (kept_others gone number items (rw (eqb-true item.0 number same) at d.0))
  | inr other ↦ elim (cases_Bool (gone item.0)) [
    | inl is ↦ rw (other, is) (kept_without gone number items d.1)
    | inr not ↦ rw (other, not) (ap (λ (rest : List (ℕ × Context)). item ∷ rest) (kept_without gone number items d.1))
  ]
]

has_not_pushed : (number : ℕ) (items : List (ℕ × Context)) (x : ℕ × Context) → has_number number items ≡ false → eqb x.0 number ≡ false → has_number number (items ++ x ∷ []) ≡ false
has_not_pushed number [] x h e = rw e refl
has_not_pushed number (item ∷ items) x h e =
    let parts = neither (eqb item.0 number) (has_number number items) h in
    rw parts.0 (has_not_pushed number items x parts.1 e)

has_not_without : (number other : ℕ) (items : List (ℕ × Context)) → has_number number items ≡ false → has_number number (without_number other items) ≡ false
has_not_without number other [] h = refl
has_not_without number other (item ∷ items) h =
    let parts = neither (eqb item.0 number) (has_number number items) h in
    elim (cases_Bool (eqb item.0 other)) [
      | inl same ↦ rw same parts.1
      | inr not ↦ rw (not, parts.0) (has_not_without number other items parts.1)
    ]

differ_push : (items : List (ℕ × Context)) (x : ℕ × Context) → Differ items → has_number x.0 items ≡ false → Differ (items ++ x ∷ [])
differ_push [] x d h = (refl, tt)
differ_push (item ∷ items) x d h =
    let parts = neither (eqb item.0 x.0) (has_number x.0 items) h in
    (has_not_pushed item.0 items x d.0 (turned item.0 x.0 parts.0), differ_push items x d.1 parts.1)

differ_without : (number : ℕ) (items : List (ℕ × Context)) → Differ items → Differ (without_number number items)
differ_without number [] d = tt
differ_without number (item ∷ items) d = elim (cases_Bool (eqb item.0 number)) [
  | inl same ↦ rw same d.1
  | inr other ↦ rw other (has_not_without item.0 number items d.0, differ_without number items d.1)
]

left_after : (live : List (ℕ × Context)) (changes : List StackChange) → Differ live → ArePossible live changes → after_changes live changes ≡ kept (is_detached changes) live ++ left_attached changes
left_after live [] d p = sym (append-nil (kept (is_detached []) live) ∙ all_kept live)
left_after live (Attach number context ∷ changes) d p =
    let rest = left_after (live ++ (number, context) ∷ []) changes (differ_push live (number, context) d p.0) p.1 in
    rest ∙ ap (λ (front : List (ℕ × Context)). front ++ left_attached changes) (kept_push (is_detached changes) live (number, context)) ∙ append_assoc (kept (is_detached changes) live) (kept (is_detached changes) ((number, context) ∷ [])) (left_attached changes) ∙ ap (λ (end : List (ℕ × Context)). kept (is_detached changes) live ++ end) (joined (is_detached changes number) refl)
  where
    joined : (b : Bool) → is_detached changes number ≡ b → kept (is_detached changes) ((number, context) ∷ []) ++ left_attached changes ≡ left_attached (Attach number context ∷ changes)
    joined true is = rw is refl
    joined false is = rw is refl
left_after live (Detach number ∷ changes) d p =
    let rest = left_after (without_number number live) changes (differ_without number live d) p.1 in
    rest ∙ ap (λ (front : List (ℕ × Context)). front ++ left_attached changes) (sym (kept_without (is_detached changes) number live d))

pub attaches_less_detaches : (changes : List StackChange) → ArePossible [] changes → after_changes [] changes ≡ left_attached changes
attaches_less_detaches changes p = left_after [] changes tt p
