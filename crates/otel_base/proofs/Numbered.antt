-- Numbered contexts: their numbers rise, so each number is there once.
use Rattle.std.proofs.Common.{◌≡◌, ℕ, ◌+◌, ◌-◌, ◌<◌, ◌≤◌, zero, suc, min, true, false, List, [], ◌∷◌, ◌++◌, length, take, drop, refl, sym, ap, arith, inl, inr, length-append, ◌^◌}
use Rattle.std.specs.Prelude.{slice_index_or, eqb}
use Rattle.std.proofs.lemmas.Bool.{cases_Bool, ne_eqb, eq-eqb}
use Rattle.std.proofs.lemmas.Grind.{common_steps}
use Rattle.otel_base.specs.declared.context.Context.{Context}
use Rattle.otel_base.specs.Stack.{has_number, without_number, next_number, last_context, room_left, NumbersRise}

pub rises_from_less : (a b : ℕ) (items : List (ℕ × Context)) → a ≤ b → NumbersRise b items → NumbersRise a items
rises_from_less a b [] h r = tt
rises_from_less a b (item ∷ items) h r = (omega (arith, r.0), r.1)

pub rises_push : (b : ℕ) (items : List (ℕ × Context)) (context : Context) → NumbersRise b items → NumbersRise b (items ++ (next_number b items, context) ∷ [])
rises_push b [] context r = (omega arith, tt)
rises_push b (item ∷ items) context r = (r.0, rises_push (suc item.0) items context r.1)

pub rises_without : (b number : ℕ) (items : List (ℕ × Context)) → NumbersRise b items → NumbersRise b (without_number number items)
rises_without b number [] r = tt
rises_without b number (item ∷ items) r = elim (cases_Bool (eqb item.0 number)) [
  | inl same ↦ rw same (rises_from_less b (suc item.0) items (omega (arith, r.0)) r.1)
  | inr other ↦ rw other (r.0, rises_without (suc item.0) number items r.1)
]

pub next_from_less : (a b : ℕ) (items : List (ℕ × Context)) → a ≤ b → next_number a items ≤ next_number b items
next_from_less a b [] h = h
next_from_less a b (item ∷ items) h = omega arith

pub next_without : (b number : ℕ) (items : List (ℕ × Context)) → NumbersRise b items → next_number b (without_number number items) ≤ next_number b items
next_without b number [] r = omega arith
next_without b number (item ∷ items) r = elim (cases_Bool (eqb item.0 number)) [
  | inl same ↦ rw same (next_from_less b (suc item.0) items (omega (arith, r.0)))
  | inr other ↦ rw other (next_without (suc item.0) number items r.1)
]

pub next_push : (b number : ℕ) (items : List (ℕ × Context)) (context : Context) → next_number b (items ++ (number, context) ∷ []) ≡ suc number
next_push b number [] context = refl
next_push b number (item ∷ items) context = next_push (suc item.0) number items context

pub least_next : (b : ℕ) (items : List (ℕ × Context)) → NumbersRise b items → b ≤ next_number b items
least_next b [] r = omega arith
least_next b (item ∷ items) r = omega (arith, r.0, least_next (suc item.0) items r.1)

pub next_is_new : (b : ℕ) (items : List (ℕ × Context)) → NumbersRise b items → has_number (next_number b items) items ≡ false
next_is_new b [] r = refl
next_is_new b (item ∷ items) r =
    let past = least_next (suc item.0) items r.1 in
    rw (ne_eqb item.0 (next_number (suc item.0) items) (λ e. omega arith)) (next_is_new (suc item.0) items r.1)

pub last_number : (b : ℕ) (items : List (ℕ × Context)) (k : ℕ) (x : ℕ × Context) → length items ≡ suc k → x ≡ slice_index_or items k x → next_number b items ≡ suc x.0
last_number b [] k x h e = absurd (omega arith)
last_number b (item ∷ []) zero x h e = ap (λ (i : ℕ × Context). suc i.0) (sym e)
last_number b (item ∷ []) (suc k) x h e = absurd (omega arith)
last_number b (item ∷ more ∷ items) zero x h e = absurd (omega arith)
last_number b (item ∷ more ∷ items) (suc k) x h e = last_number (suc item.0) (more ∷ items) k x (omega arith) e

pub last_is_current : (start : Context) (items : List (ℕ × Context)) (k : ℕ) (x : ℕ × Context) → length items ≡ suc k → x ≡ slice_index_or items k x → x.1 ≡ last_context start items
last_is_current start [] k x h e = absurd (omega arith)
last_is_current start (item ∷ []) zero x h e = ap (λ (i : ℕ × Context). i.1) e
last_is_current start (item ∷ []) (suc k) x h e = absurd (omega arith)
last_is_current start (item ∷ more ∷ items) zero x h e = absurd (omega arith)
last_is_current start (item ∷ more ∷ items) (suc k) x h e = last_is_current item.1 (more ∷ items) k x (omega arith) e

pub least_at : (b : ℕ) (items : List (ℕ × Context)) (k : ℕ) (d : ℕ × Context) → NumbersRise b items → k < length items → b ≤ (slice_index_or items k d).0
least_at b [] k d r h = absurd (omega arith)
least_at b (item ∷ items) zero d r h = r.0
least_at b (item ∷ items) (suc k) d r h = omega (arith, r.0, least_at (suc item.0) items k d r.1 (omega arith))

pub removed : (b number : ℕ) (items : List (ℕ × Context)) (k : ℕ) (d : ℕ × Context) → NumbersRise b items → k < length items → (slice_index_or items k d).0 ≡ number → take k items ++ drop (suc k) items ≡ without_number number items
removed b number [] k d r h e = absurd (omega arith)
removed b number (item ∷ items) zero d r h e = rw (eq-eqb item.0 number e) refl
removed b number (item ∷ items) (suc k) d r h e =
    let past = least_at (suc item.0) items k d r.1 (omega arith) in
    rw (ne_eqb item.0 number (λ same. omega arith)) (ap (λ (rest : List (ℕ × Context)). item ∷ rest) (removed (suc item.0) number items k d r.1 (omega arith) e))

pub stands_before : (number : ℕ) (items : List (ℕ × Context)) (k : ℕ) (d : ℕ × Context) → k < length items → eqb (slice_index_or items k d).0 number ≡ false → has_number number (take (suc k) items) ≡ true → has_number number (take k items) ≡ true
stands_before number [] k d h other is = absurd (omega arith)
stands_before number (item ∷ items) zero d h other is = rw other at is
stands_before number (item ∷ items) (suc k) d h other is = elim (cases_Bool (eqb item.0 number)) [
  | inl same ↦ rw same refl
  | inr not ↦ rw not (stands_before number items k d (omega arith) other (rw not at is))
]

pub without_is_no_longer : (number : ℕ) (items : List (ℕ × Context)) → length (without_number number items) ≤ length items
without_is_no_longer number [] = omega arith
without_is_no_longer number (item ∷ items) = elim (cases_Bool (eqb item.0 number)) [
  | inl same ↦ rw same (omega arith)
  | inr other ↦ rw other (omega (arith, without_is_no_longer number items))
]

pub has_pushed : (number : ℕ) (items : List (ℕ × Context)) (context : Context) → has_number number (items ++ (number, context) ∷ []) ≡ true
has_pushed number [] context = rw (eq-eqb number number refl) refl
has_pushed number (item ∷ items) context = elim (cases_Bool (eqb item.0 number)) [
  | inl same ↦ rw same refl
  | inr other ↦ rw other (has_pushed number items context)
]

less_room : (most capacity capacity2 count count2 next next2 used : ℕ) → capacity ≤ capacity2 → count2 ≤ count + used → next2 ≤ next + used → min (capacity - count) (most - next) ≤ min (capacity2 - count2) (most - next2) + used
less_room most capacity capacity2 count count2 next next2 used h i j = grind (arith, common_steps)

pub room_after_attach : (items : List (ℕ × Context)) (context : Context) (capacity capacity2 : ℕ) → capacity ≤ capacity2 → room_left items capacity ≤ room_left (items ++ (next_number 0 items, context) ∷ []) capacity2 + 1
room_after_attach items context capacity capacity2 h =
    let next = next_push 0 (next_number 0 items) items context in
    let count = length-append items ((next_number 0 items, context) ∷ []) in
    less_room (2 ^ 64) capacity capacity2 (length items) (length (items ++ (next_number 0 items, context) ∷ [])) (next_number 0 items) (next_number 0 (items ++ (next_number 0 items, context) ∷ [])) 1 h (omega arith) (omega arith)

pub room_after_detach : (number : ℕ) (items : List (ℕ × Context)) (capacity : ℕ) → NumbersRise 0 items → room_left items capacity ≤ room_left (without_number number items) capacity
room_after_detach number items capacity r =
    let next = next_without 0 number items r in
    let count = without_is_no_longer number items in
    let less = less_room (2 ^ 64) capacity capacity (length items) (length (without_number number items)) (next_number 0 items) (next_number 0 (without_number number items)) 0 (omega arith) (omega arith) (omega arith) in
    omega arith
