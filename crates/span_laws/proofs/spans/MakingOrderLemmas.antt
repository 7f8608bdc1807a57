-- Where spans start early, the order of starts is that of making.
use Rattle.span_laws.proofs.Common.{AllByRecursion, Bool, History, IsHistory, List, MadeSpan, None, Option, Setup, Some, Tables, [], after_effect, ap, arith, cases_eq, cond-false, cond-true, false, fold, fold_push, inl, inr, is_drop, is_in, length, length_push, more, no_tables, none, place_from, place_in, range_more, range_with_len, refl, span_starting_at_making, starting_order, suc, sym, tables, true, with_item, with_started, zero, ℕ, ◌++◌, ◌+◌, ◌<◌, ◌==◌, ◌||◌, ◌∙◌, ◌∷◌, ◌≡◌, ◌≤◌}
use Rattle.std.specs.Option.{option_to_list}
use Rattle.std.proofs.lemmas.Bool.{eq-eqb, ne_eqb}
use Rattle.span_laws.proofs.records.HistoriesLemmas.{closing_made, fits, started_push, starts_made, whole}
use Rattle.span_laws.proofs.steps.StepsLemmas.{step_of}

-- ---- a range

in_range : (a n s : ℕ) → a ≤ s → s < a + n → is_in s (range_with_len a n) ≡ true
in_range a zero s from below = absurd (omega (arith, from, below))
in_range a (suc n) s from below = elim (cases_eq a s) [
  | inl same ↦ ap (λ b. b || is_in s (range_with_len (a + 1) n)) (eq-eqb a s same)
  | inr other ↦ ap (λ b. (a == s) || b) (in_range (a + 1) n s (omega (arith, from, other)) (omega (arith, below))) ∙ or_true (a == s)
]
  where
    or_true : (b : Bool) → (b || true) ≡ true
    or_true true = refl
    or_true false = refl

out_of_range : (a n s : ℕ) → a + n ≤ s → is_in s (range_with_len a n) ≡ false
out_of_range a zero s past = refl
out_of_range a (suc n) s past = ap (λ b. b || is_in s (range_with_len (a + 1) n)) (ne_eqb a s (λ e. absurd (omega (arith, e, past)))) ∙ out_of_range (a + 1) n s (omega (arith, past))

place_in_range : (p a n s : ℕ) → a ≤ s → s < a + n → place_from p (range_with_len a n) s + a ≡ p + s
place_in_range p a zero s from below = absurd (omega (arith, from, below))
place_in_range p a (suc n) s from below = elim (cases_eq a s) [
  | inl same ↦ (let here = cond-true {A = ℕ} (a == s) p (place_from (p + 1) (range_with_len (a + 1) n) s) (eq-eqb a s same) in omega (arith, here, same))
  | inr other ↦ (
      let there = cond-false {A = ℕ} (a == s) p (place_from (p + 1) (range_with_len (a + 1) n) s) (ne_eqb a s other) in
      let rest = place_in_range (p + 1) (a + 1) n s (omega (arith, from, other)) (omega (arith, below)) in
      omega (arith, there, rest))
]

-- ---- starts

-- starts of what has started change nothing
already : (n : ℕ) (ids : List ℕ) → AllByRecursion (λ s. s < n) ids → fold with_started (range_with_len 0 n) ids ≡ range_with_len 0 n
already n [] below = refl
already n (id ∷ ids) below =
    let less : id < n = below.0 in
    ap (λ (o : List ℕ). fold with_started o ids) (cond-true {A = List ℕ} (is_in id (range_with_len 0 n)) (range_with_len 0 n) (range_with_len 0 n ++ id ∷ []) (in_range 0 n id (omega arith) (omega (arith, less)))) ∙ already n ids below.1

begins : (ms : List MadeSpan) (o : Option MadeSpan) → fold with_started (range_with_len 0 (length ms)) (option_to_list (span_starting_at_making true (length ms) o)) ≡ range_with_len 0 (length (with_item ms o))
begins ms None = refl
begins ms (Some m) =
    let n = length ms in
    let next : suc n ≡ length (ms ++ m ∷ []) = (let count = length_push ms m in omega (arith, count)) in
    cond-false {A = List ℕ} (is_in n (range_with_len 0 n)) (range_with_len 0 n) (range_with_len 0 n ++ n ∷ []) (out_of_range 0 n n (omega arith))
    ∙ sym (range_more n) ∙ ap (range_with_len 0) next

pub order_of_making : (setup : Setup) (h : History) → IsHistory setup h → setup.layer.eager ≡ true → starting_order h ≡ range_with_len 0 (length (tables setup h).spans)
order_of_making setup _ none eager = refl
order_of_making setup _ (more h request e before is) eager =
    let t : Tables = tables setup h in
    let n = length t.spans in
    let now = whole setup h before in
    let step = step_of setup t (fits setup h now) request e is in
    let m = length (with_item t.spans e.new_span) in
    started_push h e
    ∙ ap (λ (o : List ℕ). fold with_started (fold with_started (fold with_started o e.starts) (option_to_list e.new_span_start)) e.closes) (order_of_making setup h before eager)
    ∙ ap (λ (o : List ℕ). fold with_started (fold with_started o (option_to_list e.new_span_start)) e.closes) (already n e.starts (starts_made setup h now request.at (is_drop request.call) e step.0 step.1))
    ∙ ap (λ (o : Option ℕ). fold with_started (fold with_started (range_with_len 0 n) (option_to_list o)) e.closes) (step.1.early ∙ ap (λ (b : Bool). span_starting_at_making b n e.new_span) eager)
    ∙ ap (λ (o : List ℕ). fold with_started o e.closes) (begins t.spans e.new_span)
    ∙ already m e.closes (closing_made setup h now request.at (is_drop request.call) e step.0 step.1)
    ∙ ap (λ (u : Tables). range_with_len 0 (length u.spans)) (sym (fold_push after_effect (no_tables setup) h e))

pub by_number : (setup : Setup) (h : History) (s : ℕ) → IsHistory setup h → setup.layer.eager ≡ true → s < length (tables setup h).spans → place_in (starting_order h) s ≡ s + 1
by_number setup h s legal eager below =
    let n = length (tables setup h).spans in
    let place = place_in_range 1 0 n s (omega arith) (omega (arith, below)) in
    let is : place_in (range_with_len 0 n) s ≡ s + 1 = omega (arith, place) in
    ap (λ (o : List ℕ). place_in o s) (order_of_making setup h legal eager) ∙ is
