-- Where a new instrument is found, and what a map leaves of an option.
use Rattle.std.specs.Prelude.{nat_lt, position, is_some}
use Rattle.std.specs.List.{prefix_len}
use Rattle.std.proofs.Common.{◌≡◌, ℕ, ◌+◌, ◌≤◌, List, [], ◌∷◌, ◌++◌, length, Option, None, Some, cond, Bool, true, false, true≢false, not, option_map, refl, sym, ap, ◌∙◌, arith, inl, inr}
use Rattle.std.proofs.lemmas.Bool.{ltb-false, lt-ltb, cases_Bool}
use Rattle.std.proofs.lemmas.List.{length-append}
use Rattle.std.proofs.lemmas.Slice.Eq.{bytes_eq-Decides}
use Rattle.otel_metrics.specs.declared.instruments.Instrument.{Instrument}
use Rattle.otel_metrics.specs.declared.measure.Measure.{Measure}
use Rattle.otel_metrics.specs.declared.measure.MetricKind.{MetricKind}
use Rattle.otel_metrics.specs.declared.measure.MetricKind.TheVariants.{CounterU64, UpDownCounterI64, HistogramU64, GaugeU64, GaugeI64}
use Rattle.otel_metrics.specs.Instruments.{same_kind, is_instrument_of, instrument_of, place_of}

pub some_mapped : {A B : Type 0} (f : A → B) (o : Option A) (r : Option B) → r ≡ option_map f o → is_some r ≡ is_some o
some_mapped f None r h = ap (λ v. is_some v) h
some_mapped f (Some a) r h = ap (λ v. is_some v) h

-- ---- the first place of what is added to a list that has no such item

module _ {X : Type 0} (q : X → Bool) where
  from : (b : Bool) (x : X) (xs : List X) → q x ≡ b → prefix_len q (x ∷ xs) ≡ cond b (1 + prefix_len q xs) 0
  from b x xs e = ap (λ t. cond t (1 + prefix_len q xs) 0) e

  passes_all : (xs : List X) (y : X) → length xs ≤ prefix_len q xs → q y ≡ false → prefix_len q (xs ++ y ∷ []) ≡ length xs
  passes_all [] y all other = rw other refl
  passes_all (x ∷ xs) y all other = elim (cases_Bool (q x)) [
    | inl passes ↦
        let first : prefix_len q (x ∷ xs) ≡ 1 + prefix_len q xs = from true x xs passes in
        let more : prefix_len q (x ∷ (xs ++ y ∷ [])) ≡ 1 + prefix_len q (xs ++ y ∷ []) = from true x (xs ++ y ∷ []) passes in
        let rest : prefix_len q (xs ++ y ∷ []) ≡ length xs = passes_all xs y (omega (arith, all, first)) other in
        omega (arith, more, rest)
    | inr fails ↦
        let first : prefix_len q (x ∷ xs) ≡ 0 = from false x xs fails in
        absurd (omega (arith, all, first))
  ]

found_last : {X : Type 0} (p : X → Bool) (xs : List X) (y : X) → position p xs ≡ None → p y ≡ true → position p (xs ++ y ∷ []) ≡ Some (length xs)
found_last p xs y none is =
    let n = prefix_len (λ x. not (p x)) xs in
    elim (cases_Bool (nat_lt n (length xs))) [
      | inl within ↦
          let some : Some n ≡ None = sym (ap (λ b. cond b (Some n) None) within) ∙ none in
          absurd (true≢false (ap (λ (o : Option ℕ). is_some o) some))
      | inr past ↦
          let last : prefix_len (λ x. not (p x)) (xs ++ y ∷ []) ≡ length xs = passes_all (λ x. not (p x)) xs y (ltb-false _ _ past) (ap (λ b. not b) is) in
          let short : nat_lt (length xs) (length (xs ++ y ∷ [])) ≡ true = lt-ltb _ _ (omega (arith, length-append xs (y ∷ []))) in
          rw (last, short) refl
    ]

same_itself : (kind : MetricKind) → same_kind kind kind ≡ true
same_itself CounterU64 = refl
same_itself UpDownCounterI64 = refl
same_itself HistogramU64 = refl
same_itself GaugeU64 = refl
same_itself GaugeI64 = refl

own : (m : Measure) → is_instrument_of m (instrument_of m) ≡ true
own m = rw (same_itself m.kind, (bytes_eq-Decides m.name m.name).1 refl) refl

-- an instrument that is made stands behind the others
pub found_new : (m : Measure) (known : List Instrument) → place_of m known ≡ None → place_of m (known ++ instrument_of m ∷ []) ≡ Some (length known)
found_new m known none = found_last (is_instrument_of m) known (instrument_of m) none (own m)
