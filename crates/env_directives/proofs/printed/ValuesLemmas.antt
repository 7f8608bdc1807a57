-- What a value prints is read as that value.
use Rattle.std.proofs.Common.{◌≡◌, ◌≢◌, ℕ, zero, suc, ◌^◌, ◌<◌, Bool, true, false, true≢false, List, [], ◌∷◌, length, Some, None, Option, refl, sym, ap, ◌∙◌, arith, inl, inr, ◌⊎◌, ℤ, pos, negsuc, codes, subst, ◌==◌, ◌&&◌, nat_lt}
use Rattle.env_directives.proofs.Common.{is_ascii_digit, all_ascii_digits, IsNumeral, digits_value, signed_digits_value, without_leading_plus, without_leading_sign, starts_with_minus, common_steps, digits_number, decimal_value, numeral_number, number_of_numeral, digits_pass, is_among, lacks, value_text, u64_of, i64_of, fits_i64, truth_of, plain_value, value_of, ValueMatch, U64, I64, Debug}
use Rattle.std.specs.Fmt.{decimal}
use Rattle.std.proofs.lemmas.Bool.{lt-ltb, ltb-true}
use Rattle.std.proofs.lemmas.Fmt.{decimal_is_IsNumeral}
use Rattle.std.proofs.Math.IntN.{neg_ℤ}
use Rattle.env_directives.specs.declared.env.field.ValueMatch.TheVariants.{Bool as Truth}
use Rattle.env_directives.proofs.forms.NumbersLemmas.{u64_read}

-- digits have no byte that ends a field or its name
digit_lacks : (d : ℕ) → is_ascii_digit d ≡ true → (is_among (codes "=") d ≡ false) × (is_among (codes ",}") d ≡ false)
digit_lacks d is = (grind (arith, common_steps), grind (arith, common_steps))

pub digits_lack : (ds : List ℕ) → all_ascii_digits ds ≡ true → (lacks (codes "=") ds ≡ true) × (lacks (codes ",}") ds ≡ true)
digits_lack [] all = (refl, refl)
digits_lack (d ∷ ds) all = go (is_ascii_digit d) refl all (digits_lack ds)
  where
    go : (c : Bool) → is_ascii_digit d ≡ c → (c && all_ascii_digits ds) ≡ true →
        (all_ascii_digits ds ≡ true → (lacks (codes "=") ds ≡ true) × (lacks (codes ",}") ds ≡ true)) →
        (lacks (codes "=") (d ∷ ds) ≡ true) × (lacks (codes ",}") (d ∷ ds) ≡ true)
    go false e all later = absurd (true≢false (sym all))
    go true e all later = (rw ((digit_lacks d e).0) (later all).0, rw ((digit_lacks d e).1) (later all).1)

-- digits begin with no sign and no letter
no_plus : (ds : List ℕ) → all_ascii_digits ds ≡ true → without_leading_plus ds ≡ ds
no_plus [] all = refl
no_plus (d ∷ ds) all = go (is_ascii_digit d) refl all
  where
    go : (c : Bool) → is_ascii_digit d ≡ c → (c && all_ascii_digits ds) ≡ true → without_leading_plus (d ∷ ds) ≡ d ∷ ds
    go false e all = absurd (true≢false (sym all))
    go true e all = let other : (d == 43) ≡ false = grind (arith, common_steps) in rw other refl

no_truth : (ds : List ℕ) → all_ascii_digits ds ≡ true → 0 < length ds → truth_of ds ≡ None
no_truth [] all some = absurd (omega arith)
no_truth (d ∷ ds) all some = go (is_ascii_digit d) refl all
  where
    go : (c : Bool) → is_ascii_digit d ≡ c → (c && all_ascii_digits ds) ≡ true → truth_of (d ∷ ds) ≡ None
    go false e all = absurd (true≢false (sym all))
    go true e all =
        let no_t : (d == 116) ≡ false = grind (arith, common_steps) in
        let no_f : (d == 102) ≡ false = grind (arith, common_steps) in
        rw (no_t, no_f) refl

-- a number below 2^64
module _ (n : ℕ) (small : n < 2 ^ 64) where
  written : IsNumeral 10 (decimal n) × (digits_value 10 (decimal n) ≡ n)
  written = decimal_is_IsNumeral n small

  all_digits : all_ascii_digits (decimal n) ≡ true
  all_digits = digits_pass (decimal n) written.0.1

  u64_again : u64_of (decimal n) ≡ Some n
  u64_again =
      let same : without_leading_plus (decimal n) ≡ decimal n = no_plus (decimal n) all_digits in
      let numeral : IsNumeral 10 (without_leading_plus (decimal n)) = subst (IsNumeral 10) (sym same) written.0 in
      let value : digits_value 10 (without_leading_plus (decimal n)) ≡ n = ap (digits_value 10) same ∙ written.1 in
      u64_read (decimal n) n ((numeral, rw value small), sym value)

  u64_value_again : value_of false (decimal n) ≡ U64 n
  unfolding plain_value
  u64_value_again = rw (no_truth (decimal n) all_digits written.0.0, u64_again) refl

-- a number below 0
module _ (k : ℕ) (small : k < 2 ^ 63) where
  minus_small : suc k < 2 ^ 64
  minus_small = omega arith

  minus_digits : all_ascii_digits (decimal (suc k)) ≡ true
  minus_digits = all_digits (suc k) minus_small

  minus_number : digits_number (decimal (suc k)) ≡ Some (suc k)
  minus_number = numeral_number (decimal (suc k)) (written (suc k) minus_small).0 ∙ ap Some (written (suc k) minus_small).1

  minus_no_u64 : u64_of (45 ∷ decimal (suc k)) ≡ None
  unfolding u64_of digits_number
  minus_no_u64 = rw (lt-ltb 0 (length (45 ∷ decimal (suc k))) (omega arith)) refl

  minus_i64 : i64_of (45 ∷ decimal (suc k)) ≡ Some (negsuc k)
  unfolding i64_of
  minus_i64 = rw (minus_number, (written (suc k) minus_small).1, lt-ltb k (2 ^ 63) small) refl

  minus_value_again : value_of false (45 ∷ decimal (suc k)) ≡ I64 (negsuc k)
  unfolding plain_value
  minus_value_again = rw (minus_no_u64, minus_i64) refl

-- a signed number that is no unsigned one is 0 or less
abbrev IsBelow : ℤ → Type 0
IsBelow z = (z ≡ pos 0) ⊎ ((k : ℕ) × (k < 2 ^ 63) × (z ≡ negsuc k))

minus_below : (m : ℕ) (z : ℤ) → fits_i64 (neg_ℤ (pos m)) ≡ true → z ≡ neg_ℤ (pos m) → IsBelow z
minus_below zero z fit is = inl is
minus_below (suc k) z fit is = inr (k, ltb-true k (2 ^ 63) fit, is)

below : (text : List ℕ) (z : ℤ) → i64_of text ≡ Some z → u64_of text ≡ None → IsBelow z
unfolding i64_of u64_of
below text z reads unread = by_number (number_of_numeral (without_leading_sign text))
  where
    by_sign : (b : Bool) → starts_with_minus text ≡ b → fits_i64 (signed_digits_value 10 text) ≡ true → z ≡ signed_digits_value 10 text →
        digits_number (without_leading_sign text) ≡ Some (digits_value 10 (without_leading_sign text)) → IsBelow z
    by_sign true s fit is number =
        let value : signed_digits_value 10 text ≡ neg_ℤ (pos (digits_value 10 (without_leading_sign text))) = rw s refl in
        minus_below (digits_value 10 (without_leading_sign text)) z (subst (λ (y : ℤ). fits_i64 y ≡ true) value fit) (is ∙ value)
    by_sign false s fit is number =
        let m = digits_value 10 (without_leading_sign text) in
        let same : without_leading_sign text ≡ without_leading_plus text = rw s refl in
        let value : signed_digits_value 10 text ≡ pos m = rw s refl in
        let small : m < 2 ^ 63 = ltb-true m (2 ^ 63) (subst (λ (y : ℤ). fits_i64 y ≡ true) value fit) in
        let wide : m < 2 ^ 64 = omega arith in
        let plus : digits_number (without_leading_plus text) ≡ Some m = subst (λ (ds : List ℕ). digits_number ds ≡ Some m) same number in
        let read : u64_of text ≡ Some m = rw (plus, lt-ltb m (2 ^ 64) wide) refl in
        let no_value : None ≡ Some m = sym unread ∙ read in cc

    by_fit : (c : Bool) → fits_i64 (signed_digits_value 10 text) ≡ c → digits_number (without_leading_sign text) ≡ Some (digits_value 10 (without_leading_sign text)) → IsBelow z
    by_fit false fit number = let no_value : None ≡ Some z = rw (number, fit) at reads in cc
    by_fit true fit number =
        let is : Some (signed_digits_value 10 text) ≡ Some z = rw (number, fit) at reads in
        by_sign (starts_with_minus text) refl fit (cc) number

    by_number : (digits_number (without_leading_sign text) ≡ None) ⊎ (IsNumeral 10 (without_leading_sign text) × (digits_number (without_leading_sign text) ≡ Some (digits_value 10 (without_leading_sign text)))) → IsBelow z
    by_number (inl none) = let no_value : None ≡ Some z = rw none at reads in cc
    by_number (inr some) = by_fit (fits_i64 (signed_digits_value 10 text)) refl some.1

u64_small : (text : List ℕ) (n : ℕ) → u64_of text ≡ Some n → n < 2 ^ 64
unfolding u64_of
u64_small text n reads = by_number (decimal_value text) refl
  where
    by_fit : (m : ℕ) (c : Bool) → nat_lt m (2 ^ 64) ≡ c → decimal_value text ≡ Some m → n < 2 ^ 64
    by_fit m false fit number = let no_value : None ≡ Some n = rw (number, fit) at reads in cc
    by_fit m true fit number =
        let is : Some m ≡ Some n = rw (number, fit) at reads in
        let same : m ≡ n = cc in
        subst (λ (x : ℕ). x < 2 ^ 64) same (ltb-true m (2 ^ 64) fit)

    by_number : (o : Option ℕ) → decimal_value text ≡ o → n < 2 ^ 64
    by_number None number = let no_value : None ≡ Some n = rw number at reads in cc
    by_number (Some m) number = by_fit m (nat_lt m (2 ^ 64)) refl number

-- what a value prints is that value again, and ends no field and no name
pub record IsAgain (value : ValueMatch) : Type 0 where
  pub reads : value_of false (value_text value) ≡ value
  pub no_equals : lacks (codes "=") (value_text value) ≡ true
  pub no_end : lacks (codes ",}") (value_text value) ≡ true

truth_again : (truth : Bool) → IsAgain (Truth truth)
unfolding plain_value
truth_again true = record { reads = refl; no_equals = refl; no_end = refl }
truth_again false = record { reads = refl; no_equals = refl; no_end = refl }

number_again : (n : ℕ) → n < 2 ^ 64 → IsAgain (U64 n)
number_again n small = record {
  reads = u64_value_again n small;
  no_equals = (digits_lack (decimal n) (all_digits n small)).0;
  no_end = (digits_lack (decimal n) (all_digits n small)).1;
}

minus_again : (k : ℕ) → k < 2 ^ 63 → IsAgain (I64 (negsuc k))
minus_again k small = record {
  reads = minus_value_again k small;
  no_equals = (digits_lack (decimal (suc k)) (minus_digits k small)).0;
  no_end = (digits_lack (decimal (suc k)) (minus_digits k small)).1;
}

pub value_again : (text : List ℕ) → lacks (codes "=") text ≡ true → lacks (codes ",}") text ≡ true → value_of false text ≢ I64 (pos 0) → IsAgain (value_of false text)
unfolding plain_value
value_again text no_equals no_end no_zero = by_truth (truth_of text) refl
  where
    by_i64 : (o : Option ℤ) → truth_of text ≡ None → u64_of text ≡ None → i64_of text ≡ o → IsAgain (value_of false text)
    by_i64 None t u i =
        let is : value_of false text ≡ Debug text = rw (t, u, i) refl in
        subst IsAgain (sym is) (record { reads = is; no_equals = no_equals; no_end = no_end })
    by_i64 (Some z) t u i =
        let is : value_of false text ≡ I64 z = rw (t, u, i) refl in
        elim (below text z i u) [
          | inl zeros ↦ absurd (no_zero (is ∙ ap I64 zeros))
          | inr found ↦ subst IsAgain (sym (is ∙ ap I64 found.2)) (minus_again found.0 found.1)
        ]

    by_u64 : (o : Option ℕ) → truth_of text ≡ None → u64_of text ≡ o → IsAgain (value_of false text)
    by_u64 None t u = by_i64 (i64_of text) t u refl
    by_u64 (Some n) t u =
        let is : value_of false text ≡ U64 n = rw (t, u) refl in
        subst IsAgain (sym is) (number_again n (u64_small text n u))

    by_truth : (o : Option Bool) → truth_of text ≡ o → IsAgain (value_of false text)
    by_truth None t = by_u64 (u64_of text) t refl
    by_truth (Some truth) t =
        let is : value_of false text ≡ Truth truth = rw t refl in
        subst IsAgain (sym is) (truth_again truth)
