-- What `parse` reads as a whole number.
use Rattle.std.proofs.Common.{◌≡◌, ℕ, ◌^◌, ◌<◌, true, false, List, Some, None, refl, arith, inl, inr, ℤ, pos, negsuc, ◌⊎◌, FitsSigned}
use Rattle.std.specs.Int.{w64}
use Rattle.env_directives.proofs.Common.{IsNumeral, digits_value, signed_digits_value, without_leading_plus, without_leading_sign, cases_lt, nat_tests, numeral_number, number_of_numeral, u64_of, i64_of, fits_i64}
use Rattle.std.proofs.lemmas.Bool.{lt-ltb}
use Rattle.std.proofs.lemmas.Int.{ints}

abbrev FitsU64 : List ℕ → Type 0
FitsU64 text = IsNumeral 10 (without_leading_plus text) × (digits_value 10 (without_leading_plus text) < 2 ^ 64)

pub u64_read : (text : List ℕ) (n : ℕ) → FitsU64 text × (n ≡ digits_value 10 (without_leading_plus text)) → u64_of text ≡ Some n
unfolding u64_of
u64_read text n h = rw (numeral_number (without_leading_plus text) h.0.0, lt-ltb _ _ h.0.1, h.1) refl

pub u64_unread : (text : List ℕ) → (FitsU64 text → ⊥) → u64_of text ≡ None
unfolding u64_of
u64_unread text h =
    let ds = without_leading_plus text in
    elim (number_of_numeral ds) [
      | inl none ↦ rw none refl
      | inr some ↦ rw some.1 (elim (cases_lt (digits_value 10 ds) (2 ^ 64)) [
        | inl fits ↦ absurd (h (some.0, fits))
        | inr past ↦ grind (arith, nat_tests)
      ])
    ]

abbrev FitsI64 : List ℕ → Type 0
FitsI64 text = IsNumeral 10 (without_leading_sign text) × FitsSigned w64 (signed_digits_value 10 text)

pub fits : (z : ℤ) → FitsSigned w64 z → fits_i64 z ≡ true
fits (pos n) h = lt-ltb n (2 ^ 63) (omega (arith, ints))
fits (negsuc n) h = lt-ltb n (2 ^ 63) (omega (arith, ints))

fits_or : (z : ℤ) → (FitsSigned w64 z) ⊎ (fits_i64 z ≡ false)
fits_or (pos n) = elim (cases_lt n (2 ^ 63)) [ inl lt ↦ inl (omega (arith, ints)) | inr past ↦ inr (grind (arith, nat_tests)) ]
fits_or (negsuc n) = elim (cases_lt n (2 ^ 63)) [ inl lt ↦ inl (omega (arith, ints)) | inr past ↦ inr (grind (arith, nat_tests)) ]

pub i64_read : (text : List ℕ) (z : ℤ) → FitsI64 text × (z ≡ signed_digits_value 10 text) → i64_of text ≡ Some z
unfolding i64_of
i64_read text z h = rw (numeral_number (without_leading_sign text) h.0.0, fits (signed_digits_value 10 text) h.0.1, h.1) refl

pub i64_unread : (text : List ℕ) → (FitsI64 text → ⊥) → i64_of text ≡ None
unfolding i64_of
i64_unread text h =
    elim (number_of_numeral (without_leading_sign text)) [
      | inl none ↦ rw none refl
      | inr some ↦ rw some.1 (elim (fits_or (signed_digits_value 10 text)) [
        | inl within ↦ absurd (h (some.0, within))
        | inr past ↦ rw past refl
      ])
    ]
