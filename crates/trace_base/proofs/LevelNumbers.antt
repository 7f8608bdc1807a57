-- A number of any length, read as a byte: one that does not fit names no filter.
use Rattle.std.proofs.Common.{◌≡◌, ℕ, ◌^◌, ◌<◌, ◌≤◌, ◌&&◌, Bool, true, false, true≢false, List, [], ◌∷◌, length, Some, None, ◌⊎◌, refl, sym, arith, inl, inr}
use Rattle.std.specs.Prelude.{nat_lt}
use Rattle.std.specs.Char.{is_ascii_digit}
use Rattle.std.specs.Option.{option_and_then}
use Rattle.std.specs.Str.{all_ascii_digits}
use Rattle.std.specs.Str.Parse.{AllDigits, IsNumeral, digits_value, without_leading_plus}
use Rattle.std.proofs.lemmas.Bool.{lt-ltb, ltb-true, cases_lt}
use Rattle.std.proofs.lemmas.Grind.{common_steps}
use Rattle.trace_base.specs.words.LevelWords.{digits_number, decimal_value, filter_of_number}

pub digits_pass : (ds : List ℕ) → AllDigits 10 ds → all_ascii_digits ds ≡ true
digits_pass [] h = refl
digits_pass (d ∷ ds) h = grind (arith, common_steps, h.0, digits_pass ds h.1)

both : (a b : Bool) → (a && b) ≡ true → (a ≡ true) × (b ≡ true)
both true b e = (refl, e)
both false b e = absurd (true≢false (sym e))

digits_from : (ds : List ℕ) → all_ascii_digits ds ≡ true → AllDigits 10 ds
digits_from [] e = tt
digits_from (d ∷ ds) e =
    let parts = both (is_ascii_digit d) (all_ascii_digits ds) e in
    (grind (arith, common_steps, parts.0), digits_from ds parts.1)

past_all : (n : ℕ) → 256 ≤ n → filter_of_number n ≡ None
unfolding filter_of_number
past_all n h = grind (arith, common_steps)

-- digits are a numeral exactly where they have a number
pub numeral_number : (ds : List ℕ) → IsNumeral 10 ds → digits_number ds ≡ Some (digits_value 10 ds)
unfolding digits_number
numeral_number ds h = rw (lt-ltb 0 (length ds) h.0, digits_pass ds h.1) refl

pub number_of_numeral : (ds : List ℕ) → (digits_number ds ≡ None) ⊎ (IsNumeral 10 ds × (digits_number ds ≡ Some (digits_value 10 ds)))
unfolding digits_number
number_of_numeral ds = go (nat_lt 0 (length ds) && all_ascii_digits ds) refl
  where
    go : (b : Bool) → (nat_lt 0 (length ds) && all_ascii_digits ds) ≡ b → (digits_number ds ≡ None) ⊎ (IsNumeral 10 ds × (digits_number ds ≡ Some (digits_value 10 ds)))
    go false t = inl (rw t refl)
    go true t =
        let parts = both (nat_lt 0 (length ds)) (all_ascii_digits ds) t in
        inr ((ltb-true 0 (length ds) parts.0, digits_from ds parts.1), rw t refl)

abbrev FitsByte : List ℕ → Type 0
FitsByte text = IsNumeral 10 (without_leading_plus text) × (digits_value 10 (without_leading_plus text) < 2 ^ 8)

pub byte_read : (text : List ℕ) (n : ℕ) → FitsByte text × (n ≡ digits_value 10 (without_leading_plus text)) → option_and_then filter_of_number (decimal_value text) ≡ filter_of_number n
byte_read text n h = rw (numeral_number (without_leading_plus text) h.0.0, h.1) refl

pub no_byte_read : (text : List ℕ) → (FitsByte text → ⊥) → option_and_then filter_of_number (decimal_value text) ≡ None
no_byte_read text h =
    let ds = without_leading_plus text in
    elim (number_of_numeral ds) [
      | inl none ↦ rw none refl
      | inr some ↦ rw some.1 (elim (cases_lt (digits_value 10 ds) 256) [
        | inl fits ↦ absurd (h (some.0, fits))
        | inr past ↦ past_all (digits_value 10 ds) past
      ])
    ]
