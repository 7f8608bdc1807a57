-- The value of each field is read as the field.
use Rattle.trace_lines.proofs.Common.{AllDigits, AreValuesInRange, HasBits, IsNumeral, IsValueInRange, List, None, Some, Value, [], ap, arith, as_str, decimal, decimal_is_IsNumeral_wide, each, error_form, field_of, i128_of_word, if_at_most, if◌then◌else◌, items, nat_le, nat_lt, nat_tests, neg_ℤ, negative_of, negsuc, nonnegative_of, option_and_then, option_map, pos, refl, signed_decimal, string, subst, suc, true, typed_form, value_spelled, written_field, written_value, ℕ, ℤ, ◌&&◌, ◌-◌, ◌<◌, ◌^◌, ◌∙◌, ◌∷◌, ◌≡◌, ◌≢◌}
use Rattle.std.proofs.lemmas.Str.Parse.{digit_from_value}
use Rattle.trace_base.specs.declared.field.Value.TheVariants.{Bool as Truth, I64, U64, I128, U128, Str, Debug, Error}
use Rattle.trace_lines.proofs.texts.DecimalsLemmas.{decimal_read, no_minus}

-- ---- signed numbers

-- digits don't begin with a minus
digits_first : (word : List ℕ) → IsNumeral 10 word → (rest : List ℕ) → word ≢ 45 ∷ rest
digits_first word numeral rest same = omega (arith, digit_from_value 45 (subst (AllDigits 10) same numeral.1).0)

above : (n : ℕ) → n < 2 ^ 127 → nonnegative_of n ≡ Some (pos n)
above n small = ap (option_map pos) {x = if_at_most (2 ^ 127 - 1) n} {y = Some n} (grind (arith, nat_tests, small))

below : (n : ℕ) → n < 2 ^ 127 → negative_of (suc n) ≡ Some (negsuc n)
below n small = ap (λ b. if b then Some (neg_ℤ (pos (suc n))) else None) {x = nat_le 1 (suc n) && nat_le (suc n) (2 ^ 127)} {y = true} (grind (arith, nat_tests, small))

signed_read : (z : ℤ) → HasBits 127 z → i128_of_word (signed_decimal z) ≡ Some z
signed_read (pos n) small =
    no_minus (decimal n) (digits_first (decimal n) (decimal_is_IsNumeral_wide n (omega (arith, small))).0)
    ∙ ap (option_and_then nonnegative_of) (decimal_read n (omega (arith, small))) ∙ above n small
signed_read (negsuc n) small = ap (option_and_then negative_of) (decimal_read (suc n) (omega (arith, small))) ∙ below n small

-- ---- values

pub texts_read : (chain : List (List ℕ)) → each as_str (items string chain) ≡ Some chain
texts_read [] = refl
texts_read (s ∷ chain) = ap (option_map (λ more. s ∷ more)) (texts_read chain)

pub small_number : (n : ℕ) → n < 2 ^ 63 → nat_lt n (2 ^ 63) ≡ true
small_number n small = grind (arith, nat_tests, small)

value_read : (v : Value) → IsValueInRange v → value_spelled (written_value v) ≡ Some v
unfolding typed_form error_form
value_read (Truth b) is = refl
value_read (I64 (pos n)) is = rw (small_number n is) refl
value_read (I64 (negsuc n)) is = refl
value_read (U64 n) is = refl
value_read (I128 z) is = rw (signed_read z is) refl
value_read (U128 n) is = rw (decimal_read n is) refl
value_read (Str s) is = refl
value_read (Debug s) is = refl
value_read (Error message chain) is = rw (texts_read chain) refl

-- ---- fields

field_read : (field : List ℕ × Value) → IsValueInRange field.1 → field_of (written_field field) ≡ Some field
field_read field is = ap (option_map (λ v. (field.0, v))) (value_read field.1 is)

pub fields_read : (fields : List (List ℕ × Value)) → AreValuesInRange fields → each field_of (items written_field fields) ≡ Some fields
fields_read [] all = refl
fields_read (f ∷ fields) all =
    ap (λ o. option_and_then (λ a. option_map (λ more. a ∷ more) (each field_of (items written_field fields))) o) (field_read f all.0)
    ∙ ap (option_map (λ more. f ∷ more)) (fields_read fields all.1)
