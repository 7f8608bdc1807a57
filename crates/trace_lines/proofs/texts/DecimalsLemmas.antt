-- A text that is read as a number of 128 bits, beside the number whose decimal it is.
use Rattle.trace_lines.proofs.Common.{Bool, Err, List, None, Ok, ParsesUnsigned, Result, Some, [], ap, arith, bytes_eq, bytes_eq-Decides, decimal, decimal_is_IsNumeral_wide, digits_value, drop, false, false_from_ne_true, i128_of_word, if_at_most, if_decimal, if◌then◌else◌, nat_le, nat_tests, negative_of, nonnegative_of, option_and_then, parse-decimal_wide, refl, starts_with_minus, subst, sym, true, u128_of_word, ℕ, ◌-◌, ◌<◌, ◌^◌, ◌∙◌, ◌∷◌, ◌≡◌, ◌≢◌}
use Rattle.std.proofs.lemmas.Bool.{ne_eqb}

fits : (n : ℕ) → n < 2 ^ 128 → if_at_most (2 ^ 128 - 1) n ≡ Some n
fits n small = grind (arith, nat_tests, small)

same : (word : List ℕ) → bytes_eq word word ≡ true
same word = (bytes_eq-Decides word word).1 refl

-- the decimal of a number spells it
pub decimal_read : (n : ℕ) → n < 2 ^ 128 → u128_of_word (decimal n) ≡ Some n
unfolding u128_of_word
decimal_read n small =
    ap (λ m. option_and_then (if_decimal (decimal n)) (if_at_most (2 ^ 128 - 1) m)) (decimal_is_IsNumeral_wide n (omega (arith, small))).1
    ∙ ap (option_and_then (if_decimal (decimal n))) (fits n small)
    ∙ ap (λ b. if b then Some n else None) (same (decimal n))

-- where a text is read as a number whose decimal it is, it spells that
pub is_spelled : (word : List ℕ) (n : ℕ) → ParsesUnsigned {E = Unit {0}} 128 10 word (Ok n) → decimal n ≡ word → u128_of_word word ≡ Some n
is_spelled word n reads is = subst (λ w. u128_of_word w ≡ Some n) is (decimal_read n (omega (arith, reads.0.1, reads.1)))

none_spelled : (word : List ℕ) (n : ℕ) → ((m : ℕ) → m < 2 ^ 128 → decimal m ≡ word → ⊥) → option_and_then (if_decimal word) (if_at_most (2 ^ 128 - 1) n) ≡ None
none_spelled word n none = by (nat_le n (2 ^ 128 - 1)) refl where
  by : (b : Bool) → nat_le n (2 ^ 128 - 1) ≡ b → option_and_then (if_decimal word) (if b then Some n else None) ≡ None
  by true within = ap (λ b. if b then Some n else None) (false_from_ne_true (bytes_eq (decimal n) word) (λ is. none n (grind (arith, nat_tests, within)) ((bytes_eq-Decides (decimal n) word).0 is)))
  by false past = refl

abbrev IsError : Result ℕ (Unit {0}) → Type 0
IsError (Ok n) = ⊥
IsError (Err e) = Unit {0}

abbrev number_of : Result ℕ (Unit {0}) → ℕ
number_of (Ok n) = n
number_of (Err e) = 0

-- where a text is read as no number, it is the decimal of none
pub no_number : (word : List ℕ) → ParsesUnsigned {E = Unit {0}} 128 10 word (Err tt) → u128_of_word word ≡ None
unfolding u128_of_word
no_number word reads =
    none_spelled word (digits_value 10 word) (λ m small is. subst IsError (parse-decimal_wide {E = Unit {0}} 128 m word (Err tt) small (omega (arith, small)) (sym is) reads) tt)

-- where it is read as a number, it is the decimal of no other
pub no_decimal : (word : List ℕ) (n : ℕ) → ParsesUnsigned {E = Unit {0}} 128 10 word (Ok n) → decimal n ≢ word → u128_of_word word ≡ None
unfolding u128_of_word
no_decimal word n reads other =
    none_spelled word (digits_value 10 word)
    (λ m small is. other (ap (λ k. decimal k) (ap number_of (parse-decimal_wide {E = Unit {0}} 128 m word (Ok n) small (omega (arith, small)) (sym is) reads)) ∙ is))

-- ---- signed numbers

pub with_minus : (word digits : List ℕ) → word ≡ 45 ∷ digits → i128_of_word word ≡ option_and_then negative_of (u128_of_word digits)
with_minus word digits is = ap i128_of_word is

no_minus_first : (word : List ℕ) → ((rest : List ℕ) → word ≢ 45 ∷ rest) → starts_with_minus word ≡ false
no_minus_first [] none = refl
no_minus_first (b ∷ bs) none = ne_eqb b 45 (λ same. none bs (ap (λ x. x ∷ bs) same))

pub no_minus : (word : List ℕ) → ((rest : List ℕ) → word ≢ 45 ∷ rest) → i128_of_word word ≡ option_and_then nonnegative_of (u128_of_word word)
no_minus word none = ap (λ b. if b then option_and_then negative_of (u128_of_word (drop 1 word)) else option_and_then nonnegative_of (u128_of_word word)) (no_minus_first word none)
