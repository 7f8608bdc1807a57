-- The digits of an id are read as the id.
use Rattle.trace_lines.proofs.Common.{List, Option, Some, [], ap, arith, digit_glyph, digit_value, false, hex16, hex32, length, nat_tests, number_of_hex, option_and_then, pow-le-pow_right, pow-succ', refl, suc, sym, with_more_digits, zero, ℕ, ◌%◌, ◌*◌, ◌+◌, ◌/◌, ◌<◌, ◌^◌, ◌∙◌, ◌∷◌, ◌≡◌, ◌≤◌}
use Rattle.std.proofs.lemmas.List.{length-append}
use Rattle.trace_lines.proofs.texts.HexLemmas.{last_digits, last_digits-hex16, last_digits-onto}

glyph_value : (d : ℕ) → d < 16 → digit_value (digit_glyph false d) ≡ Some d
glyph_value d small = grind (arith, nat_tests, small)

one_on : (d n : ℕ) (text : List ℕ) → d < 16 → with_more_digits (digit_glyph false d ∷ text) n ≡ with_more_digits text (16 * n + d)
one_on d n text small = ap (λ (o : Option ℕ). option_and_then (λ digit. with_more_digits text (16 * n + digit)) o) (glyph_value d small)

-- a number of less than 32 digits has room for one more
pub room : (i size n : ℕ) → i < size → size ≤ 32 → n < 16 ^ i → 16 * n + 16 ≤ 2 ^ 128
room i size n more few below =
    let most : 16 ^ i ≤ 2 ^ 124 = pow-le-pow_right {n = 16} (omega arith) {i = i} {j = 31} (omega (arith, more, few)) in
    omega (arith, below, most)

-- the digits of n go on behind a number
digits_on : (k n before : ℕ) (text : List ℕ) → n < 16 ^ k → with_more_digits (last_digits k n text) before ≡ with_more_digits text (16 ^ k * before + n)
unfolding last_digits
digits_on zero n before text below = ap (with_more_digits text) {x = before} {y = 16 ^ 0 * before + n} (omega (arith, below))
digits_on (suc k) n before text below =
    digits_on k (n / 16) before (digit_glyph false (n % 16) ∷ text) (omega (arith, below, pow-succ' 16 k))
    ∙ one_on (n % 16) (16 ^ k * before + n / 16) text (omega arith)
    ∙ ap (with_more_digits text) {x = 16 * (16 ^ k * before + n / 16) + n % 16} {y = 16 ^ suc k * before + n} (grows k n before)
  where
    grows : (k n before : ℕ) → 16 * (16 ^ k * before + n / 16) + n % 16 ≡ 16 ^ suc k * before + n
    grows k n before = omega arith ∙ ap (λ (m : ℕ). m * before + n) {x = 16 * 16 ^ k} {y = 16 ^ suc k} (omega (arith, pow-succ' 16 k))

so_many : (k n : ℕ) (text : List ℕ) → length (last_digits k n text) ≡ k + length text
unfolding last_digits
so_many zero n text = omega arith
so_many (suc k) n text = so_many k (n / 16) (digit_glyph false (n % 16) ∷ text) ∙ omega arith

hex16_length : (id : ℕ) → id < 2 ^ 64 → length (hex16 id) ≡ 16
hex16_length id below = ap length (sym (last_digits-hex16 id below)) ∙ so_many 16 id []

hex16_on : (id before : ℕ) → id < 2 ^ 64 → with_more_digits (hex16 id) before ≡ Some (2 ^ 64 * before + id)
hex16_on id before below = ap (λ (word : List ℕ). with_more_digits word before) (sym (last_digits-hex16 id below)) ∙ digits_on 16 id before [] below

pub id_read : (id : ℕ) → id < 2 ^ 64 → number_of_hex 16 (hex16 id) ≡ Some id
unfolding number_of_hex
id_read id below = rw (hex16_length id below) (hex16_on id 0 below ∙ ap Some {x = 2 ^ 64 * 0 + id} {y = id} (omega arith))

pub long_id_read : (id : ℕ) → id < 2 ^ 128 → number_of_hex 32 (hex32 id) ≡ Some id
unfolding number_of_hex
long_id_read id below =
    let high : id / 2 ^ 64 < 2 ^ 64 = omega (arith, below) in
    let low : id % 2 ^ 64 < 2 ^ 64 = omega arith in
    let size : length (hex32 id) ≡ 32 = length-append (hex16 (id / 2 ^ 64)) (hex16 (id % 2 ^ 64)) ∙ rw (hex16_length _ high, hex16_length _ low) refl in
    let front : with_more_digits (hex32 id) 0 ≡ with_more_digits (hex16 (id % 2 ^ 64)) (2 ^ 64 * 0 + id / 2 ^ 64) = ap (λ (word : List ℕ). with_more_digits word 0) (sym (last_digits-onto (id / 2 ^ 64) (hex16 (id % 2 ^ 64)) high)) ∙ digits_on 16 (id / 2 ^ 64) 0 (hex16 (id % 2 ^ 64)) high in
    rw size (front ∙ hex16_on (id % 2 ^ 64) (2 ^ 64 * 0 + id / 2 ^ 64) low ∙ ap Some {x = 2 ^ 64 * (2 ^ 64 * 0 + id / 2 ^ 64) + id % 2 ^ 64} {y = id} (omega arith))
