-- The digits of an id, put down from the last to the first.
use Rattle.trace_lines.proofs.Common.{Bool, Err, IsOk, IsUtf8-append, IsUtf8-from_ascii, List, MatchResult, Ok, Result, [], ap, append-nil, arith, cond, digit_glyph, digits, digits_onto, drop, drop-set, escape, escape_byte, false, hex16, hex32, length, nat_tests, pow-succ', refl, replicate, slice_set, subst, suc, sym, take, true, zero, ℕ, ◌%◌, ◌++◌, ◌+◌, ◌-◌, ◌/◌, ◌<◌, ◌==◌, ◌^◌, ◌∙◌, ◌∷◌, ◌≡◌, ◌≤◌}
use Rattle.std.specs.Str.{IsUtf8, IsAscii}
use Rattle.std.proofs.lemmas.Str.Ascii.{IsAscii-nil, IsAscii-cons}
use Rattle.std.proofs.lemmas.Bool.{eqb-true}
use Rattle.std.proofs.Math.ListN.{take-append-drop}
use Rattle.trace_lines.proofs.texts.EscapesLemmas.{plain_byte, escape_append}

-- the last k digits of n, in front of some text
unfoldable pub last_digits : ℕ → ℕ → List ℕ → List ℕ
last_digits zero n text = text
last_digits (suc k) n text = last_digits k (n / 16) (digit_glyph false (n % 16) ∷ text)

pub last_digits-append : (k n : ℕ) (front text : List ℕ) → last_digits k n (front ++ text) ≡ last_digits k n front ++ text
unfolding last_digits
last_digits-append zero n front text = refl
last_digits-append (suc k) n front text = last_digits-append k (n / 16) (digit_glyph false (n % 16) ∷ front) text

-- ---- k digits are the digits of n, with zeros first

zeros_front : (k : ℕ) (text : List ℕ) → replicate k 48 ++ (48 ∷ text) ≡ 48 ∷ (replicate k 48 ++ text)
zeros_front zero text = refl
zeros_front (suc k) text = ap (λ (t : List ℕ). 48 ∷ t) (zeros_front k text)

all_zeros : (k : ℕ) (text : List ℕ) → last_digits k 0 text ≡ replicate k 48 ++ text
unfolding last_digits
all_zeros zero text = refl
all_zeros (suc k) text = all_zeros k (48 ∷ text) ∙ zeros_front k text

-- n has at most k digits, or is 0
abbrev HasAtMost : ℕ → ℕ → Type 0
HasAtMost zero n = n ≡ 0
HasAtMost (suc k) n = HasAtMost k (n / 16)

has_at_most : (k n : ℕ) → n < 16 ^ k → HasAtMost k n
has_at_most zero n below = omega (arith, below)
has_at_most (suc k) n below = has_at_most k (n / 16) (omega (arith, below, pow-succ' 16 k))

abbrev after_zeros : ℕ → List ℕ → List ℕ
after_zeros k text = replicate (k - length text) 48 ++ text

zeros_by : (k n g : ℕ) (text more : List ℕ) (t : Bool) → (n == 0) ≡ t → (t ≡ false → last_digits k n (g ∷ text) ≡ after_zeros (k + length (g ∷ text)) more) → last_digits k n (g ∷ text) ≡ after_zeros (suc k + length text) (cond t (g ∷ text) more)
zeros_by k n g text more true is next =
    ap (λ (m : ℕ). last_digits k m (g ∷ text)) (eqb-true n 0 is) ∙ all_zeros k (g ∷ text)
    ∙ ap (λ (m : ℕ). replicate m 48 ++ (g ∷ text)) {x = k} {y = suc k + length text - length (g ∷ text)} (omega arith)
zeros_by k n g text more false is next = next refl ∙ ap (λ (m : ℕ). after_zeros m more) {x = k + length (g ∷ text)} {y = suc k + length text} (omega arith)

zeros_first : (k m n : ℕ) (text : List ℕ) → k ≤ m → HasAtMost k (n / 16) → last_digits (suc k) n text ≡ after_zeros (suc k + length text) (digits_onto (suc m) 16 false n text)
unfolding last_digits
zeros_first zero m n text small few =
    zeros_by zero (n / 16) (digit_glyph false (n % 16)) text (digits_onto m 16 false (n / 16) (digit_glyph false (n % 16) ∷ text)) (n / 16 == 0) refl
    (λ more. absurd (grind (arith, nat_tests, few, more)))
zeros_first (suc k) zero n text small few = absurd (omega (arith, small))
zeros_first (suc k) (suc m) n text small few =
    zeros_by (suc k) (n / 16) (digit_glyph false (n % 16)) text (digits_onto (suc m) 16 false (n / 16) (digit_glyph false (n % 16) ∷ text)) (n / 16 == 0) refl
    (λ more. zeros_first k m (n / 16) (digit_glyph false (n % 16) ∷ text) (omega (arith, small)) few)

pub last_digits-hex16 : (id : ℕ) → id < 2 ^ 64 → last_digits 16 id [] ≡ hex16 id
unfolding hex16 digits
last_digits-hex16 id below = zeros_first 15 63 id [] (omega arith) (has_at_most 15 (id / 16) (omega (arith, below)))

pub last_digits-onto : (id : ℕ) (text : List ℕ) → id < 2 ^ 64 → last_digits 16 id text ≡ hex16 id ++ text
last_digits-onto id text below = last_digits-append 16 id [] text ∙ ap (λ (front : List ℕ). front ++ text) (last_digits-hex16 id below)

-- ---- the digits are UTF-8

glyph_small : (d : ℕ) → d < 16 → digit_glyph false d < 128
glyph_small d small = grind (arith, nat_tests, small)

last_digits_ascii : (k n : ℕ) (text : List ℕ) → IsAscii text → IsAscii (last_digits k n text)
unfolding last_digits
last_digits_ascii zero n text ascii = ascii
last_digits_ascii (suc k) n text ascii = last_digits_ascii k (n / 16) _ (IsAscii-cons (digit_glyph false (n % 16)) text (glyph_small (n % 16) (omega arith)) ascii)

pub hex16_utf8 : (id : ℕ) → id < 2 ^ 64 → IsUtf8 (hex16 id)
hex16_utf8 id below = IsUtf8-from_ascii (hex16 id) (subst IsAscii (last_digits-hex16 id below) (last_digits_ascii 16 id [] IsAscii-nil))

pub hex32_utf8 : (id : ℕ) → id < 2 ^ 128 → IsUtf8 (hex32 id)
hex32_utf8 id below = IsUtf8-append _ _ (hex16_utf8 (id / 2 ^ 64) (omega (arith, below))) (hex16_utf8 (id % 2 ^ 64) (omega arith))

-- ---- the digits need no escape

glyph_plain : (d : ℕ) → d < 16 → escape_byte (digit_glyph false d) ≡ digit_glyph false d ∷ []
glyph_plain d small =
    plain_byte (digit_glyph false d) (λ quote. grind (arith, nat_tests, small, quote)) (λ slash. grind (arith, nat_tests, small, slash)) (grind (arith, nat_tests, small))

last_digits_plain : (k n : ℕ) (text : List ℕ) → escape text ≡ text → escape (last_digits k n text) ≡ last_digits k n text
unfolding last_digits
last_digits_plain zero n text plain = plain
last_digits_plain (suc k) n text plain =
    let glyph = digit_glyph false (n % 16) in
    last_digits_plain k (n / 16) (glyph ∷ text)
    (ap (λ (l : List ℕ). l ++ escape text) (glyph_plain (n % 16) (omega arith)) ∙ ap (λ (l : List ℕ). glyph ∷ l) plain)

hex16_plain : (id : ℕ) → id < 2 ^ 64 → escape (hex16 id) ≡ hex16 id
hex16_plain id below = subst (λ (l : List ℕ). escape l ≡ l) (last_digits-hex16 id below) (last_digits_plain 16 id [] refl)

hex32_plain : (id : ℕ) → id < 2 ^ 128 → escape (hex32 id) ≡ hex32 id
hex32_plain id below =
    escape_append (hex16 (id / 2 ^ 64)) (hex16 (id % 2 ^ 64))
    ∙ ap (λ (l : List ℕ). l ++ escape (hex16 (id % 2 ^ 64))) (hex16_plain (id / 2 ^ 64) (omega (arith, below)))
    ∙ ap (λ (l : List ℕ). hex16 (id / 2 ^ 64) ++ l) (hex16_plain (id % 2 ^ 64) (omega arith))

-- ---- in the buffers

pub is_ok : {S E : Type 0} (r : Result S E) (P : S → Type 0) (U : Type 0) (Q : E → Type 0) → MatchResult r P (λ e. (U → ⊥) × Q e) → U → IsOk r
is_ok (Ok s) P U Q cases is = refl
is_ok (Err e) P U Q cases is = absurd (cases.0 is)

pub whole_list : (digits : List ℕ) (id : ℕ) → drop 0 digits ≡ hex16 id ++ [] → digits ≡ hex16 id
whole_list digits id is = is ∙ append-nil (hex16 id)

pub both_halves : (digits low : List ℕ) (id : ℕ) → drop 16 low ≡ hex16 (id % 2 ^ 64) ++ [] → drop 0 digits ≡ hex16 (id / 2 ^ 64) ++ drop 16 low → digits ≡ hex32 id
both_halves digits low id is_low is = is ∙ ap (λ (text : List ℕ). hex16 (id / 2 ^ 64) ++ text) (is_low ∙ append-nil (hex16 (id % 2 ^ 64)))

next_digit : (k j rest next at : ℕ) (digits : List ℕ) → j ≡ suc k → next ≡ at
    → last_digits k (rest / 16) (digit_glyph false (rest % 16) ∷ drop next digits) ≡ last_digits j rest (drop at digits)
unfolding last_digits
next_digit k j rest next at digits one same = rw (one, same)

-- one digit more is put down
pub digit_put : (start at rest digit : ℕ) (digits : List ℕ) → start < at → at ≤ length digits → digit ≡ digit_glyph false (rest % 16)
    → last_digits (at - 1 - start) (rest / 16) (drop (at - 1) (slice_set digits (at - 1) digit)) ≡ last_digits (at - start) rest (drop at digits)
digit_put start at rest digit digits more within is =
    rw (drop-set digits (at - 1) digit (omega arith), is) (next_digit (at - 1 - start) (at - start) rest (at - 1 + 1) at digits (omega arith) (omega arith))

-- the zeros in front of what is put
zero_set : (k digit : ℕ) (text : List ℕ) → slice_set (replicate (suc k) 48 ++ text) k digit ≡ replicate k 48 ++ digit ∷ text
zero_set zero digit text = refl
zero_set (suc k) digit text = ap (λ (t : List ℕ). 48 ∷ t) (zero_set k digit text)

zeros_set : (start at k digit : ℕ) (old text : List ℕ) → at ≡ start + k → drop start old ≡ replicate (suc k) 48 ++ text → drop start (slice_set old at digit) ≡ replicate k 48 ++ digit ∷ text
zeros_set zero at k digit old text there is =
    ap (λ (i : ℕ). slice_set old i digit) {x = at} {y = k} (omega (arith, there)) ∙ ap (λ (l : List ℕ). slice_set l k digit) is ∙ zero_set k digit text
zeros_set (suc start) at k digit [] text there is = absurd (omega (arith, ap length is))
zeros_set (suc start) zero k digit (x ∷ old) text there is = absurd (omega (arith, there))
zeros_set (suc start) (suc at) k digit (x ∷ old) text there is = zeros_set start at k digit old text (omega (arith, there)) is

front_set : (start at digit : ℕ) (old : List ℕ) → start ≤ at → take start (slice_set old at digit) ≡ take start old
front_set zero at digit old below = refl
front_set (suc start) at digit [] below = refl
front_set (suc start) zero digit (x ∷ old) below = absurd (omega (arith, below))
front_set (suc start) (suc at) digit (x ∷ old) below = ap (λ (l : List ℕ). x ∷ l) (front_set start at digit old (omega (arith, below)))

-- a digit more leaves one zero less
pub zeros_put : (start at digit : ℕ) (old : List ℕ) → start < at → at ≤ length old → drop start old ≡ replicate (at - start) 48 ++ drop at old
    → drop start (slice_set old (at - 1) digit) ≡ replicate (at - 1 - start) 48 ++ drop (at - 1) (slice_set old (at - 1) digit)
zeros_put start at digit old more within are =
    zeros_set start (at - 1) (at - 1 - start) digit old (drop at old) (omega (arith, more)) (are ∙ ap (λ (k : ℕ). replicate k 48 ++ drop at old) {x = at - start} {y = suc (at - 1 - start)} (omega (arith, more)))
    ∙ ap (λ (l : List ℕ). replicate (at - 1 - start) 48 ++ l) (sym (drop-set old (at - 1) digit (omega (arith, more, within)) ∙ ap (λ (i : ℕ). digit ∷ drop i old) {x = at - 1 + 1} {y = at} (omega (arith, more))))

-- what stands in front stays
pub front_put : (start at digit : ℕ) (old : List ℕ) → start < at → take start (slice_set old (at - 1) digit) ≡ take start old
front_put start at digit old more = front_set start (at - 1) digit old (omega (arith, more))

-- where zeros alone are left, they stand there
pub zeros_left : (start at rest : ℕ) (digits : List ℕ) → rest ≡ 0 → drop start digits ≡ replicate (at - start) 48 ++ drop at digits → last_digits (at - start) rest (drop at digits) ≡ drop start digits
zeros_left start at rest digits none are =
    ap (λ (n : ℕ). last_digits (at - start) n (drop at digits)) none ∙ all_zeros (at - start) (drop at digits) ∙ sym are

-- no digit is left
pub all_put : (start at rest : ℕ) (digits : List ℕ) → at ≡ start → last_digits (at - start) rest (drop at digits) ≡ drop start digits
unfolding last_digits
all_put start at rest digits is = rw is (ap (λ (k : ℕ). last_digits k rest (drop start digits)) {x = start - start} {y = 0} (omega arith))

pub buffer_utf8 : (digits : List ℕ) (id : ℕ) → drop 0 digits ≡ hex16 id ++ [] → id < 2 ^ 64 → IsUtf8 digits
buffer_utf8 digits id is below = subst IsUtf8 (sym (whole_list digits id is)) (hex16_utf8 id below)

pub long_buffer_utf8 : (digits low : List ℕ) (id : ℕ) → drop 16 low ≡ hex16 (id % 2 ^ 64) ++ [] → drop 0 digits ≡ hex16 (id / 2 ^ 64) ++ drop 16 low → id < 2 ^ 128 → IsUtf8 digits
long_buffer_utf8 digits low id is_low is below = subst IsUtf8 (sym (both_halves digits low id is_low is)) (hex32_utf8 id below)

pub buffer_plain : (digits : List ℕ) (id : ℕ) → drop 0 digits ≡ hex16 id ++ [] → id < 2 ^ 64 → escape digits ≡ digits
buffer_plain digits id is below = subst (λ (l : List ℕ). escape l ≡ l) (sym (whole_list digits id is)) (hex16_plain id below)

pub long_buffer_plain : (digits low : List ℕ) (id : ℕ) → drop 16 low ≡ hex16 (id % 2 ^ 64) ++ [] → drop 0 digits ≡ hex16 (id / 2 ^ 64) ++ drop 16 low → id < 2 ^ 128 → escape digits ≡ digits
long_buffer_plain digits low id is_low is below = subst (λ (l : List ℕ). escape l ≡ l) (sym (both_halves digits low id is_low is)) (hex32_plain id below)
