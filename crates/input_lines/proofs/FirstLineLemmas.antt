-- Where the first line ends.
use Rattle.std.proofs.Common.{◌≡◌, ℕ, List, [], ◌∷◌, ◌++◌, refl, sym, ap, ◌∙◌, take, drop, length, get_or, ◌+◌, ◌-◌, ◌<◌, ◌≤◌, ◌==◌, arith, zero, suc, Bool, true, false}
use Rattle.std.proofs.lemmas.List.{take-append-drop, drop_more, take_rest}
use Rattle.memchr.specs.Find.{Nowhere, Passes, is_byte}
use Rattle.trace_lines.specs.Lines.{with_byte_first, lines_of}

-- no byte is a line feed
abbrev pub NoFeed : List ℕ → Type 0
NoFeed [] = Unit {0}
NoFeed (b ∷ bs) = ((b == 10) ≡ false) × NoFeed bs

-- ---- the first line

pub ended_line : (line rest : List ℕ) → NoFeed line → lines_of (line ++ 10 ∷ rest) ≡ line ∷ lines_of rest
ended_line [] rest none = refl
ended_line (b ∷ bs) rest none = rw none.0 (ap (with_byte_first b) (ended_line bs rest none.1))

last_line : (b : ℕ) (bs : List ℕ) → NoFeed (b ∷ bs) → lines_of (b ∷ bs) ≡ (b ∷ bs) ∷ []
last_line b [] none = rw none.0 refl
last_line b (c ∷ bs) none = rw none.0 (ap (with_byte_first b) (last_line c bs none.1))

-- the only line, where no line feed comes
pub only_line : (bytes : List ℕ) → 0 < length bytes → NoFeed bytes → lines_of bytes ≡ bytes ∷ []
only_line [] some none = absurd (omega (arith, some))
only_line (b ∷ bs) some none = last_line b bs none

-- the first line, where a line feed ends it
pub fed_line : (bytes : List ℕ) (at : ℕ) → NoFeed (take at bytes) → at < length bytes → get_or bytes at 0 ≡ 10
    → lines_of bytes ≡ take at bytes ∷ lines_of (take (length bytes - (at + 1)) (drop (at + 1) bytes))
fed_line bytes at none within feed =
    rw (take_rest bytes (at + 1)) (ap lines_of (sym (take-append-drop at bytes) ∙ ap (λ (r : List ℕ). take at bytes ++ r) (drop_more bytes at 0 within ∙ ap (λ (b : ℕ). b ∷ drop (at + 1) bytes) feed))
    ∙ ended_line (take at bytes) (drop (at + 1) bytes) none)

-- ---- where a search found the first line feed, or the last

unpassed : (t : Bool) → (t ≡ true → ⊥) → t ≡ false
unpassed true none = absurd (none refl)
unpassed false none = refl

-- no byte before a place is a line feed
pub feedless_before : (bs : List ℕ) (at : ℕ) → at ≤ length bs → Nowhere (Passes (is_byte 10) bs) 0 at → NoFeed (take at bs)
feedless_before bs zero within none = tt
feedless_before [] (suc at) within none = absurd (omega (arith, within))
feedless_before (b ∷ bs) (suc at) within none =
    (unpassed (b == 10) (none 0 (omega arith) (omega arith)), feedless_before bs at (omega (arith, within)) (λ k low below. none (suc k) (omega arith) (omega (arith, below))))

-- no byte from a place on is a line feed
pub feedless_from : (bs : List ℕ) (at : ℕ) → Nowhere (Passes (is_byte 10) bs) at (length bs) → NoFeed (drop at bs)
feedless_from [] zero none = tt
feedless_from [] (suc at) none = tt
feedless_from (b ∷ bs) zero none =
    (unpassed (b == 10) (none 0 (omega arith) (omega arith)), feedless_from bs zero (λ k low below. none (suc k) (omega arith) (omega (arith, below))))
feedless_from (b ∷ bs) (suc at) none =
    feedless_from bs at (λ k low below. none (suc k) (omega (arith, low)) (omega (arith, below)))

-- ---- where no byte is left

pub none_left : (rest : List ℕ) → length rest ≡ 0 → lines_of rest ≡ []
none_left [] none = refl
none_left (b ∷ bs) none = absurd (omega (arith, none))
