-- What is past ASCII, and what prints, is quoted as it stands.
use Rattle.std.proofs.Common.{◌≡◌, ℕ, ◌+◌, ◌<◌, ◌≤◌, ◌≢◌, List, [], ◌∷◌, length, get_or, flat_map, encode_utf8, refl, sym, ap, ◌∙◌, arith, append-nil}
use Rattle.std.proofs.lemmas.Grind.{common_steps}
use Rattle.std.proofs.lemmas.Str.{encode_ascii, inside_one}
use Rattle.trace_base.specs.words.Quote.{quoted_byte}

as_it_stands : (b : ℕ) → 32 ≤ b → b ≢ 34 → b ≢ 92 → b ≢ 127 → quoted_byte b ≡ b ∷ []
unfolding quoted_byte
as_it_stands b printing quote slash delete = grind (arith, common_steps)

wide_run : (bs : List ℕ) → ((k : ℕ) → k < length bs → 128 ≤ get_or bs k 0) → flat_map quoted_byte bs ≡ bs
wide_run [] h = refl
wide_run (b ∷ bs) h =
    let head : 128 ≤ b = grind (arith, common_steps, h 0) in
    let tail : (k : ℕ) → k < length bs → 128 ≤ get_or bs k 0 = λ k lt. grind (arith, common_steps, h (k + 1)) in
    rw (as_it_stands b (omega arith) (omega arith) (omega arith) (omega arith), wide_run bs tail) refl

wide_bytes : (c k : ℕ) → 128 ≤ c → k < length (encode_utf8 c) → 128 ≤ get_or (encode_utf8 c) k 0
wide_bytes c k h lt = grind (arith, inside_one c [] (encode_utf8 c) k (sym (append-nil (encode_utf8 c))) lt)

wide : (c : ℕ) → 128 ≤ c → flat_map quoted_byte (encode_utf8 c) ≡ encode_utf8 c
wide c h = wide_run (encode_utf8 c) (λ k lt. wide_bytes c k h lt)

ascii : (c : ℕ) → c < 128 → flat_map quoted_byte (encode_utf8 c) ≡ quoted_byte c
ascii c h = ap (flat_map quoted_byte) (encode_ascii c h) ∙ append-nil (quoted_byte c)

pub plain : (c : ℕ) → 32 ≤ c → c ≢ 34 → c ≢ 92 → c ≢ 127 → flat_map quoted_byte (encode_utf8 c) ≡ encode_utf8 c
plain c printing quote slash delete = grind (arith, common_steps, wide c, ascii c, encode_ascii c, as_it_stands c printing quote slash delete)
