-- What is past ASCII, and what prints and is no mark, stands in markup as it is; and no mark stands there.
use Rattle.std.proofs.Common.{◌≡◌, ℕ, ◌+◌, ◌<◌, ◌≤◌, ◌≢◌, false, List, [], ◌∷◌, length, get_or, flat_map, encode_utf8, refl, sym, ap, ◌∙◌, arith, append-nil}
use Rattle.std.specs.List.{list_any}
use Rattle.std.proofs.lemmas.Grind.{common_steps}
use Rattle.std.proofs.lemmas.List.Folds.{list_any-append}
use Rattle.std.proofs.lemmas.Str.{encode_ascii, inside_one}
use Rattle.convert_base.specs.Markup.{escaped_byte, is_mark}

as_it_stands : (b : ℕ) → 32 ≤ b → b ≢ 34 → b ≢ 38 → b ≢ 39 → b ≢ 60 → b ≢ 62 → b ≢ 127 → escaped_byte b ≡ b ∷ []
unfolding escaped_byte
as_it_stands b printing quote ampersand apostrophe less greater delete = grind (arith, common_steps)

wide_run : (bs : List ℕ) → ((k : ℕ) → k < length bs → 128 ≤ get_or bs k 0) → flat_map escaped_byte bs ≡ bs
wide_run [] h = refl
wide_run (b ∷ bs) h =
    let head : 128 ≤ b = grind (arith, common_steps, h 0) in
    let tail : (k : ℕ) → k < length bs → 128 ≤ get_or bs k 0 = λ k lt. grind (arith, common_steps, h (k + 1)) in
    rw (as_it_stands b (omega arith) (omega arith) (omega arith) (omega arith) (omega arith) (omega arith) (omega arith), wide_run bs tail) refl

wide_bytes : (c k : ℕ) → 128 ≤ c → k < length (encode_utf8 c) → 128 ≤ get_or (encode_utf8 c) k 0
wide_bytes c k h lt = grind (arith, inside_one c [] (encode_utf8 c) k (sym (append-nil (encode_utf8 c))) lt)

wide : (c : ℕ) → 128 ≤ c → flat_map escaped_byte (encode_utf8 c) ≡ encode_utf8 c
wide c h = wide_run (encode_utf8 c) (λ k lt. wide_bytes c k h lt)

ascii : (c : ℕ) → c < 128 → flat_map escaped_byte (encode_utf8 c) ≡ escaped_byte c
ascii c h = ap (flat_map escaped_byte) (encode_ascii c h) ∙ append-nil (escaped_byte c)

pub plain : (c : ℕ) → 32 ≤ c → c ≢ 34 → c ≢ 38 → c ≢ 39 → c ≢ 60 → c ≢ 62 → c ≢ 127 → flat_map escaped_byte (encode_utf8 c) ≡ encode_utf8 c
plain c printing quote ampersand apostrophe less greater delete =
    grind (arith, common_steps, wide c, ascii c, encode_ascii c, as_it_stands c printing quote ampersand apostrophe less greater delete)

inert_byte : (b : ℕ) → list_any is_mark (escaped_byte b) ≡ false
unfolding escaped_byte
inert_byte b = grind (arith, common_steps)

pub inert : (text : List ℕ) → list_any is_mark (flat_map escaped_byte text) ≡ false
inert [] = refl
inert (b ∷ text) = rw (list_any-append is_mark (escaped_byte b) (flat_map escaped_byte text), inert_byte b, inert text) refl
