-- Parts of a text that stand beside ASCII.
use Rattle.std.proofs.Common.{◌≡◌, ℕ, ◌+◌, ◌-◌, ◌<◌, List, [], ◌∷◌, ◌++◌, length, get_or, take, drop, refl, sym, ap, subst, ◌∙◌, append_assoc, length-append, arith}
use Rattle.std.proofs.Math.Seq.{take_at, drop_at, get_or_at}
use Rattle.std.proofs.lemmas.Str.{IsCharBoundary-after_ascii}
use Rattle.std.specs.Str.{IsCharBoundary, IsUtf8}

front_length : (whole front rest : List ℕ) (last : ℕ) → whole ≡ front ++ last ∷ rest → length whole ≡ length front + 1 + length rest
front_length whole front rest last is = omega (arith, ap (λ (l : List ℕ). length l) is, length-append front (last ∷ rest))

-- what stands behind a byte
pub behind_part : (whole front rest : List ℕ) (last at : ℕ) → whole ≡ front ++ last ∷ rest → at ≡ length whole - length rest → drop at whole ≡ rest
behind_part whole front rest last at is there =
    ap (λ (l : List ℕ). drop at l) (is ∙ sym (append_assoc front (last ∷ []) rest))
    ∙ drop_at (front ++ last ∷ []) rest at (omega (arith, there, length-append front (last ∷ []), front_length whole front rest last is))

pub behind_boundary : (whole front rest : List ℕ) (last at : ℕ) → IsUtf8 whole → whole ≡ front ++ last ∷ rest → last < 128 → at ≡ length whole - length rest → IsCharBoundary whole at
behind_boundary whole front rest last at utf8 is small there =
    let size = front_length whole front rest last is in
    let byte : get_or whole (length front) 0 ≡ last = ap (λ (l : List ℕ). get_or l (length front) 0) is ∙ get_or_at front last rest 0 (length front) refl in
    subst (λ (i : ℕ). IsCharBoundary whole i) {x = length front + 1} {y = at} (omega (arith, there, size))
    (IsCharBoundary-after_ascii whole (length front) utf8 (omega (arith, size)) (omega (arith, byte, small)))

-- what stands between two quotes
pub between_start : (whole front words rest : List ℕ) (start : ℕ) → IsUtf8 whole → whole ≡ front ++ 34 ∷ (words ++ 34 ∷ rest) → start ≡ length whole - length rest - 1 - length words → IsCharBoundary whole start
between_start whole front words rest start utf8 is there =
    behind_boundary whole front (words ++ 34 ∷ rest) 34 start utf8 is (omega arith) (omega (arith, there, length-append words (34 ∷ rest)))

pub between_part : (whole front words rest : List ℕ) (start end : ℕ) → whole ≡ front ++ 34 ∷ (words ++ 34 ∷ rest) → end ≡ length whole - length rest - 1 → start ≡ end - length words → take (end - start) (drop start whole) ≡ words
between_part whole front words rest start end is ends starts =
    let size = front_length whole front (words ++ 34 ∷ rest) 34 is in
    ap (λ (l : List ℕ). take (end - start) l) (behind_part whole front (words ++ 34 ∷ rest) 34 start is (omega (arith, ends, starts, length-append words (34 ∷ rest))))
    ∙ take_at words (34 ∷ rest) (end - start) (omega (arith, ends, starts, size, length-append words (34 ∷ rest)))

-- what stands between the front of a text and its rest
pub part_between : (whole front bytes words rest : List ℕ) (start end : ℕ) → whole ≡ front ++ bytes → bytes ≡ words ++ rest → start ≡ length whole - length bytes → end ≡ length whole - length rest → take (end - start) (drop start whole) ≡ words
part_between whole front bytes words rest start end is cut starts ends =
    let size : length whole ≡ length front + length bytes = ap (λ (l : List ℕ). length l) is ∙ length-append front bytes in
    let long : length bytes ≡ length words + length rest = ap (λ (l : List ℕ). length l) cut ∙ length-append words rest in
    ap (λ (l : List ℕ). take (end - start) l) (ap (λ (l : List ℕ). drop start l) is ∙ drop_at front bytes start (omega (arith, starts, size)) ∙ cut)
    ∙ take_at words rest (end - start) (omega (arith, starts, ends, size, long))
