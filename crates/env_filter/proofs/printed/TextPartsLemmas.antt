-- Texts of whole characters without commas: parts of them, what they make together, and the pieces of any text.
use Rattle.std.proofs.Common.{◌≡◌, ℕ, ◌+◌, ◌<◌, List, [], ◌∷◌, ◌++◌, length, take, drop, get_or, Bool, true, false, not, cond, codes, refl, sym, ap, subst, arith, append-nil, append_assoc, lit<, ◌==◌, ◌&&◌, eqb}
use Rattle.std.specs.Char.{is_whitespace}
use Rattle.env_filter.proofs.Common.{onto_first, trim, trim_start, trim_end, skip_leading_whitespace, drop_trailing_whitespace, encode, scalar, scalars, and_parts, nat_tests, IsUtf8-append, IsUtf8-nil, IsUtf8-take, IsUtf8-drop, IsCharBoundary-before_ascii, IsCharBoundary-after_ascii, encodes-chars, scalars-chars, is_among, lacks, comma_pieces, Each, trim_utf8}
use Rattle.std.specs.Str.{IsUtf8, chars, encode_utf8_all}
use Rattle.std.proofs.Math.Seq.{take-append_seam, drop-append-add, get_or-append_seam}
use Rattle.std.proofs.lemmas.Bool.{eqb-true}
use Rattle.std.proofs.lemmas.List.{length-append}

-- a text that a directive can be read from alone
pub record IsPiece (text : List ℕ) : Type 0 where
  pub utf8 : IsUtf8 text
  pub no_comma : lacks (codes ",") text ≡ true

-- ---- what a text lacks

pub lacks_parts : (stops xs ys : List ℕ) → lacks stops (xs ++ ys) ≡ true → (lacks stops xs ≡ true) × (lacks stops ys ≡ true)
lacks_parts stops [] ys lacking = (refl, lacking)
lacks_parts stops (x ∷ xs) ys lacking =
    let first = and_parts (not (is_among stops x)) (lacks stops (xs ++ ys)) lacking in
    let later = lacks_parts stops xs ys first.1 in
    (rw (first.0, later.0) refl, later.1)

pub lacks_joined : (stops xs ys : List ℕ) → lacks stops xs ≡ true → lacks stops ys ≡ true → lacks stops (xs ++ ys) ≡ true
lacks_joined stops [] ys first second = second
lacks_joined stops (x ∷ xs) ys first second =
    let parts = and_parts (not (is_among stops x)) (lacks stops xs) first in
    rw (parts.0, lacks_joined stops xs ys parts.1 second) refl

-- ---- a text that is cut at a byte of ASCII

pub cut_utf8 : (front : List ℕ) (stop : ℕ) (rest : List ℕ) → stop < 128 → IsUtf8 (front ++ stop ∷ rest) → IsUtf8 front × IsUtf8 rest
cut_utf8 front stop rest ascii utf8 =
    let text = front ++ stop ∷ rest in
    let n = length front in
    let at : get_or text n 0 ≡ stop = get_or-append_seam front stop rest 0 in
    let small : get_or text n 0 < 128 = rw at ascii in
    let inside : n < length text = simp length-append (omega arith) in
    let before : take n text ≡ front = take-append_seam front (stop ∷ rest) in
    let behind : drop (n + 1) text ≡ rest = drop-append-add front (stop ∷ rest) 1 in (
      subst IsUtf8 before (IsUtf8-take text n utf8 (IsCharBoundary-before_ascii text n inside small)),
      subst IsUtf8 behind (IsUtf8-drop text (n + 1) utf8 (IsCharBoundary-after_ascii text n utf8 inside small)),
    )

pub cut_piece : (front : List ℕ) (stop : ℕ) (rest : List ℕ) → stop < 128 → IsPiece (front ++ stop ∷ rest) → IsPiece front × IsPiece rest
cut_piece front stop rest ascii is =
    let parts = cut_utf8 front stop rest ascii is.utf8 in
    let first = lacks_parts (codes ",") front (stop ∷ rest) is.no_comma in
    let later = lacks_parts (codes ",") (stop ∷ []) rest first.1 in
    (record { utf8 = parts.0; no_comma = first.0 }, record { utf8 = parts.1; no_comma = later.1 })

pub empty_piece : IsPiece []
empty_piece = record { utf8 = IsUtf8-nil; no_comma = refl }

pub join_pieces : (xs ys : List ℕ) → IsPiece xs → IsPiece ys → IsPiece (xs ++ ys)
join_pieces xs ys first second = record { utf8 = IsUtf8-append xs ys first.utf8 second.utf8; no_comma = lacks_joined (codes ",") xs ys first.no_comma second.no_comma }

-- ---- without the white space at its ends

lacks_skipped : (stops cs : List ℕ) → lacks stops (encode_utf8_all cs) ≡ true → lacks stops (encode_utf8_all (skip_leading_whitespace cs)) ≡ true
lacks_skipped stops [] lacking = lacking
lacks_skipped stops (c ∷ cs) lacking = by_space (is_whitespace c) (lacks_skipped stops cs)
  where
    by_space : (b : Bool) → (lacks stops (encode_utf8_all cs) ≡ true → lacks stops (encode_utf8_all (skip_leading_whitespace cs)) ≡ true)
        → lacks stops (encode_utf8_all (cond b (skip_leading_whitespace cs) (c ∷ cs))) ≡ true
    by_space true later = later (lacks_parts stops (encode c) (encode_utf8_all cs) lacking).1
    by_space false later = lacking

lacks_dropped : (stops cs : List ℕ) → lacks stops (encode_utf8_all cs) ≡ true → lacks stops (encode_utf8_all (drop_trailing_whitespace cs)) ≡ true
lacks_dropped stops [] lacking = lacking
lacks_dropped stops (c ∷ cs) lacking =
    let parts = lacks_parts stops (encode c) (encode_utf8_all cs) lacking in
    by_space (is_whitespace c && length (drop_trailing_whitespace cs) == 0) (lacks_joined stops (encode c) (encode_utf8_all (drop_trailing_whitespace cs)) parts.0 (lacks_dropped stops cs parts.1))
  where
    by_space : (b : Bool) → lacks stops (encode c ++ encode_utf8_all (drop_trailing_whitespace cs)) ≡ true
        → lacks stops (encode_utf8_all (cond b [] (c ∷ drop_trailing_whitespace cs))) ≡ true
    by_space true kept = refl
    by_space false kept = kept

lacks_started : (stops text : List ℕ) → IsUtf8 text → lacks stops text ≡ true → lacks stops (trim_start text) ≡ true
unfolding trim_start
lacks_started stops text utf8 lacking = lacks_skipped stops (chars text) (subst (λ (t : List ℕ). lacks stops t ≡ true) (sym (encodes-chars text utf8)) lacking)

lacks_ended : (stops text : List ℕ) → IsUtf8 text → lacks stops text ≡ true → lacks stops (trim_end text) ≡ true
unfolding trim_end
lacks_ended stops text utf8 lacking = lacks_dropped stops (chars text) (subst (λ (t : List ℕ). lacks stops t ≡ true) (sym (encodes-chars text utf8)) lacking)

scalars_skipped : (cs : List ℕ) → scalars cs ≡ true → scalars (skip_leading_whitespace cs) ≡ true
scalars_skipped [] ok = refl
scalars_skipped (c ∷ cs) ok = by_space (is_whitespace c) (scalars_skipped cs (and_parts (scalar c) (scalars cs) ok).1)
  where
    by_space : (b : Bool) → scalars (skip_leading_whitespace cs) ≡ true → scalars (cond b (skip_leading_whitespace cs) (c ∷ cs)) ≡ true
    by_space true later = later
    by_space false later = ok

start_utf8 : (text : List ℕ) → IsUtf8 text → IsUtf8 (trim_start text)
unfolding trim_start
start_utf8 text utf8 = (skip_leading_whitespace (chars text), (scalars_skipped (chars text) (scalars-chars text utf8), refl))

pub trim_piece : (text : List ℕ) → IsPiece text → IsPiece (trim text)
trim_piece text is = record {
  utf8 = trim_utf8 text is.utf8;
  no_comma = lacks_ended (codes ",") (trim_start text) (start_utf8 text is.utf8) (lacks_started (codes ",") text is.utf8 is.no_comma);
}

-- ---- the pieces of a text

abbrev onto_front : List ℕ → List (List ℕ) → List (List ℕ)
onto_front begun [] = begun ∷ []
onto_front begun (piece ∷ pieces) = (begun ++ piece) ∷ pieces

onto_both : (begun : List ℕ) (b : ℕ) (pieces : List (List ℕ)) → onto_front begun (onto_first b pieces) ≡ onto_front (begun ++ b ∷ []) pieces
onto_both begun b [] = refl
onto_both begun b (piece ∷ pieces) = ap (λ (t : List ℕ). t ∷ pieces) (sym (append_assoc begun (b ∷ []) piece))

from_nothing : (pieces : List (List ℕ)) → Each IsPiece (onto_front [] pieces) → Each IsPiece pieces
from_nothing [] all = tt
from_nothing (piece ∷ pieces) all = all

-- of a text of which some bytes were passed since the last comma
all_pieces : (begun text : List ℕ) → IsUtf8 (begun ++ text) → lacks (codes ",") begun ≡ true → Each IsPiece (onto_front begun (comma_pieces text))
all_pieces begun [] utf8 lacking = (record { utf8 = utf8; no_comma = lacks_joined (codes ",") begun [] lacking refl }, tt)
all_pieces begun (b ∷ bs) utf8 lacking = by_byte (eqb b 44) refl (all_pieces [] bs) (all_pieces (begun ++ b ∷ []) bs)
  where
    by_byte : (c : Bool) → eqb b 44 ≡ c → (IsUtf8 bs → lacks (codes ",") [] ≡ true → Each IsPiece (onto_front [] (comma_pieces bs)))
        → (IsUtf8 ((begun ++ b ∷ []) ++ bs) → lacks (codes ",") (begun ++ b ∷ []) ≡ true → Each IsPiece (onto_front (begun ++ b ∷ []) (comma_pieces bs)))
        → Each IsPiece (onto_front begun (cond c ([] ∷ comma_pieces bs) (onto_first b (comma_pieces bs))))
    by_byte true e behind further =
        let comma : b ≡ 44 = eqb-true b 44 e in
        let small : b < 128 = rw comma (lit< tt) in
        let parts = cut_utf8 begun b bs small utf8 in
        let front : IsPiece begun = record { utf8 = parts.0; no_comma = lacking } in
        (subst IsPiece (sym (append-nil begun)) front, from_nothing (comma_pieces bs) (behind parts.1 refl))
    by_byte false e behind further =
        let other : lacks (codes ",") (b ∷ []) ≡ true = grind (arith, nat_tests, e) in
        subst (Each IsPiece) (sym (onto_both begun b (comma_pieces bs)))
        (further (subst IsUtf8 (sym (append_assoc begun (b ∷ []) bs)) utf8) (lacks_joined (codes ",") begun (b ∷ []) lacking other))

pub pieces_of : (text : List ℕ) → IsUtf8 text → Each IsPiece (comma_pieces text)
pieces_of text utf8 = from_nothing (comma_pieces text) (all_pieces [] text utf8 refl)
