-- How the text that a directive prints begins.
use Rattle.std.proofs.Common.{◌≡◌, ℕ, ◌<◌, ◌≤◌, Bool, true, false, true≢false, List, [], ◌∷◌, ◌++◌, length, get_or, take, drop, encode_utf8, refl, sym, ap, ◌∙◌, arith, append-nil, append_assoc, inl, inr, ◌&&◌}
use Rattle.std.specs.Str.{IsUtf8, chars, encode_utf8_all}
use Rattle.env_directives.proofs.Common.{scalars, scalar, take-append_seam, get_or-append_seam, cases_lt, take-append-le, chars-append, chars-encodes, inside_one, encode_ascii, begins_as_directive, may_begin}
use Rattle.std.proofs.lemmas.List.{length-append, take-append-drop}

-- a text that begins with a bracket begins as a directive may
pub bracket_begins : (rest : List ℕ) → begins_as_directive (91 ∷ rest) ≡ true
unfolding chars
bracket_begins [] = refl
bracket_begins (b ∷ bs) = refl

-- a text's first character, whole
pub record First (text : List ℕ) : Type 0 where
  pub char : ℕ
  pub rest : List ℕ
  pub is : scalar char ≡ true
  pub whole : text ≡ encode_utf8 char ++ rest

-- what follows is nothing, or begins with a byte of ASCII
abbrev pub IsSeam : List ℕ → Type 0
IsSeam [] = Unit {0}
IsSeam (b ∷ bs) = b < 128

both : (a b : Bool) → (a && b) ≡ true → (a ≡ true) × (b ≡ true)
both true b e = (refl, e)
both false b e = absurd (true≢false (sym e))

-- in front of a seam stand whole characters
pub first_of : (text more : List ℕ) → 0 < length text → IsUtf8 (text ++ more) → IsSeam more → First text
first_of text more some ([], (ok, spelled)) seam =
    let none : 0 ≡ length (text ++ more) = ap length spelled in
    absurd (omega (arith, none, length-append text more))
first_of text more some (c ∷ cs, (ok, spelled)) seam = elim (cases_lt (length text) (length (encode_utf8 c))) [
  | inl short ↦ absurd (inside more spelled seam short)
  | inr long ↦ record { char = c; rest = drop (length (encode_utf8 c)) text; is = (both (scalar c) (scalars cs) ok).0; whole = split long }
]
  where
    split : length (encode_utf8 c) ≤ length text → text ≡ encode_utf8 c ++ drop (length (encode_utf8 c)) text
    split long =
        let n = length (encode_utf8 c) in
        let front : take n text ≡ encode_utf8 c =
        sym (take-append-le n text more long) ∙ ap (take n) (sym spelled) ∙ take-append_seam (encode_utf8 c) (encode_utf8_all cs) in
        sym (take-append-drop n text) ∙ ap (λ (t : List ℕ). t ++ drop n text) front

    inside : (y : List ℕ) → encode_utf8_all (c ∷ cs) ≡ text ++ y → IsSeam y → length text < length (encode_utf8 c) → ⊥
    inside [] spelled seam short =
        let all : length (encode_utf8_all (c ∷ cs)) ≡ length (text ++ []) = ap length spelled in
        omega (arith, all, length-append (encode_utf8 c) (encode_utf8_all cs), length-append text [])
    inside (b ∷ bs) spelled seam short =
        let at : get_or (text ++ b ∷ bs) (length text) 0 ≡ b = get_or-append_seam text b bs 0 in
        let small : get_or (text ++ b ∷ bs) (length text) 0 < 128 = rw at seam in
        let same : c ≡ get_or (text ++ b ∷ bs) (length text) 0 = inside_one c (encode_utf8_all cs) (text ++ b ∷ bs) (length text) (sym spelled) short small in
        let ascii : c < 128 = rw same small in
        let one : length (encode_utf8 c) ≡ 1 = ap length (encode_ascii c ascii) in
        omega arith

pub begins_by : (text more : List ℕ) (first : First text) → begins_as_directive (text ++ more) ≡ may_begin first.char
begins_by text more first =
    let c = first.char in
    let ok : scalars (c ∷ []) ≡ true = rw first.is refl in
    let one : encode_utf8_all (c ∷ []) ≡ encode_utf8 c = append-nil (encode_utf8 c) in
    let utf8 : IsUtf8 (encode_utf8 c) = (c ∷ [], (ok, one)) in
    let alone : chars (encode_utf8 c) ≡ c ∷ [] = ap chars (sym one) ∙ chars-encodes (c ∷ []) ok in
    let so : text ++ more ≡ encode_utf8 c ++ (first.rest ++ more) = ap (λ (t : List ℕ). t ++ more) first.whole ∙ append_assoc (encode_utf8 c) first.rest more in
    let read : chars (text ++ more) ≡ c ∷ chars (first.rest ++ more) =
    ap chars so ∙ chars-append (encode_utf8 c) (first.rest ++ more) utf8 ∙ ap (λ (t : List ℕ). t ++ chars (first.rest ++ more)) alone in
    rw read refl
