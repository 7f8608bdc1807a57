-- Quoted forms can be read back a byte at a time, so different texts have different ones.
use Rattle.std.proofs.Common.{◌≡◌, ◌≢◌, ℕ, ◌+◌, ◌-◌, ◌*◌, ◌/◌, ◌%◌, ◌<◌, ◌==◌, false, nat_lt, get_or, List, [], ◌∷◌, ◌++◌, if◌then◌else◌, flat_map, refl, sym, ap, ap₂, inl, inr, subst, ◌∙◌, arith, append_assoc}
use Rattle.std.proofs.lemmas.Grind.{common_steps}
use Rattle.std.proofs.lemmas.List.{append_cancel_left}
use Rattle.std.proofs.lemmas.Bool.{cases_lt}
use Rattle.std.proofs.lemmas.Fmt.{hex_one_digit, hex_two_digits}
use Rattle.std.specs.Fmt.{digits, digit_glyph}
use Rattle.trace_base.specs.words.Quote.{quoted_byte, in_quotes}

-- the value of a digit in lower-case hex
abbrev unglyph : ℕ → ℕ
unglyph g = if nat_lt g 58 then g - 48 else g - 87

-- the number that one hex digit or two begin a list with, before a closing brace
abbrev code_of : List ℕ → ℕ
code_of [] = 0
code_of (high ∷ []) = 0
code_of (high ∷ low ∷ rest) = if low == 125 then unglyph high else unglyph high * 16 + unglyph low

-- the code of an escape, behind its brace
abbrev behind_brace : List ℕ → ℕ
behind_brace [] = 0
behind_brace (brace ∷ rest) = code_of rest

-- the byte that an escape stands for, behind its backslash
abbrev behind_slash : List ℕ → ℕ
behind_slash [] = 0
behind_slash (c ∷ rest) =
    if c == 110 then 10 else
    if c == 114 then 13 else
    if c == 116 then 9 else
    if c == 48 then 0 else
    if c == 117 then behind_brace rest else
    c

-- the byte that the front of a quoted text stands for
unfoldable first_byte : List ℕ → ℕ
first_byte [] = 0
first_byte (c ∷ rest) = if c == 92 then behind_slash rest else c

unglyph_glyph : (d : ℕ) → d < 16 → unglyph (digit_glyph false d) ≡ d
unglyph_glyph d h = grind (arith, common_steps)

no_brace : (d : ℕ) → d < 16 → (digit_glyph false d == 125) ≡ false
no_brace d h = grind (arith, common_steps)

code_read : (b : ℕ) (rest : List ℕ) → b < 128 → code_of ((digits 16 false b ++ 125 ∷ []) ++ rest) ≡ b
code_read b rest h = elim (cases_lt b 16) [
  | inl one ↦ rw (hex_one_digit false b one) (unglyph_glyph b one)
  | inr two ↦
      let high : b / 16 < 16 = omega arith in
      let low : b % 16 < 16 = omega arith in
      rw (hex_two_digits false b two (omega arith), no_brace (b % 16) low, unglyph_glyph (b / 16) high, unglyph_glyph (b % 16) low) (omega arith)
]

front : (b : ℕ) (rest : List ℕ) → first_byte (quoted_byte b ++ rest) ≡ b
unfolding quoted_byte first_byte
front b rest = grind (arith, common_steps, code_read b rest)

-- no byte stands between the quotes as the quote that ends them
no_end : (b : ℕ) (rest : List ℕ) → get_or (quoted_byte b ++ rest) 0 0 ≢ 34
unfolding quoted_byte
no_end b rest = grind (arith, common_steps)

apart : (x y : List ℕ) → flat_map quoted_byte x ++ 34 ∷ [] ≡ flat_map quoted_byte y ++ 34 ∷ [] → x ≡ y
apart [] [] e = refl
apart [] (d ∷ ds) e = absurd (no_end d (flat_map quoted_byte ds ++ 34 ∷ []) (ap (λ (l : List ℕ). get_or l 0 0) (sym (e ∙ append_assoc (quoted_byte d) (flat_map quoted_byte ds) (34 ∷ [])))))
apart (b ∷ bs) [] e = absurd (no_end b (flat_map quoted_byte bs ++ 34 ∷ []) (ap (λ (l : List ℕ). get_or l 0 0) (sym (append_assoc (quoted_byte b) (flat_map quoted_byte bs) (34 ∷ [])) ∙ e)))
apart (b ∷ bs) (d ∷ ds) e =
    let left = flat_map quoted_byte bs ++ 34 ∷ [] in
    let right = flat_map quoted_byte ds ++ 34 ∷ [] in
    let both : quoted_byte b ++ left ≡ quoted_byte d ++ right =
    sym (append_assoc (quoted_byte b) (flat_map quoted_byte bs) (34 ∷ [])) ∙ e ∙ append_assoc (quoted_byte d) (flat_map quoted_byte ds) (34 ∷ []) in
    let same : b ≡ d = sym (front b left) ∙ ap first_byte both ∙ front d right in
    let rest : left ≡ right = append_cancel_left (quoted_byte d) left right (subst (λ z. quoted_byte z ++ left ≡ quoted_byte d ++ right) same both) in
    ap₂ (λ (z : ℕ) (zs : List ℕ). z ∷ zs) same (apart bs ds rest)

pub quoted_apart : (x y : List ℕ) → in_quotes x ≡ in_quotes y → x ≡ y
quoted_apart x y e = apart x y (append_cancel_left (34 ∷ []) (flat_map quoted_byte x ++ 34 ∷ []) (flat_map quoted_byte y ++ 34 ∷ []) e)
