-- A text between double quotes, with the quotes, backslashes and controls of ASCII in it escaped.
use Rattle.std.specs.Prelude.{ℕ, List, [], ◌∷◌, ◌++◌, ◌==◌, ◌||◌, if◌then◌else◌, false, codes, flat_map, nat_lt}
use Rattle.std.specs.Fmt.{digits}

-- `\u{..}` around a number in lower-case hex digits, the first of which is no 0 unless it stands alone
abbrev pub code_escape : ℕ → List ℕ
code_escape b = codes "\\u{" ++ digits 16 false b ++ codes "}"

-- what stands for a byte between the quotes: 34 is the double quote, 92 the backslash, 127 the control past printing ASCII
unfoldable pub quoted_byte : ℕ → List ℕ
quoted_byte b =
    if b == 34 then codes "\\\"" else
    if b == 92 then codes "\\\\" else
    if b == 10 then codes "\\n" else
    if b == 13 then codes "\\r" else
    if b == 9 then codes "\\t" else
    if b == 0 then codes "\\0" else
    if nat_lt b 32 || b == 127 then code_escape b else
    b ∷ []

-- a text between double quotes
abbrev pub in_quotes : List ℕ → List ℕ
in_quotes text = 34 ∷ flat_map quoted_byte text ++ 34 ∷ []
