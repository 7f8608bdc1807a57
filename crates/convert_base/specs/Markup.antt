-- Texts inside of markup.
use Rattle.std.specs.Prelude.{ℕ, List, [], ◌∷◌, ◌==◌, ◌||◌, Bool, if◌then◌else◌, codes, nat_lt}

-- what stands for a byte of a text: for a mark of HTML its reference, for a control of ASCII the one of "no character"
unfoldable pub escaped_byte : ℕ → List ℕ
escaped_byte b =
    if b == 38 then codes "&amp;" else
    if b == 60 then codes "&lt;" else
    if b == 62 then codes "&gt;" else
    if b == 34 then codes "&quot;" else
    if b == 39 then codes "&#39;" else
    if nat_lt b 32 || b == 127 then codes "&#xfffd;" else
    b ∷ []

-- a byte that begins or ends an element or an attribute's value, or controls what shows it
abbrev pub is_mark : ℕ → Bool
is_mark b = b == 60 || b == 62 || b == 34 || b == 39 || nat_lt b 32 || b == 127
