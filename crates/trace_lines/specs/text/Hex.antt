-- Ids in hexadecimal.
use Rattle.std.specs.Prelude.{ℕ, ◌+◌, ◌*◌, ◌-◌, ◌/◌, ◌%◌, ◌^◌, ◌==◌, ◌&&◌, nat_le, List, [], ◌∷◌, ◌++◌, length, replicate, false, Option, Some, None, option_and_then, if◌then◌else◌}
use Rattle.std.specs.Fmt.{digits}

-- an id of 64 bits: 16 lower case digits, with zeros first
unfoldable pub hex16 : ℕ → List ℕ
hex16 id = replicate (16 - length (digits 16 false id)) 48 ++ digits 16 false id

-- an id of 128 bits: its two halves
abbrev pub hex32 : ℕ → List ℕ
hex32 id = hex16 (id / 2 ^ 64) ++ hex16 (id % 2 ^ 64)

-- ---- read

-- the value of a lower case digit
abbrev pub digit_value : ℕ → Option ℕ
digit_value b =
    if nat_le 48 b && nat_le b 57 then Some (b - 48) else
    (if nat_le 97 b && nat_le b 102 then Some (b - 87) else None)

-- the number whose digits go on behind those of another
abbrev pub with_more_digits : List ℕ → ℕ → Option ℕ
with_more_digits [] n = Some n
with_more_digits (b ∷ bs) n = option_and_then (λ digit. with_more_digits bs (16 * n + digit)) (digit_value b)

-- a number of so many digits
unfoldable pub number_of_hex : ℕ → List ℕ → Option ℕ
number_of_hex size word = if length word == size then with_more_digits word 0 else None

-- the id of 64 bits that 16 lower case digits are
abbrev pub id_of_word : List ℕ → Option ℕ
id_of_word word = number_of_hex 16 word

-- the id of 128 bits that 32 lower case digits are
abbrev pub long_id_of_word : List ℕ → Option ℕ
long_id_of_word word = number_of_hex 32 word
