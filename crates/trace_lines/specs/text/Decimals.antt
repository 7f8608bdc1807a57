-- Numbers of 128 bits, which a text spells where it is their decimal.
use Rattle.std.specs.Prelude.{ℕ, ◌-◌, ◌^◌, ◌&&◌, nat_le, ℤ, pos, neg_ℤ, List, drop, Option, Some, None, option_map, option_and_then, if◌then◌else◌, bytes_eq, decimal}
use Rattle.std.specs.Str.Parse.{digits_value, starts_with_minus}
use Rattle.trace_lines.specs.forms.Forms.{if_at_most}

-- the number itself, if its decimal is the text
abbrev pub if_decimal : List ℕ → ℕ → Option ℕ
if_decimal word n = if bytes_eq (decimal n) word then Some n else None

-- the number of 128 bits whose decimal a text is
unfoldable pub u128_of_word : List ℕ → Option ℕ
u128_of_word word = option_and_then (if_decimal word) (if_at_most (2 ^ 128 - 1) (digits_value 10 word))

-- a signed number below zero, by how far it is below
abbrev pub negative_of : ℕ → Option ℤ
negative_of n = if nat_le 1 n && nat_le n (2 ^ 127) then Some (neg_ℤ (pos n)) else None

-- a signed number from zero on
abbrev pub nonnegative_of : ℕ → Option ℤ
nonnegative_of n = option_map pos (if_at_most (2 ^ 127 - 1) n)

-- the signed number of 128 bits whose decimal a text is: one below zero has a minus in front
abbrev pub i128_of_word : List ℕ → Option ℤ
i128_of_word word =
    if starts_with_minus word then option_and_then negative_of (u128_of_word (drop 1 word))
    else option_and_then nonnegative_of (u128_of_word word)
