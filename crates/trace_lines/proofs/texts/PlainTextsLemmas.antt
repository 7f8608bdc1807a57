-- Values whose compact texts have printable ASCII bytes alone, and no number above 8 digits.
use Rattle.std.specs.Prelude.{⊤}
use Rattle.trace_lines.proofs.Common.{Bool, Data, HasNumbers, IsNumber-decimal, IsUtf8-are_ascii, Items, ItemsHaveNumbers, List, Members, MembersHaveNumbers, Num, [], and_parts, ap, are_ascii, arith, array, boolean, comma_if, compact_text, decimal, decimal_by_steps, false, float, item, items_outline, items_text, length, length-append, length-decimal-le, list_all, list_all-append, member, members_outline, members_text, nat_le, nat_lt, nat_tests, negative, no_items, no_members, null, number, number_text, object, outline, quoted, refl, string, true, unsigned, ℕ, ◌%◌, ◌&&◌, ◌++◌, ◌+◌, ◌<◌, ◌^◌, ◌∙◌, ◌∷◌, ◌≡◌, ◌≤◌}
use Rattle.std.specs.Str.{IsUtf8}

-- a printable byte of ASCII
abbrev pub is_plain : ℕ → Bool
is_plain b = nat_le 32 b && nat_lt b 127

abbrev pub are_plain : List ℕ → Bool
are_plain bytes = list_all is_plain bytes

plain_digit : (d : ℕ) → d < 10 → is_plain (48 + d) ≡ true
plain_digit d ten = grind (arith, nat_tests, ten)

plain_decimal : (n : ℕ) → n < 2 ^ 64 → are_plain (decimal n) ≡ true
plain_decimal n fits =
    decimal_by_steps (λ n ds. are_plain ds ≡ true) (λ n ten. rw (plain_digit n ten) refl)
    (λ n ds big is. list_all-append is_plain ds ((48 + n % 10) ∷ []) ∙ rw (is, plain_digit (n % 10) (omega arith)) refl) n fits

-- ---- what is asked of a value: numbers of 8 digits, and texts whose quoted forms are plain

abbrev pub IsSmall : Num → Type 0
IsSmall (unsigned n) = n < 10 ^ 8
IsSmall (negative z) = ⊥
IsSmall (float x) = ⊥

abbrev mutual
  pub IsPlain : Data → Type 0
  IsPlain null = ⊥
  IsPlain (boolean b) = ⊥
  IsPlain (number n) = IsSmall n
  IsPlain (string s) = are_plain (quoted s) ≡ true
  IsPlain (array ds) = ArePlain ds
  IsPlain (object ms) = HavePlain ms

  pub ArePlain : Items → Type 0
  ArePlain no_items = ⊤
  ArePlain (item d ds) = IsPlain d × ArePlain ds

  pub HavePlain : Members → Type 0
  HavePlain no_members = ⊤
  HavePlain (member k d ms) = (are_plain (quoted k) ≡ true) × IsPlain d × HavePlain ms

both : (xs ys : List ℕ) → are_plain xs ≡ true → are_plain ys ≡ true → are_plain (xs ++ ys) ≡ true
both xs ys a b = list_all-append is_plain xs ys ∙ rw (a, b) refl

comma : (later : Bool) → are_plain (comma_if later) ≡ true
comma true = refl
comma false = refl

number_plain : (n : Num) → IsSmall n → are_plain (number_text n) ≡ true
number_plain (unsigned n) small = plain_decimal n (omega (arith, small))
number_plain (negative z) small = absurd small
number_plain (float x) small = absurd small

mutual
  pub text_plain : (d : Data) → IsPlain d → are_plain (compact_text d) ≡ true
  text_plain null plain = absurd plain
  text_plain (boolean b) plain = absurd plain
  text_plain (number n) plain = number_plain n plain
  text_plain (string s) plain = plain
  text_plain (array ds) plain = items_plain false ds plain
  text_plain (object ms) plain = members_plain false ms plain

  items_plain : (later : Bool) (ds : Items) → ArePlain ds → are_plain (items_text later ds) ≡ true
  items_plain later no_items plain = refl
  items_plain later (item d ds) plain =
      both (comma_if later) _ (comma later) (both (compact_text d) _ (text_plain d plain.0) (items_plain true ds plain.1))

  members_plain : (later : Bool) (ms : Members) → HavePlain ms → are_plain (members_text later ms) ≡ true
  members_plain later no_members plain = refl
  members_plain later (member k d ms) plain =
      both (comma_if later) _ (comma later) (both (quoted k) (58 ∷ (compact_text d ++ members_text true ms)) plain.0
      (both (compact_text d) (members_text true ms) (text_plain d plain.1) (members_plain true ms plain.2)))

-- ---- their numbers are numbers

number_numbers : (n : Num) → IsSmall n → HasNumbers (outline (number n))
number_numbers (unsigned n) small = IsNumber-decimal n (omega (arith, small))
number_numbers (negative z) small = absurd small
number_numbers (float x) small = absurd small

mutual
  pub has_numbers : (d : Data) → IsPlain d → HasNumbers (outline d)
  has_numbers null plain = absurd plain
  has_numbers (boolean b) plain = absurd plain
  has_numbers (number n) plain = number_numbers n plain
  has_numbers (string s) plain = tt
  has_numbers (array ds) plain = items_have_numbers ds plain
  has_numbers (object ms) plain = members_have_numbers ms plain

  items_have_numbers : (ds : Items) → ArePlain ds → ItemsHaveNumbers (items_outline ds)
  items_have_numbers no_items plain = tt
  items_have_numbers (item d ds) plain = (has_numbers d plain.0, items_have_numbers ds plain.1)

  members_have_numbers : (ms : Members) → HavePlain ms → MembersHaveNumbers (members_outline ms)
  members_have_numbers no_members plain = tt
  members_have_numbers (member k d ms) plain = (has_numbers d plain.1, members_have_numbers ms plain.2)

-- ---- how long their texts are at the most

abbrev mutual
  pub room : Data → ℕ
  room null = 0
  room (boolean b) = 0
  room (number n) = 8
  room (string s) = length (quoted s)
  room (array ds) = 1 + items_room ds
  room (object ms) = 1 + members_room ms

  pub items_room : Items → ℕ
  items_room no_items = 1
  items_room (item d ds) = 1 + (room d + items_room ds)

  pub members_room : Members → ℕ
  members_room no_members = 1
  members_room (member k d ms) = 1 + (length (quoted k) + (1 + (room d + members_room ms)))

comma_length : (later : Bool) → length (comma_if later) ≤ 1
comma_length true = omega arith
comma_length false = omega arith

number_length : (n : Num) → IsSmall n → length (number_text n) ≤ 8
number_length (unsigned n) small = length-decimal-le 8 n (omega arith) small (omega (arith, small))
number_length (negative z) small = absurd small
number_length (float x) small = absurd small

mutual
  pub text_length : (d : Data) → IsPlain d → length (compact_text d) ≤ room d
  text_length null plain = absurd plain
  text_length (boolean b) plain = absurd plain
  text_length (number n) plain = number_length n plain
  text_length (string s) plain = omega arith
  text_length (array ds) plain = omega (arith, items_length false ds plain)
  text_length (object ms) plain = omega (arith, members_length false ms plain)

  items_length : (later : Bool) (ds : Items) → ArePlain ds → length (items_text later ds) ≤ items_room ds
  items_length later no_items plain = omega arith
  items_length later (item d ds) plain =
      omega (
        arith,
        length-append (comma_if later) (compact_text d ++ items_text true ds),
        length-append (compact_text d) (items_text true ds),
        comma_length later,
        text_length d plain.0,
        items_length true ds plain.1,
      )

  members_length : (later : Bool) (ms : Members) → HavePlain ms → length (members_text later ms) ≤ members_room ms
  members_length later no_members plain = omega arith
  members_length later (member k d ms) plain =
      omega (
        arith,
        length-append (comma_if later) (quoted k ++ 58 ∷ (compact_text d ++ members_text true ms)),
        length-append (quoted k) (58 ∷ (compact_text d ++ members_text true ms)),
        length-append (compact_text d) (members_text true ms),
        comma_length later,
        text_length d plain.1,
        members_length true ms plain.2,
      )

-- ---- plain bytes are UTF-8

plain_small : (b : ℕ) → is_plain b ≡ true → nat_lt b 128 ≡ true
plain_small b plain = grind (arith, nat_tests, plain)

plain_ascii : (bytes : List ℕ) → are_plain bytes ≡ true → are_ascii bytes ≡ true
plain_ascii [] plain = refl
plain_ascii (b ∷ bytes) plain = let p = and_parts _ _ plain in rw (plain_small b p.0, plain_ascii bytes p.1) refl

pub plain_utf8 : (bytes : List ℕ) → are_plain bytes ≡ true → IsUtf8 bytes
plain_utf8 bytes plain = IsUtf8-are_ascii bytes (plain_ascii bytes plain)
