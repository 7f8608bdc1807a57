-- No line that is written has a line feed before its end, so the lines of a text are those that were written.
use Rattle.std.proofs.Common.{◌≡◌, ℕ, zero, suc, ◌+◌, ◌/◌, ◌%◌, ◌&&◌, ◌||◌, nat_lt, List, [], ◌∷◌, ◌++◌, length, Bool, true, false, cond, not, refl, ap, ◌∙◌, arith, append_assoc, decimal, ◌==◌, pos, negsuc, if◌then◌else◌}
use Rattle.std.specs.Char.{digit_char}
use Rattle.std.specs.Fmt.{digit_glyph, digits, digits_onto}
use Rattle.trace_laws.proofs.Common.{list_all, and_parts, Record, Reply, lines_of, record_lines, end_data, end_text, record_text, reply_data, reply_text, records_in, answer_lines}
use Rattle.std.proofs.lemmas.Bool.Decides.{nat_tests}
use Rattle.std.proofs.lemmas.List.{length-append}
use Rattle.std.proofs.lemmas.List.Folds.{list_all-append}
use Rattle.json.specs.Print.{escape, escape_byte, escape_letter, quoted}
use Rattle.serde_json.specs.Data.{Num, unsigned, negative, float, Data, null, boolean, number, string, array, object, Items, no_items, item, Members, no_members, member}
use Rattle.serde_json.specs.Written.{comma_if, compact_text, items_text, members_text, number_text}
use Rattle.trace_lines.specs.reading.Object.{line_of}
use Rattle.trace_lines.specs.values.RecordData.{record_data}

abbrev is_inner : ℕ → Bool
is_inner b = not (b == 10)

abbrev HasNoFeed : List ℕ → Type 0
HasNoFeed text = list_all is_inner text ≡ true

both : (xs ys : List ℕ) → HasNoFeed xs → HasNoFeed ys → HasNoFeed (xs ++ ys)
both xs ys a b = list_all-append is_inner xs ys ∙ rw (a, b) refl

one : (b : ℕ) → (b == 10) ≡ false → (rest : List ℕ) → HasNoFeed rest → HasNoFeed (b ∷ rest)
one b other rest apart = rw other apart

-- ---- numbers

glyph_apart : (d : ℕ) → (digit_glyph false d == 10) ≡ false
glyph_apart d = by_size (nat_lt d 10)
  where
    by_size : (c : Bool) → ((if c then 48 + d else 87 + d) == 10) ≡ false
    by_size true = grind (arith, nat_tests)
    by_size false = grind (arith, nat_tests)

digits_apart : (k n : ℕ) (rest : List ℕ) → HasNoFeed rest → HasNoFeed (digits_onto k 10 false n rest)
digits_apart zero n rest apart = apart
digits_apart (suc k) n rest apart = by_last (n / 10 == 0) (digits_apart k (n / 10) front front_apart)
  where
    front : List ℕ
    front = digit_glyph false (n % 10) ∷ rest

    front_apart : HasNoFeed front
    front_apart = one (digit_glyph false (n % 10)) (glyph_apart (n % 10)) rest apart

    by_last : (c : Bool) → HasNoFeed (digits_onto k 10 false (n / 10) front) → HasNoFeed (if c then front else digits_onto k 10 false (n / 10) front)
    by_last true behind = front_apart
    by_last false behind = behind

decimal_apart : (n : ℕ) → HasNoFeed (decimal n)
unfolding digits
decimal_apart n = digits_apart 64 n [] refl

number_apart : (n : Num) → HasNoFeed (number_text n)
number_apart (unsigned n) = decimal_apart n
number_apart (negative (pos n)) = decimal_apart n
number_apart (negative (negsuc n)) = decimal_apart (suc n)
number_apart (float x) = refl

-- ---- texts

pick : (c : Bool) (p q : ℕ) → (p == 10) ≡ false → (q == 10) ≡ false → (cond c p q == 10) ≡ false
pick true p q a b = a
pick false p q a b = b

letter_apart : (x : ℕ) → (escape_letter x == 10) ≡ false
letter_apart x = first ((x == 34) || (x == 92)) refl
  where
    others : ℕ
    others = cond (x == 8) 98 (cond (x == 12) 102 (cond (x == 10) 110 (cond (x == 13) 114 (cond (x == 9) 116 0))))

    others_apart : (others == 10) ≡ false
    others_apart = pick (x == 8) 98 _ refl (pick (x == 12) 102 _ refl (pick (x == 10) 110 _ refl (pick (x == 13) 114 _ refl (pick (x == 9) 116 0 refl refl))))

    first : (c : Bool) → ((x == 34) || (x == 92)) ≡ c → (cond c x others == 10) ≡ false
    first true e = grind (arith, nat_tests, e)
    first false e = others_apart

digit_apart : (d : ℕ) → (digit_char d == 10) ≡ false
digit_apart d = by_size (nat_lt d 10)
  where
    by_size : (c : Bool) → (cond c (48 + d) (87 + d) == 10) ≡ false
    by_size true = grind (arith, nat_tests)
    by_size false = grind (arith, nat_tests)

plain_apart : (x : ℕ) → HasNoFeed (cond (nat_lt x 32) (92 ∷ 117 ∷ 48 ∷ 48 ∷ digit_char (x / 16) ∷ digit_char (x % 16) ∷ []) (x ∷ []))
plain_apart x = by_size (nat_lt x 32) refl
  where
    by_size : (c : Bool) → nat_lt x 32 ≡ c → HasNoFeed (cond c (92 ∷ 117 ∷ 48 ∷ 48 ∷ digit_char (x / 16) ∷ digit_char (x % 16) ∷ []) (x ∷ []))
    by_size true e = rw (digit_apart (x / 16), digit_apart (x % 16)) refl
    by_size false e = (let other : (x == 10) ≡ false = grind (arith, nat_tests, e) in one x other [] refl)

byte_apart : (x : ℕ) → HasNoFeed (escape_byte x)
unfolding escape_byte
byte_apart x = by_letter (nat_lt 0 (escape_letter x))
  where
    by_letter : (c : Bool) → HasNoFeed (cond c (92 ∷ escape_letter x ∷ []) (cond (nat_lt x 32) (92 ∷ 117 ∷ 48 ∷ 48 ∷ digit_char (x / 16) ∷ digit_char (x % 16) ∷ []) (x ∷ [])))
    by_letter true = rw (letter_apart x) refl
    by_letter false = plain_apart x

escape_apart : (s : List ℕ) → HasNoFeed (escape s)
escape_apart [] = refl
escape_apart (x ∷ s) = both (escape_byte x) (escape s) (byte_apart x) (escape_apart s)

quoted_apart : (s : List ℕ) → HasNoFeed (quoted s)
quoted_apart s = both (escape s) (34 ∷ []) (escape_apart s) refl

-- ---- values

comma : (later : Bool) → HasNoFeed (comma_if later)
comma true = refl
comma false = refl

truth_apart : (b : Bool) → HasNoFeed (compact_text (boolean b))
truth_apart true = refl
truth_apart false = refl

mutual
  text_apart : (d : Data) → HasNoFeed (compact_text d)
  text_apart null = refl
  text_apart (boolean b) = truth_apart b
  text_apart (number n) = number_apart n
  text_apart (string s) = quoted_apart s
  text_apart (array ds) = items_apart false ds
  text_apart (object ms) = members_apart false ms

  items_apart : (later : Bool) (ds : Items) → HasNoFeed (items_text later ds)
  items_apart later no_items = refl
  items_apart later (item d ds) = both (comma_if later) _ (comma later) (both (compact_text d) _ (text_apart d) (items_apart true ds))

  members_apart : (later : Bool) (ms : Members) → HasNoFeed (members_text later ms)
  members_apart later no_members = refl
  members_apart later (member k d ms) =
      both (comma_if later) _ (comma later) (both (quoted k) (58 ∷ (compact_text d ++ members_text true ms)) (quoted_apart k)
      (both (compact_text d) (members_text true ms) (text_apart d) (members_apart true ms)))

-- ---- lines

inner_first : (b : ℕ) (c : Bool) → (not (b == 10) && c) ≡ true → (b == 10) ≡ false
inner_first b c apart = by_test (b == 10) (and_parts _ _ apart).0
  where
    by_test : (t : Bool) → not t ≡ true → t ≡ false
    by_test true no_feed = absurd (cc no_feed)
    by_test false no_feed = refl

line_apart : (line rest : List ℕ) → HasNoFeed line → lines_of (line ++ 10 ∷ rest) ≡ line ∷ lines_of rest
line_apart [] rest apart = refl
line_apart (b ∷ line) rest apart = rw (inner_first b (list_all is_inner line) apart, line_apart line rest (and_parts (is_inner b) (list_all is_inner line) apart).1) refl

one_line : (d : Data) (rest : List ℕ) → length (lines_of (line_of d ++ rest)) ≡ 1 + length (lines_of rest)
unfolding line_of
one_line d rest =
    ap (λ (text : List ℕ). length (lines_of text)) (append_assoc (compact_text d) (10 ∷ []) rest)
    ∙ ap (λ (lines : List (List ℕ)). length lines) (line_apart (compact_text d) rest (text_apart d)) ∙ omega arith

one_reply : (n : ℕ) (answer : Reply) (rest : List ℕ) → length (lines_of (reply_text n answer ++ rest)) ≡ 1 + length (lines_of rest)
unfolding reply_text
one_reply n answer rest = one_line (reply_data n answer) rest

some_records : (n : ℕ) (rs : List Record) (rest : List ℕ) → length (lines_of (record_lines n rs ++ rest)) ≡ length rs + length (lines_of rest)
unfolding record_text
some_records n [] rest = omega arith
some_records n (r ∷ rs) rest =
    let behind = some_records (n + 1) rs rest in
    let first = one_line (record_data n r) (record_lines (n + 1) rs ++ rest) in
    ap (λ (text : List ℕ). length (lines_of text)) (append_assoc (record_text n r) (record_lines (n + 1) rs) rest) ∙ omega (arith, first, behind)

-- the lines of answers, and those behind them
pub all_lines : (count : ℕ) (ns : List ℕ) (all : List (Reply × List Record)) (rest : List ℕ) → length ns ≡ length all
    → length (lines_of (answer_lines count ns all ++ rest)) ≡ length all + length (records_in all) + length (lines_of rest)
all_lines count [] [] rest same = omega arith
all_lines count [] (a ∷ all) rest same = absurd (omega (arith, same))
all_lines count (n ∷ ns) [] rest same = absurd (omega (arith, same))
all_lines count (n ∷ ns) (a ∷ all) rest same =
    let more = answer_lines (count + length a.1) ns all in
    let behind = all_lines (count + length a.1) ns all rest (omega (arith, same)) in
    let records = some_records (count + 1) a.1 (more ++ rest) in
    let first = one_reply n a.0 (record_lines (count + 1) a.1 ++ (more ++ rest)) in
    let many = length-append a.1 (records_in all) in
    ap (λ (text : List ℕ). length (lines_of text)) (append_assoc (reply_text n a.0 ++ record_lines (count + 1) a.1) more rest ∙ append_assoc (reply_text n a.0) (record_lines (count + 1) a.1) (more ++ rest))
    ∙ omega (arith, first, records, behind, many)

pub end_line : (left count : ℕ) → length (lines_of (end_text left count)) ≡ 1
unfolding end_text line_of
end_line left count = ap (λ (lines : List (List ℕ)). length lines) (line_apart (compact_text (end_data left count)) [] (text_apart (end_data left count)))
