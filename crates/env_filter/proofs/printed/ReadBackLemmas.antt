-- Each directive that was read from a piece of a text is read back from what it prints.
use Rattle.std.proofs.Common.{◌≡◌, ℕ, ◌+◌, ◌<◌, ◌^◌, List, [], ◌∷◌, ◌++◌, Bool, true, false, true≢false, not, codes, Option, Some, None, option_map, ℤ, pos, negsuc, suc, refl, sym, subst, ◌∙◌, arith, append-nil, append_assoc, map, lit<, ◌==◌, ◌||◌, if◌then◌else◌, nat_lt, is_some, IfSome}
use Rattle.std.specs.Fmt.{decimal}
use Rattle.env_filter.proofs.Common.{list_all, trim, encode, and_parts, IsUtf8-append, IsUtf8-from_ascii, LevelFilter, level_filter_text, pieces_at, is_among, lacks, unless_empty, directive_of_target, Front, bare, spanned, fielded, DirectiveForm, alone, head_comma, leveled, leveled_comma, front_text, form_text, IsFieldText, IsDirectiveFront, IsForm, fields_with_commas, directive_at, head_alone, level_or_target, level_behind, directive_of_form, IsDirective, comma_pieces, value_text, match_text, text_if_any, fields_text, has_bracket, bracket_text, equals_text, directive_text, HasNoMinusZero, Directive, Match, printed_trimmed, Each, ReadsPiece, ReadsAll, ReadsText, IsReadBack, HaveNoMinusZero, Ignored}
use Rattle.std.specs.Str.{IsUtf8}
use Rattle.std.specs.Str.Parse.{signed_digits_value, without_leading_sign}
use Rattle.std.proofs.lemmas.Bool.{ltb-true}
use Rattle.std.proofs.lemmas.Fmt.{IsAscii-decimal}
use Rattle.trace_base.specs.declared.level.LevelFilter.TheVariants as filter
use Rattle.trace_base.specs.words.LevelWords.{level_filter_of, decimal_value, digits_number}
use Rattle.env_directives.specs.reading.Values.{u64_of, i64_of, fits_i64, truth_of, plain_value, value_of, field_of}
use Rattle.env_directives.specs.declared.env.field.ValueMatch.TheVariants.{Bool as Truth, I64}
use Rattle.env_directives.proofs.cuts.CutsLemmas.{among_ascii, cut_joined, cut_stop, cut_off}
use Rattle.env_directives.proofs.printed.FieldsLemmas.{again, field_again}
use Rattle.env_directives.proofs.printed.DirectivesLemmas.{printed_again}
use Rattle.env_filter.proofs.printed.RefusalsLemmas.{both_each}
use Rattle.env_filter.proofs.printed.TextPartsLemmas.{IsPiece, pieces_of, lacks_parts, cut_utf8, cut_piece, empty_piece, join_pieces, trim_piece}

-- ---- the value of a field prints whole characters

decimal_utf8 : (n : ℕ) → n < 2 ^ 64 → IsUtf8 (decimal n)
decimal_utf8 n small = IsUtf8-from_ascii (decimal n) (IsAscii-decimal n small)

u64_utf8 : (text : List ℕ) (n : ℕ) → u64_of text ≡ Some n → IsUtf8 (decimal n)
unfolding u64_of
u64_utf8 text n reads = by_number (decimal_value text) refl
  where
    by_fit : (m : ℕ) (c : Bool) → nat_lt m (2 ^ 64) ≡ c → decimal_value text ≡ Some m → IsUtf8 (decimal n)
    by_fit m false fit number = absurd (let none : None ≡ Some n = rw (number, fit) at reads in cc)
    by_fit m true fit number =
        let is : Some m ≡ Some n = rw (number, fit) at reads in
        let same : m ≡ n = cc in
        subst (λ (x : ℕ). IsUtf8 (decimal x)) same (decimal_utf8 m (ltb-true m (2 ^ 64) fit))

    by_number : (o : Option ℕ) → decimal_value text ≡ o → IsUtf8 (decimal n)
    by_number None number = absurd (let none : None ≡ Some n = rw number at reads in cc)
    by_number (Some m) number = by_fit m (nat_lt m (2 ^ 64)) refl number

fitting_utf8 : (z : ℤ) → fits_i64 z ≡ true → IsUtf8 (value_text (I64 z))
unfolding encode
fitting_utf8 (pos n) fit = decimal_utf8 n (let small : n < 2 ^ 63 = ltb-true n (2 ^ 63) fit in omega arith)
fitting_utf8 (negsuc n) fit = IsUtf8-append (codes "-") (decimal (suc n)) (codes "-", (refl, refl)) (decimal_utf8 (suc n) (let small : n < 2 ^ 63 = ltb-true n (2 ^ 63) fit in omega arith))

i64_utf8 : (text : List ℕ) (z : ℤ) → i64_of text ≡ Some z → IsUtf8 (value_text (I64 z))
unfolding i64_of
i64_utf8 text z reads = by_number (digits_number (without_leading_sign text)) refl
  where
    by_fit : (c : Bool) (m : ℕ) → fits_i64 (signed_digits_value 10 text) ≡ c → digits_number (without_leading_sign text) ≡ Some m → IsUtf8 (value_text (I64 z))
    by_fit false m fit number = absurd (let none : None ≡ Some z = rw (number, fit) at reads in cc)
    by_fit true m fit number =
        let is : Some (signed_digits_value 10 text) ≡ Some z = rw (number, fit) at reads in
        let same : signed_digits_value 10 text ≡ z = cc in
        subst (λ (y : ℤ). IsUtf8 (value_text (I64 y))) same (fitting_utf8 (signed_digits_value 10 text) fit)

    by_number : (o : Option ℕ) → digits_number (without_leading_sign text) ≡ o → IsUtf8 (value_text (I64 z))
    by_number None number = absurd (let none : None ≡ Some z = rw number at reads in cc)
    by_number (Some m) number = by_fit (fits_i64 (signed_digits_value 10 text)) m refl number

truth_utf8 : (truth : Bool) → IsUtf8 (value_text (Truth truth))
unfolding encode
truth_utf8 true = (codes "true", (refl, refl))
truth_utf8 false = (codes "false", (refl, refl))

value_utf8 : (text : List ℕ) → IsUtf8 text → IsUtf8 (value_text (value_of false text))
unfolding plain_value
value_utf8 text utf8 = by_truth (truth_of text) refl
  where
    by_i64 : (o : Option ℤ) → truth_of text ≡ None → u64_of text ≡ None → i64_of text ≡ o → IsUtf8 (value_text (value_of false text))
    by_i64 None t u i = rw (t, u, i) utf8
    by_i64 (Some z) t u i = rw (t, u, i) (i64_utf8 text z i)

    by_u64 : (o : Option ℕ) → truth_of text ≡ None → u64_of text ≡ o → IsUtf8 (value_text (value_of false text))
    by_u64 None t u = by_i64 (i64_of text) t u refl
    by_u64 (Some n) t u = rw (t, u) (u64_utf8 text n u)

    by_truth : (o : Option Bool) → truth_of text ≡ o → IsUtf8 (value_text (value_of false text))
    by_truth None t = by_u64 (u64_of text) t refl
    by_truth (Some truth) t = rw t (truth_utf8 truth)

-- ---- a field prints what a field may be

front_utf8 : (stops text : List ℕ) → list_all (λ s. nat_lt s 128) stops ≡ true → IsUtf8 text → IsUtf8 (pieces_at stops text).front
front_utf8 stops text ascii utf8 = by_stop (pieces_at stops text).front (pieces_at stops text).stop (pieces_at stops text).rest (cut_stop stops text) (cut_joined stops text)
  where
    by_stop : (front : List ℕ) (stop : Option ℕ) (rest : List ℕ) → IfSome stop (λ s. is_among stops s ≡ true) → text ≡ front ++ cut_off stop rest → IsUtf8 front
    by_stop front None rest among joined = subst IsUtf8 (joined ∙ append-nil front) utf8
    by_stop front (Some s) rest among joined = (cut_utf8 front s rest (among_ascii stops s ascii among) (subst IsUtf8 joined utf8)).0

field_utf8 : (field : List ℕ) → IsUtf8 field → IsUtf8 (again field)
unfolding field_of encode
field_utf8 field utf8 = by_stop (pieces_at (codes "=") field).front (pieces_at (codes "=") field).stop (pieces_at (codes "=") field).rest (cut_stop (codes "=") field) (cut_joined (codes "=") field)
  where
    by_stop : (name : List ℕ) (stop : Option ℕ) (rest : List ℕ) → IfSome stop (λ s. is_among (codes "=") s ≡ true) → field ≡ name ++ cut_off stop rest →
        IsUtf8 (match_text (record { name = name; value = option_map (λ _. value_of false (pieces_at (codes "=") rest).front) stop }))
    by_stop name None rest among joined = subst IsUtf8 joined utf8
    by_stop name (Some s) rest among joined =
        let parts = cut_utf8 name s rest (among_ascii (codes "=") s refl among) (subst IsUtf8 joined utf8) in
        let value = (pieces_at (codes "=") rest).front in
        IsUtf8-append name (codes "=" ++ value_text (value_of false value)) parts.0
        (IsUtf8-append (codes "=") (value_text (value_of false value)) (codes "=", (refl, refl)) (value_utf8 value (front_utf8 (codes "=") rest refl parts.1)))

no_end : (text : List ℕ) → lacks (codes ",}") text ≡ true → lacks (codes ",") text ≡ true
no_end [] lacking = refl
no_end (b ∷ bs) lacking =
    let parts = and_parts (not (is_among (codes ",}") b)) (lacks (codes ",}") bs) lacking in
    rw (by_byte (44 == b) parts.0, no_end bs parts.1) refl
  where
    by_byte : (c : Bool) → not (c || (125 == b || false)) ≡ true → (c || false) ≡ false
    by_byte true is = absurd (true≢false (sym is))
    by_byte false is = refl

field_lacks : (field : List ℕ) → IsFieldText field → lacks (codes ",") field ≡ true
field_lacks [] is = refl
field_lacks (b ∷ bs) is = no_end (b ∷ bs) is

field_piece : (field : List ℕ) → IsPiece field → IsFieldText field → HasNoMinusZero (field_of false field ∷ []) → IsPiece (match_text (field_of false field))
field_piece field piece is no_zero = record {
  utf8 = field_utf8 field piece.utf8;
  no_comma = field_lacks (again field) (field_again field is no_zero.0).0;
}

-- ---- a directive of such parts prints such a text

abbrev FieldsArePieces : List Match → Type 0
FieldsArePieces [] = Unit {0}
FieldsArePieces (field ∷ []) = IsPiece (match_text field)
FieldsArePieces (field ∷ other ∷ fields) = ⊥

record ArePieces (d : Directive) : Type 0 where
  target : IfSome d.target IsPiece
  in_span : IfSome d.in_span IsPiece
  fields : FieldsArePieces d.fields

if_any : (text : Option (List ℕ)) → IfSome text IsPiece → IsPiece (text_if_any text)
if_any None piece = empty_piece
if_any (Some text) piece = piece

if_so : (c : Bool) (text : List ℕ) → IsPiece text → IsPiece (if c then text else [])
if_so true text piece = piece
if_so false text piece = empty_piece

fields_piece : (fields : List Match) → FieldsArePieces fields → IsPiece (fields_text fields)
unfolding encode
fields_piece [] piece = empty_piece
fields_piece (field ∷ []) piece =
    let one : IsPiece (match_text field ++ []) = subst IsPiece (sym (append-nil (match_text field))) piece in
    let closing : IsPiece (codes "}") = record { utf8 = (codes "}", (refl, refl)); no_comma = refl } in
    join_pieces (codes "{") ((match_text field ++ []) ++ codes "}") (record { utf8 = (codes "{", (refl, refl)); no_comma = refl }) (join_pieces (match_text field ++ []) (codes "}") one closing)
fields_piece (field ∷ other ∷ fields) piece = absurd piece

level_piece : (level : LevelFilter) → IsPiece (level_filter_text level)
unfolding encode
level_piece filter.OFF = record { utf8 = (codes "off", (refl, refl)); no_comma = refl }
level_piece filter.ERROR = record { utf8 = (codes "error", (refl, refl)); no_comma = refl }
level_piece filter.WARN = record { utf8 = (codes "warn", (refl, refl)); no_comma = refl }
level_piece filter.INFO = record { utf8 = (codes "info", (refl, refl)); no_comma = refl }
level_piece filter.DEBUG = record { utf8 = (codes "debug", (refl, refl)); no_comma = refl }
level_piece filter.TRACE = record { utf8 = (codes "trace", (refl, refl)); no_comma = refl }

bracket_piece : (d : Directive) → ArePieces d → IsPiece (bracket_text d)
unfolding encode
bracket_piece d are =
    let closing : IsPiece (codes "]") = record { utf8 = (codes "]", (refl, refl)); no_comma = refl } in
    let opening : IsPiece (codes "[") = record { utf8 = (codes "[", (refl, refl)); no_comma = refl } in
    let inside = join_pieces (text_if_any d.in_span) (fields_text d.fields ++ codes "]") (if_any d.in_span are.in_span) (join_pieces (fields_text d.fields) (codes "]") (fields_piece d.fields are.fields) closing) in
    if_so (has_bracket d) (codes "[" ++ (text_if_any d.in_span ++ (fields_text d.fields ++ codes "]"))) (join_pieces (codes "[") (text_if_any d.in_span ++ (fields_text d.fields ++ codes "]")) opening inside)

directive_piece : (d : Directive) → ArePieces d → IsPiece (directive_text d)
unfolding encode
directive_piece d are =
    let sign : IsPiece (codes "=") = record { utf8 = (codes "=", (refl, refl)); no_comma = refl } in
    let behind = join_pieces (equals_text d) (level_filter_text d.level) (if_so (is_some d.target || has_bracket d) (codes "=") sign) (level_piece d.level) in
    join_pieces (text_if_any d.target) (bracket_text d ++ (equals_text d ++ level_filter_text d.level)) (if_any d.target are.target)
    (join_pieces (bracket_text d) (equals_text d ++ level_filter_text d.level) (bracket_piece d are) behind)

-- ---- what a text without commas means has such parts

unless : (text : List ℕ) → IsPiece text → IfSome (unless_empty text) IsPiece
unless [] piece = tt
unless (b ∷ bs) piece = piece

target_parts : (head : List ℕ) (level : LevelFilter) → IsPiece head → ArePieces (directive_of_target head level)
target_parts head level piece = record { target = unless head piece; in_span = tt; fields = tt }

-- between the braces stands one field
one_field : (earlier : List (List ℕ)) (last more : List ℕ) → IsPiece (fields_with_commas earlier ++ (last ++ 125 ∷ more)) → (earlier ≡ []) × IsPiece last
one_field [] last more piece = (refl, (cut_piece last 125 more (lit< tt) piece).0)
one_field (e ∷ es) last more piece =
    let whole : fields_with_commas (e ∷ es) ++ (last ++ 125 ∷ more) ≡ e ++ 44 ∷ (fields_with_commas es ++ (last ++ 125 ∷ more)) = simp append_assoc refl in
    let parts = lacks_parts (codes ",") e (44 ∷ (fields_with_commas es ++ (last ++ 125 ∷ more))) (subst (λ (t : List ℕ). lacks (codes ",") t ≡ true) whole piece.no_comma) in
    absurd (true≢false (sym parts.1))

front_parts : (front : Front) (level : LevelFilter) → IsDirectiveFront front → IsPiece (front_text front) → HasNoMinusZero (directive_at false front level).fields → ArePieces (directive_at false front level)
front_parts (bare head) level parts piece no_zero = target_parts head level piece
front_parts (spanned head span) level parts piece no_zero =
    let at = cut_piece head 91 (span ++ codes "]") (lit< tt) piece in
    record { target = unless head at.0; in_span = (cut_piece span 93 [] (lit< tt) at.1).0; fields = tt }
front_parts (fielded head span earlier last) level parts piece no_zero =
    let at = cut_piece head 91 (span ++ (codes "{" ++ (fields_with_commas earlier ++ (last ++ codes "}]")))) (lit< tt) piece in
    let behind = cut_piece span 123 (fields_with_commas earlier ++ (last ++ codes "}]")) (lit< tt) at.1 in
    let one = one_field earlier last (codes "]") behind.1 in
    let alone : HasNoMinusZero (map (field_of false) ([] ++ last ∷ [])) = subst (λ (es : List (List ℕ)). HasNoMinusZero (map (field_of false) (es ++ last ∷ []))) one.0 no_zero in
    record {
      target = unless head at.0;
      in_span = unless span behind.0;
      fields = subst (λ (es : List (List ℕ)). FieldsArePieces (map (field_of false) (es ++ last ∷ []))) (sym one.0) (field_piece last one.1 parts.1 alone);
    }

head_parts : (head : List ℕ) → IsPiece head → ArePieces (head_alone head)
head_parts head piece = by_level (level_filter_of head)
  where
    by_level : (found : Option LevelFilter) → ArePieces (level_or_target head found)
    by_level (Some level) = target_parts [] level empty_piece
    by_level None = target_parts head filter.TRACE piece

leveled_parts : (front : Front) (d : Directive) (found : Option LevelFilter) → IsDirectiveFront front → IsPiece (front_text front) → option_map (directive_at false front) found ≡ Some d → HasNoMinusZero d.fields → ArePieces d
leveled_parts front d None parts piece means no_zero = absurd (cc)
leveled_parts front d (Some level) parts piece means no_zero =
    let is : directive_at false front level ≡ d = cc in
    subst ArePieces is (front_parts front level parts piece (subst (λ (e : Directive). HasNoMinusZero e.fields) (sym is) no_zero))

form_parts : (form : DirectiveForm) (d : Directive) → IsForm form → IsPiece (form_text form) → directive_of_form false form ≡ Some d → HasNoMinusZero d.fields → ArePieces d
form_parts (alone (bare head)) d parts piece means no_zero =
    let is : head_alone head ≡ d = cc in
    subst ArePieces is (head_parts head piece)
form_parts (alone (spanned head span)) d parts piece means no_zero = leveled_parts (spanned head span) d (Some filter.TRACE) parts piece means no_zero
form_parts (alone (fielded head span earlier last)) d parts piece means no_zero = leveled_parts (fielded head span earlier last) d (Some filter.TRACE) parts piece means no_zero
form_parts (head_comma head) d parts piece means no_zero =
    let is : head_alone head ≡ d = cc in
    subst ArePieces is (head_parts head (cut_piece head 44 [] (lit< tt) piece).0)
form_parts (leveled front level) d parts piece means no_zero =
    leveled_parts front d (level_behind level) parts.0 (cut_piece (front_text front) 61 level (lit< tt) piece).0 means no_zero
form_parts (leveled_comma front level) d parts piece means no_zero =
    leveled_parts front d (level_behind level) parts.0 (cut_piece (front_text front) 61 (level ++ codes ",") (lit< tt) piece).0 means no_zero

read_back : (piece : List ℕ) (d : Directive) → IsPiece piece → IsDirective false (trim piece) d → HasNoMinusZero d.fields → IsReadBack d
read_back piece d is reads no_zero =
    let trimmed = trim_piece piece is in
    let printed = directive_piece d (form_parts reads.form d reads.parts (subst IsPiece reads.whole trimmed) reads.means no_zero) in
    let anew = printed_again (trim piece) d trimmed.utf8 reads no_zero in
    (printed.no_comma, subst (λ (t : List ℕ). IsDirective false t d) (sym (printed_trimmed d printed.utf8 anew.start)) anew)

-- ---- each directive of a text

each_parts : {X : Type 0} (P : X → Type 0) (xs ys : List X) → Each P (xs ++ ys) → Each P xs × Each P ys
each_parts P [] ys all = (tt, all)
each_parts P (x ∷ xs) ys all = let later = each_parts P xs ys all.1 in ((all.0, later.0), later.1)

one_back : (n : ℕ) (piece : List ℕ) (ds : List Directive) (is : List Ignored) → IsPiece piece → ReadsPiece false n piece ds is → HaveNoMinusZero ds → Each IsReadBack ds
one_back n piece [] is part reads no_zero = tt
one_back n [] (d ∷ ds) is part reads no_zero = absurd reads
one_back n (b ∷ bs) (d ∷ []) [] part reads no_zero = (read_back (b ∷ bs) d part reads no_zero.0, tt)
one_back n (b ∷ bs) (d ∷ []) (i ∷ is) part reads no_zero = absurd reads
one_back n (b ∷ bs) (d ∷ e ∷ ds) is part reads no_zero = absurd reads

each_back : (n : ℕ) (pieces : List (List ℕ)) (ds : List Directive) (is : List Ignored) → Each IsPiece pieces → ReadsAll false n pieces ds is → HaveNoMinusZero ds → Each IsReadBack ds
each_back n [] ds is parts reads no_zero = subst (Each IsReadBack) (sym reads.0) tt
each_back n (piece ∷ pieces) ds is parts reads no_zero =
    let none = each_parts (λ (d : Directive). HasNoMinusZero d.fields) reads.directives reads.later (subst HaveNoMinusZero reads.all no_zero) in
    subst (Each IsReadBack) (sym reads.all)
    (both_each IsReadBack reads.directives reads.later (one_back n piece reads.directives reads.ignored parts.0 reads.reads none.0) (each_back (n + 1) pieces reads.later reads.later_ignored parts.1 reads.behind none.1))

pub read_back_each : (text : List ℕ) (ds : List Directive) (is : List Ignored) → IsUtf8 text → ReadsText false text ds is → HaveNoMinusZero ds → Each IsReadBack ds
read_back_each text ds is utf8 reads no_zero = each_back 1 (comma_pieces text) ds is (pieces_of text utf8) reads no_zero
