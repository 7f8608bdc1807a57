-- What a directive prints has no white space at its ends.
use Rattle.std.proofs.Common.{◌≡◌, ℕ, zero, suc, ◌+◌, ◌<◌, ◌≤◌, Bool, true, false, true≢false, List, [], ◌∷◌, ◌++◌, length, get_or, take, refl, sym, ap, ◌∙◌, arith, subst, append_assoc, inl, inr, ◌⊎◌, not, cond, lit<, codes, ◌==◌, ◌&&◌, ◌||◌, nat_lt}
use Rattle.env_directives.proofs.Common.{is_whitespace, trim, trim_start, trim_end, skip_leading_whitespace, drop_trailing_whitespace, take-append_seam, get_or-append_seam, cases_lt, nat_tests, chars-append, encodes-chars, scalars-chars, IsUtf8-take, IsCharBoundary-before_ascii, scalars, scalar, LevelFilter, level_filter_text, ucd_derived, begins_as_directive, may_begin, directive_text, text_if_any, bracket_text, equals_text, Directive}
use Rattle.std.specs.Str.{IsUtf8, chars, encode_utf8_all}
use Rattle.std.proofs.lemmas.Bool.{eqb-true, ltb-true}
use Rattle.std.proofs.lemmas.List.{length-append}
use Rattle.trace_base.specs.declared.level.LevelFilter.TheVariants as filter
use Rattle.ucd_category.proofs.Computing.{ucd_category}

-- no directive begins with one of n characters from another on
abbrev none_from : ℕ → ℕ → Bool
none_from c zero = true
none_from c (suc n) = not (may_begin c) && none_from (c + 1) n

within : (n first c : ℕ) → none_from first n ≡ true → first ≤ c → c < first + n → may_begin c ≡ false
within zero first c none low high = absurd (omega arith)
within (suc n) first c none low high = go (may_begin first) refl none (within n (first + 1) c)
  where
    go : (b : Bool) → may_begin first ≡ b → (not b && none_from (first + 1) n) ≡ true →
        (none_from (first + 1) n ≡ true → first + 1 ≤ c → c < first + 1 + n → may_begin c ≡ false) → may_begin c ≡ false
    go true e none later = absurd (true≢false (sym none))
    go false e none later = elim (cases_lt first c) [
      | inl above ↦ later none (omega arith) (omega arith)
      | inr same ↦ let is : first ≡ c = omega arith in subst (λ (x : ℕ). may_begin x ≡ false) is e
    ]

some_of : (a b : Bool) → (a || b) ≡ true → (a ≡ true) ⊎ (b ≡ true)
some_of true b e = inl refl
some_of false b e = inr e

both_of : (a b : Bool) → (a && b) ≡ true → (a ≡ true) × (b ≡ true)
both_of true b e = (refl, e)
both_of false b e = absurd (true≢false (sym e))

at_one : (place c : ℕ) → may_begin place ≡ false → (c == place) ≡ true → may_begin c ≡ false
at_one place c none e = subst (λ (x : ℕ). may_begin x ≡ false) (sym (eqb-true c place e)) none

-- no directive begins with white space
space_begins_none : (c : ℕ) → is_whitespace c ≡ true → may_begin c ≡ false
unfolding ucd_derived ucd_category
space_begins_none c e = elim (some_of _ _ e) [
  | inr p ↦ at_one 12288 c refl p
  | inl e ↦ elim (some_of _ _ e) [
    | inr p ↦ at_one 8287 c refl p
    | inl e ↦ elim (some_of _ _ e) [
      | inr p ↦ at_one 8239 c refl p
      | inl e ↦ elim (some_of _ _ e) [
        | inr p ↦ at_one 8233 c refl p
        | inl e ↦ elim (some_of _ _ e) [
          | inr p ↦ at_one 8232 c refl p
          | inl e ↦ elim (some_of _ _ e) [
            | inr p ↦ let r = both_of (nat_lt 8191 c) (nat_lt c 8203) p in within 11 8192 c refl (let low : 8191 < c = ltb-true 8191 c r.0 in omega arith) (ltb-true c 8203 r.1)
            | inl e ↦ elim (some_of _ _ e) [
              | inr p ↦ at_one 5760 c refl p
              | inl e ↦ elim (some_of _ _ e) [
                | inr p ↦ at_one 160 c refl p
                | inl e ↦ elim (some_of _ _ e) [
                  | inr p ↦ at_one 133 c refl p
                  | inl e ↦ elim (some_of _ _ e) [
                    | inr p ↦ at_one 32 c refl p
                    | inl p ↦ let r = both_of (nat_lt 8 c) (nat_lt c 14) p in within 5 9 c refl (let low : 8 < c = ltb-true 8 c r.0 in omega arith) (ltb-true c 14 r.1)
                  ]
                ]
              ]
            ]
          ]
        ]
      ]
    ]
  ]
]

pub no_space : (c : ℕ) → may_begin c ≡ true → is_whitespace c ≡ false
no_space c h = go (is_whitespace c) refl
  where
    go : (b : Bool) → is_whitespace c ≡ b → is_whitespace c ≡ false
    go false e = e
    go true e = absurd (true≢false (sym h ∙ space_begins_none c e))

-- a text of characters stays one without the white space at its ends
scalars_skip : (cs : List ℕ) → scalars cs ≡ true → scalars (skip_leading_whitespace cs) ≡ true
scalars_skip [] ok = refl
scalars_skip (c ∷ cs) ok = go (is_whitespace c) refl (scalars_skip cs)
  where
    go : (b : Bool) → is_whitespace c ≡ b → (scalars cs ≡ true → scalars (skip_leading_whitespace cs) ≡ true) → scalars (cond b (skip_leading_whitespace cs) (c ∷ cs)) ≡ true
    go true e later = later (both_of (scalar c) (scalars cs) ok).1
    go false e later = ok

scalars_drop : (cs : List ℕ) → scalars cs ≡ true → scalars (drop_trailing_whitespace cs) ≡ true
scalars_drop [] ok = refl
scalars_drop (c ∷ cs) ok = go (is_whitespace c && length (drop_trailing_whitespace cs) == 0) (scalars_drop cs)
  where
    go : (b : Bool) → (scalars cs ≡ true → scalars (drop_trailing_whitespace cs) ≡ true) → scalars (cond b [] (c ∷ drop_trailing_whitespace cs)) ≡ true
    go true later = refl
    go false later = let parts = both_of (scalar c) (scalars cs) ok in rw (parts.0, later parts.1) refl

pub trim_utf8 : (text : List ℕ) → IsUtf8 text → IsUtf8 (trim text)
unfolding trim_start trim_end
trim_utf8 text utf8 =
    let start : IsUtf8 (trim_start text) = (skip_leading_whitespace (chars text), (scalars_skip (chars text) (scalars-chars text utf8), refl)) in
    (drop_trailing_whitespace (chars (trim_start text)), (scalars_drop (chars (trim_start text)) (scalars-chars (trim_start text) start), refl))

-- a text that begins as a directive may begins with no white space
start_kept : (text : List ℕ) → IsUtf8 text → begins_as_directive text ≡ true → trim_start text ≡ text
unfolding trim_start
start_kept text utf8 start = go (chars text) refl start
  where
    go : (cs : List ℕ) → chars text ≡ cs → begins_as_directive text ≡ true → encode_utf8_all (skip_leading_whitespace (chars text)) ≡ text
    go [] e start = let none : false ≡ true = rw e at start in absurd (true≢false (sym none))
    go (c ∷ cs) e start =
        let first : may_begin c ≡ true = rw e at start in
        let kept : skip_leading_whitespace (chars text) ≡ chars text = rw (e, no_space c first) refl in
        ap encode_utf8_all kept ∙ encodes-chars text utf8

drop_kept : (cs : List ℕ) (last : ℕ) → is_whitespace last ≡ false → drop_trailing_whitespace (cs ++ last ∷ []) ≡ cs ++ last ∷ []
drop_kept [] last ink = rw ink refl
drop_kept (c ∷ cs) last ink = go (is_whitespace c) refl (drop_kept cs last ink)
  where
    some : (xs : List ℕ) → (length (xs ++ last ∷ []) == 0) ≡ false
    some [] = refl
    some (x ∷ xs) = grind (arith, nat_tests)

    go : (b : Bool) → is_whitespace c ≡ b → drop_trailing_whitespace (cs ++ last ∷ []) ≡ cs ++ last ∷ [] →
        cond (b && length (drop_trailing_whitespace (cs ++ last ∷ [])) == 0) [] (c ∷ drop_trailing_whitespace (cs ++ last ∷ [])) ≡ c ∷ (cs ++ last ∷ [])
    go true e later = rw (later, some cs) refl
    go false e later = rw later refl

-- a text that ends with a byte of ASCII that is no white space
end_kept : (text front : List ℕ) (last : ℕ) → IsUtf8 text → text ≡ front ++ last ∷ [] → last < 128 → chars (last ∷ []) ≡ last ∷ [] → is_whitespace last ≡ false → trim_end text ≡ text
unfolding trim_end
end_kept text front last utf8 whole ascii alone ink =
    let n = length front in
    let at : get_or text n 0 ≡ last = ap (λ (t : List ℕ). get_or t n 0) whole ∙ get_or-append_seam front last [] 0 in
    let inside : n < length text = rw whole (simp length-append (omega arith)) in
    let cut : take n text ≡ front = ap (take n) whole ∙ take-append_seam front (last ∷ []) in
    let front_utf8 : IsUtf8 front = subst IsUtf8 cut (IsUtf8-take text n utf8 (IsCharBoundary-before_ascii text n inside (rw at ascii))) in
    let read : chars text ≡ chars front ++ last ∷ [] = ap chars whole ∙ chars-append front (last ∷ []) front_utf8 ∙ ap (λ (cs : List ℕ). chars front ++ cs) alone in
    let kept : drop_trailing_whitespace (chars text) ≡ chars text = ap drop_trailing_whitespace read ∙ drop_kept (chars front) last ink ∙ sym read in
    ap encode_utf8_all kept ∙ encodes-chars text utf8

-- the text of a directive ends with its level's word
word_kept : (front : List ℕ) (level : LevelFilter) → IsUtf8 (front ++ level_filter_text level) → trim_end (front ++ level_filter_text level) ≡ front ++ level_filter_text level
unfolding chars
word_kept front filter.OFF utf8 = end_kept (front ++ codes "off") (front ++ codes "of") 102 utf8 (sym (append_assoc front (codes "of") (102 ∷ []))) (lit< tt) refl refl
word_kept front filter.ERROR utf8 = end_kept (front ++ codes "error") (front ++ codes "erro") 114 utf8 (sym (append_assoc front (codes "erro") (114 ∷ []))) (lit< tt) refl refl
word_kept front filter.WARN utf8 = end_kept (front ++ codes "warn") (front ++ codes "war") 110 utf8 (sym (append_assoc front (codes "war") (110 ∷ []))) (lit< tt) refl refl
word_kept front filter.INFO utf8 = end_kept (front ++ codes "info") (front ++ codes "inf") 111 utf8 (sym (append_assoc front (codes "inf") (111 ∷ []))) (lit< tt) refl refl
word_kept front filter.DEBUG utf8 = end_kept (front ++ codes "debug") (front ++ codes "debu") 103 utf8 (sym (append_assoc front (codes "debu") (103 ∷ []))) (lit< tt) refl refl
word_kept front filter.TRACE utf8 = end_kept (front ++ codes "trace") (front ++ codes "trac") 101 utf8 (sym (append_assoc front (codes "trac") (101 ∷ []))) (lit< tt) refl refl

pub printed_trimmed : (d : Directive) → IsUtf8 (directive_text d) → begins_as_directive (directive_text d) ≡ true → trim (directive_text d) ≡ directive_text d
printed_trimmed d utf8 start =
    let front = text_if_any d.target ++ (bracket_text d ++ equals_text d) in
    let whole : directive_text d ≡ front ++ level_filter_text d.level = joined (text_if_any d.target) (bracket_text d) (equals_text d) (level_filter_text d.level) in
    ap trim_end (start_kept (directive_text d) utf8 start)
    ∙ subst (λ (t : List ℕ). trim_end t ≡ t) (sym whole) (word_kept front d.level (subst IsUtf8 whole utf8))
  where
    joined : (a b c e : List ℕ) → a ++ (b ++ (c ++ e)) ≡ (a ++ (b ++ c)) ++ e
    joined a b c e = simp append_assoc refl
