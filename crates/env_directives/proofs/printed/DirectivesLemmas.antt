-- What a directive prints is a text of that directive.
use Rattle.std.proofs.Common.{◌≡◌, ℕ, ◌<◌, Bool, true, false, List, [], ◌∷◌, ◌++◌, length, Some, None, Option, option_map, refl, sym, ap, ◌∙◌, arith, subst, append-nil, append_assoc, codes, map, not, lit<, ◌==◌, ◌||◌, is_some}
use Rattle.env_directives.proofs.Common.{AllByRecursion, nat_tests, LevelFilter, level_filter_text, level_filter_of, filter_of_word, named_level_filter, ucd_derived, begins_as_directive, unless_empty, directive_of_target, Front, bare, spanned, fielded, DirectiveForm, alone, head_comma, leveled, leveled_comma, front_text, form_text, IsHead, IsSpanName, IsFieldText, IsOpened, IsDirectiveFront, IsForm, fields_with_commas, directive_at, head_alone, level_or_target, level_behind, IsLevelText, directive_of_form, HasForm, directive_text, text_if_any, fields_text, HasNoMinusZero, field_of, Directive, Match}
use Rattle.std.specs.Str.{IsUtf8, chars}
use Rattle.trace_base.specs.declared.level.LevelFilter.TheVariants as filter
use Rattle.env_directives.proofs.printed.BeginningsLemmas.{bracket_begins, IsSeam, first_of, begins_by}
use Rattle.env_directives.proofs.printed.FieldsLemmas.{again, fields_again, fields_joined}

-- a level's word stands for it, and has no comma
level_again : (level : LevelFilter) → level_behind (level_filter_text level) ≡ Some level
unfolding named_level_filter filter_of_word
level_again filter.OFF = refl
level_again filter.ERROR = refl
level_again filter.WARN = refl
level_again filter.INFO = refl
level_again filter.DEBUG = refl
level_again filter.TRACE = refl

level_lacks : (level : LevelFilter) → IsLevelText (level_filter_text level)
level_lacks filter.OFF = refl
level_lacks filter.ERROR = refl
level_lacks filter.WARN = refl
level_lacks filter.INFO = refl
level_lacks filter.DEBUG = refl
level_lacks filter.TRACE = refl

-- a level alone
alone_again : (level : LevelFilter) → HasForm false (directive_text (directive_of_target [] level)) (directive_of_target [] level)
unfolding named_level_filter filter_of_word chars ucd_derived
alone_again filter.OFF = record { start = refl; form = alone (bare (codes "off")); parts = refl; whole = refl; means = refl }
alone_again filter.ERROR = record { start = refl; form = alone (bare (codes "error")); parts = refl; whole = refl; means = refl }
alone_again filter.WARN = record { start = refl; form = alone (bare (codes "warn")); parts = refl; whole = refl; means = refl }
alone_again filter.INFO = record { start = refl; form = alone (bare (codes "info")); parts = refl; whole = refl; means = refl }
alone_again filter.DEBUG = record { start = refl; form = alone (bare (codes "debug")); parts = refl; whole = refl; means = refl }
alone_again filter.TRACE = record { start = refl; form = alone (bare (codes "trace")); parts = refl; whole = refl; means = refl }

-- a text and another begin alike, if both go on from one head with a byte of ASCII
start_again : (text head more other : List ℕ) → 0 < length head → IsUtf8 text → text ≡ head ++ more → IsSeam more → begins_as_directive text ≡ true → begins_as_directive (head ++ other) ≡ true
start_again text head more other some utf8 whole seam start =
    let first = first_of head more some (subst IsUtf8 whole utf8) seam in
    begins_by head other first ∙ sym (begins_by head more first) ∙ ap begins_as_directive (sym whole) ∙ start

-- how a form goes on from its head
abbrev front_head : Front → List ℕ
front_head (bare head) = head
front_head (spanned head span) = head
front_head (fielded head span earlier last) = head

record GoesOn (text head : List ℕ) : Type 0 where
  more : List ℕ
  seam : IsSeam more
  whole : text ≡ head ++ more

front_goes_on : (front : Front) → GoesOn (front_text front) (front_head front)
front_goes_on (bare head) = record { more = []; seam = tt; whole = sym (append-nil head) }
front_goes_on (spanned head span) = record { more = codes "[" ++ (span ++ codes "]"); seam = lit< tt; whole = refl }
front_goes_on (fielded head span earlier last) =
    record { more = codes "[" ++ (span ++ (codes "{" ++ (fields_with_commas earlier ++ (last ++ codes "}]")))); seam = lit< tt; whole = refl }

goes_on_more : (text head rest : List ℕ) → GoesOn text head → IsSeam rest → GoesOn (text ++ rest) head
goes_on_more text head rest on seam = record {
  more = on.more ++ rest;
  seam = both on.more on.seam;
  whole = ap (λ (t : List ℕ). t ++ rest) on.whole ∙ append_assoc head on.more rest;
}
  where
    both : (more : List ℕ) → IsSeam more → IsSeam (more ++ rest)
    both [] s = seam
    both (b ∷ bs) s = s

-- the text of a front and a level
leveled_again : (front : Front) (level : LevelFilter) (printed : List ℕ) → begins_as_directive printed ≡ true → IsDirectiveFront front → printed ≡ front_text front ++ (codes "=" ++ level_filter_text level) →
    HasForm false printed (directive_at false front level)
leveled_again front level printed start part whole = record {
  start = start;
  form = leveled front (level_filter_text level);
  parts = (part, level_lacks level);
  whole = whole;
  means = ap (option_map (directive_at false front)) (level_again level);
}

-- the parts of a bracket, put together from the left and from the right
assembled : (head span earlier last more : List ℕ) →
    head ++ ((codes "[" ++ (span ++ ((codes "{" ++ (earlier ++ (last ++ codes "}"))) ++ codes "]"))) ++ more)
    ≡ (head ++ (codes "[" ++ (span ++ (codes "{" ++ (earlier ++ (last ++ codes "}]")))))) ++ more
assembled head span earlier last more = simp append_assoc refl

-- a text that a front begins, whose text prints with a level
module _ (text : List ℕ) (utf8 : IsUtf8 text) (start : begins_as_directive text ≡ true) where
  bare_again : (head : List ℕ) (level : LevelFilter) → IsHead head → GoesOn text head → HasForm false (directive_text (directive_of_target head level)) (directive_of_target head level)
  bare_again [] level part on = alone_again level
  bare_again (b ∷ bs) level part on =
      let begun : begins_as_directive ((b ∷ bs) ++ (codes "=" ++ level_filter_text level)) ≡ true =
      start_again text (b ∷ bs) on.more (codes "=" ++ level_filter_text level) (omega arith) utf8 on.whole on.seam start in
      leveled_again (bare (b ∷ bs)) level (directive_text (directive_of_target (b ∷ bs) level)) begun part refl

  bracket_start : (head more : List ℕ) → GoesOn text head → begins_as_directive (head ++ 91 ∷ more) ≡ true
  bracket_start [] more on = bracket_begins more
  bracket_start (b ∷ bs) more on = start_again text (b ∷ bs) on.more (91 ∷ more) (omega arith) utf8 on.whole on.seam start

  spanned_text : (head span : List ℕ) (level : LevelFilter) →
      directive_text (directive_at false (spanned head span) level) ≡ front_text (spanned head span) ++ (codes "=" ++ level_filter_text level)
  spanned_text [] span level = refl
  spanned_text (b ∷ bs) span level = simp append_assoc refl

  spanned_again : (head span : List ℕ) (level : LevelFilter) → IsHead head → IsSpanName span → GoesOn text head →
      HasForm false (directive_text (directive_at false (spanned head span) level)) (directive_at false (spanned head span) level)
  spanned_again head span level head_part span_part on =
      let so = spanned_text head span level in
      let begun : begins_as_directive (directive_text (directive_at false (spanned head span) level)) ≡ true =
      ap begins_as_directive (so ∙ append_assoc head (codes "[" ++ (span ++ codes "]")) (codes "=" ++ level_filter_text level)) ∙ bracket_start head ((span ++ codes "]") ++ (codes "=" ++ level_filter_text level)) on in
      leveled_again (spanned head span) level (directive_text (directive_at false (spanned head span) level)) begun (head_part, span_part) so

  -- with fields, the fields are printed anew
  fielded_text : (head span : List ℕ) (earlier : List (List ℕ)) (last : List ℕ) (level : LevelFilter) →
      directive_text (directive_at false (fielded head span earlier last) level)
      ≡ front_text (fielded head span (map again earlier) (again last)) ++ (codes "=" ++ level_filter_text level)
  fielded_text head span earlier last level = by_fields (map (field_of false) (earlier ++ last ∷ [])) (some earlier) (fields_joined earlier last)
    where
      some : (es : List (List ℕ)) → (length (map (field_of false) (es ++ last ∷ [])) == 0) ≡ false
      some [] = refl
      some (e ∷ es) = grind (arith, nat_tests)

      has : (span : Option (List ℕ)) (c : Bool) → c ≡ false → (is_some span || not c) ≡ true
      has None c e = rw e refl
      has (Some s) c e = refl

      equals : (head : Option (List ℕ)) (c : Bool) → c ≡ true → (is_some head || c) ≡ true
      equals None c e = e
      equals (Some h) c e = refl

      if_any : (t : List ℕ) → text_if_any (unless_empty t) ≡ t
      if_any [] = refl
      if_any (b ∷ bs) = refl

      by_fields : (fields : List Match) → (length fields == 0) ≡ false → fields_text fields ≡ codes "{" ++ (fields_with_commas (map again earlier) ++ (again last ++ codes "}")) →
          directive_text (record { in_span = unless_empty span; fields = fields; target = unless_empty head; level = level })
          ≡ front_text (fielded head span (map again earlier) (again last)) ++ (codes "=" ++ level_filter_text level)
      by_fields fields none joined =
          let bracket : (is_some (unless_empty span) || not (length fields == 0)) ≡ true = has (unless_empty span) (length fields == 0) none in
          rw (bracket, equals (unless_empty head) true refl, if_any head, if_any span, joined)
          (assembled head span (fields_with_commas (map again earlier)) (again last) (codes "=" ++ level_filter_text level))

  fielded_again : (head span : List ℕ) (earlier : List (List ℕ)) (last : List ℕ) (level : LevelFilter) → IsOpened head span earlier → IsFieldText last →
      HasNoMinusZero (map (field_of false) (earlier ++ last ∷ [])) → GoesOn text head →
      HasForm false (directive_text (directive_at false (fielded head span earlier last) level)) (directive_at false (fielded head span earlier last) level)
  fielded_again head span earlier last level parts part no_zero on =
      let all = fields_again (earlier ++ last ∷ []) (all_with earlier parts.2) no_zero in
      let anew = parted earlier all.0 in
      let so = fielded_text head span earlier last level in
      let front = fielded head span (map again earlier) (again last) in
      let printed = directive_text (directive_at false (fielded head span earlier last) level) in
      let begun : begins_as_directive printed ≡ true =
      ap begins_as_directive (so ∙ append_assoc head (codes "[" ++ (span ++ (codes "{" ++ (fields_with_commas (map again earlier) ++ (again last ++ codes "}]"))))) (codes "=" ++ level_filter_text level))
      ∙ bracket_start head ((span ++ (codes "{" ++ (fields_with_commas (map again earlier) ++ (again last ++ codes "}]")))) ++ (codes "=" ++ level_filter_text level)) on in
      let same : directive_at false front level ≡ directive_at false (fielded head span earlier last) level =
      ap (λ (fs : List Match). record { in_span = unless_empty span; fields = fs; target = unless_empty head; level = level }) (ap (map (field_of false)) (sym (map_both earlier)) ∙ all.1) in
      subst (HasForm false printed) same (leveled_again front level printed begun ((parts.0, parts.1, anew.0), anew.1) so)
    where
      all_with : (es : List (List ℕ)) → AllByRecursion IsFieldText es → AllByRecursion IsFieldText (es ++ last ∷ [])
      all_with [] all = (part, tt)
      all_with (e ∷ es) all = (all.0, all_with es all.1)

      parted : (es : List (List ℕ)) → AllByRecursion IsFieldText (map again (es ++ last ∷ [])) → AllByRecursion IsFieldText (map again es) × IsFieldText (again last)
      parted [] all = (tt, all.0)
      parted (e ∷ es) all = ((all.0, (parted es all.1).0), (parted es all.1).1)

      map_both : (es : List (List ℕ)) → map again (es ++ last ∷ []) ≡ map again es ++ again last ∷ []
      map_both [] = refl
      map_both (e ∷ es) = ap (λ (ts : List (List ℕ)). again e ∷ ts) (map_both es)

  front_again : (front : Front) (level : LevelFilter) → IsDirectiveFront front → HasNoMinusZero (directive_at false front level).fields → GoesOn text (front_head front) →
      HasForm false (directive_text (directive_at false front level)) (directive_at false front level)
  front_again (bare head) level part no_zero on = bare_again head level part on
  front_again (spanned head span) level part no_zero on = spanned_again head span level part.0 part.1 on
  front_again (fielded head span earlier last) level part no_zero on = fielded_again head span earlier last level part.0 part.1 no_zero on

  head_again : (head : List ℕ) → IsHead head → GoesOn text head → HasForm false (directive_text (head_alone head)) (head_alone head)
  head_again head part on = by_level (level_filter_of head)
    where
      by_level : (found : Option LevelFilter) → HasForm false (directive_text (level_or_target head found)) (level_or_target head found)
      by_level (Some level) = alone_again level
      by_level None = bare_again head filter.TRACE part on

  form_again : (form : DirectiveForm) (d : Directive) → IsForm form → text ≡ form_text form → directive_of_form false form ≡ Some d → HasNoMinusZero d.fields → HasForm false (directive_text d) d
  form_again (alone (bare head)) d parts whole means no_zero =
      let is : head_alone head ≡ d = cc in
      subst (λ (e : Directive). HasForm false (directive_text e) e) is (head_again head parts (moved (bare head) whole))
    where
      moved : (front : Front) → text ≡ front_text front → GoesOn text (front_head front)
      moved front whole = let on = front_goes_on front in record { more = on.more; seam = on.seam; whole = whole ∙ on.whole }
  form_again (alone (spanned head span)) d parts whole means no_zero =
      let is : directive_at false (spanned head span) filter.TRACE ≡ d = cc in
      let on = front_goes_on (spanned head span) in
      subst (λ (e : Directive). HasForm false (directive_text e) e) is
      (spanned_again head span filter.TRACE parts.0 parts.1 (record { more = on.more; seam = on.seam; whole = whole ∙ on.whole }))
  form_again (alone (fielded head span earlier last)) d parts whole means no_zero =
      let is : directive_at false (fielded head span earlier last) filter.TRACE ≡ d = cc in
      let on = front_goes_on (fielded head span earlier last) in
      subst (λ (e : Directive). HasForm false (directive_text e) e) is
      (fielded_again head span earlier last filter.TRACE parts.0 parts.1 (subst (λ (e : Directive). HasNoMinusZero e.fields) (sym is) no_zero) (record { more = on.more; seam = on.seam; whole = whole ∙ on.whole }))
  form_again (head_comma head) d parts whole means no_zero =
      let is : head_alone head ≡ d = cc in
      subst (λ (e : Directive). HasForm false (directive_text e) e) is (head_again head parts (record { more = codes ","; seam = lit< tt; whole = whole }))
  form_again (leveled front level) d parts whole means no_zero = by_level (level_behind level) refl means
    where
      by_level : (found : Option LevelFilter) → level_behind level ≡ found → option_map (directive_at false front) found ≡ Some d → HasForm false (directive_text d) d
      by_level None e means = absurd (cc)
      by_level (Some found) e means =
          let is : directive_at false front found ≡ d = cc in
          let on = goes_on_more (front_text front) (front_head front) (codes "=" ++ level) (front_goes_on front) (lit< tt) in
          subst (λ (e : Directive). HasForm false (directive_text e) e) is
          (front_again front found parts.0 (subst (λ (e : Directive). HasNoMinusZero e.fields) (sym is) no_zero) (record { more = on.more; seam = on.seam; whole = whole ∙ on.whole }))
  form_again (leveled_comma front level) d parts whole means no_zero = by_level (level_behind level) refl means
    where
      by_level : (found : Option LevelFilter) → level_behind level ≡ found → option_map (directive_at false front) found ≡ Some d → HasForm false (directive_text d) d
      by_level None e means = absurd (cc)
      by_level (Some found) e means =
          let is : directive_at false front found ≡ d = cc in
          let on = goes_on_more (front_text front) (front_head front) (codes "=" ++ (level ++ codes ",")) (front_goes_on front) (lit< tt) in
          subst (λ (e : Directive). HasForm false (directive_text e) e) is
          (front_again front found parts.0 (subst (λ (e : Directive). HasNoMinusZero e.fields) (sym is) no_zero) (record { more = on.more; seam = on.seam; whole = whole ∙ on.whole }))

pub printed_again : (text : List ℕ) (d : Directive) → IsUtf8 text → HasForm false text d → HasNoMinusZero d.fields → HasForm false (directive_text d) d
printed_again text d utf8 is no_zero = form_again text utf8 is.start is.form d is.parts is.whole is.means no_zero
