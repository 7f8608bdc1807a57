-- What is read is the grammar: each form is read as what it means, and what is read has a form.
use Rattle.std.proofs.Common.{◌≡◌, ℕ, Bool, true, List, [], ◌∷◌, ◌++◌, Some, None, Option, Ok, Err, refl, ap, ◌∙◌, subst, append_assoc, append-nil, codes, map}
use Rattle.env_directives.proofs.Common.{AllByRecursion, LevelFilter, TRACE, is_among, HasBadLevel, HasEmptyField, IsEnd, begins_as_directive, unless_empty, directive_of_target, text_up_to_fields, Front, bare, spanned, fielded, DirectiveForm, alone, head_comma, leveled, leveled_comma, front_text, form_text, IsHead, IsSpanName, IsFieldText, IsOpened, IsDirectiveFront, IsForm, IsLevelText, fields_with_commas, directive_at, directive_alone, head_alone, level_behind, directive_of_form, HasForm, at_level, read_nothing_more, read_level, read_level_if_any, read_close, more_fields, field_ends, read_fields, read_fielded, read_bracket, read_directive, field_of, Level, Field, Directive}
use Rattle.std.specs.Option.{option_map}
use Rattle.env_directives.proofs.cuts.CutsLemmas.{cut_whole, cut_at}
use Rattle.env_directives.proofs.cuts.FieldsLemmas.{fields_cut}

-- how a level's text is read, with what stands behind it
level_whole : (d : Directive) (level : List ℕ) (found : LevelFilter) → IsLevelText level → level_behind level ≡ Some found → read_level d level ≡ Ok (at_level d found)
unfolding read_level
level_whole d level found lacking reads = rw (cut_whole (codes ",") level lacking, reads) refl

level_ended : (d : Directive) (level : List ℕ) (found : LevelFilter) → IsLevelText level → level_behind level ≡ Some found → read_level d (level ++ codes ",") ≡ Ok (at_level d found)
unfolding read_level read_nothing_more
level_ended d level found lacking reads = rw (cut_at (codes ",") level 44 [] lacking refl, reads) refl

level_unread : (d : Directive) (level more : List ℕ) → IsLevelText level → IsEnd more → level_behind level ≡ None → read_level d (level ++ more) ≡ Err Level
unfolding read_level
level_unread d level [] lacking ends reads = rw (append-nil level, cut_whole (codes ",") level lacking, reads) refl
level_unread d level (b ∷ bs) lacking ends reads = rw (ends, cut_at (codes ",") level 44 bs lacking refl, reads) refl

-- how one field is read, up to what ends it
field_then : (patterns : Bool) (field : List ℕ) (stop : ℕ) (rest : List ℕ) → IsFieldText field → is_among (codes ",}") stop ≡ true →
    read_fields patterns [] (field ++ stop ∷ rest) ≡ field_ends patterns (Some field) stop rest (read_fields patterns [] rest)
field_then patterns [] stop rest part among = absurd part
field_then patterns (b ∷ bs) stop rest part among =
    fields_cut patterns [] ((b ∷ bs) ++ stop ∷ rest) ∙ rw (cut_at (codes ",}") (b ∷ bs) stop rest part among) refl

-- how all fields are read
fields_read : (patterns : Bool) (earlier : List (List ℕ)) (last behind : List ℕ) → AllByRecursion IsFieldText earlier → IsFieldText last →
    read_fields patterns [] (fields_with_commas earlier ++ (last ++ 125 ∷ behind)) ≡ Ok (map (field_of patterns) (earlier ++ last ∷ []), behind)
fields_read patterns [] last behind parts part = field_then patterns last 125 behind part refl
fields_read patterns (f ∷ fs) last behind parts part =
    ap (read_fields patterns []) (append_assoc (f ++ codes ",") (fields_with_commas fs) (last ++ 125 ∷ behind) ∙ append_assoc f (codes ",") (fields_with_commas fs ++ (last ++ 125 ∷ behind)))
    ∙ field_then patterns f 44 (fields_with_commas fs ++ (last ++ 125 ∷ behind)) parts.0 refl
    ∙ ap (more_fields (field_of patterns f)) (fields_read patterns fs last behind parts.1 part)

fields_empty : (patterns : Bool) (earlier : List (List ℕ)) (stop : ℕ) (more : List ℕ) → AllByRecursion IsFieldText earlier → is_among (codes ",}") stop ≡ true →
    read_fields patterns [] (fields_with_commas earlier ++ stop ∷ more) ≡ Err Field
fields_empty patterns [] stop more parts among = fields_cut patterns [] (stop ∷ more) ∙ rw (cut_at (codes ",}") [] stop more refl among) refl
fields_empty patterns (f ∷ fs) stop more parts among =
    ap (read_fields patterns []) (append_assoc (f ++ codes ",") (fields_with_commas fs) (stop ∷ more) ∙ append_assoc f (codes ",") (fields_with_commas fs ++ stop ∷ more))
    ∙ field_then patterns f 44 (fields_with_commas fs ++ stop ∷ more) parts.0 refl
    ∙ ap (more_fields (field_of patterns f)) (fields_empty patterns fs stop more parts.1 among)

-- how a head is read that a bracket follows
head_then : (patterns : Bool) (head rest : List ℕ) → begins_as_directive (head ++ 91 ∷ rest) ≡ true → IsHead head →
    read_directive patterns (head ++ 91 ∷ rest) ≡ read_bracket patterns (directive_of_target head TRACE) rest
unfolding read_directive
head_then patterns head rest start part = rw (start, cut_at (codes "=[,") head 91 rest part refl) refl

-- how a span's name is read that a bracket or a brace follows
span_then : (patterns : Bool) (d : Directive) (span rest : List ℕ) → IsSpanName span →
    read_bracket patterns d (span ++ 93 ∷ rest) ≡ read_level_if_any (record d { in_span = Some span }) rest
unfolding read_bracket
span_then patterns d span rest part = rw (cut_at (codes "]{") span 93 rest part refl) refl

brace_then : (patterns : Bool) (d : Directive) (span rest : List ℕ) → IsSpanName span →
    read_bracket patterns d (span ++ 123 ∷ rest) ≡ read_fielded (record d { in_span = unless_empty span }) (read_fields patterns [] rest)
unfolding read_bracket
brace_then patterns d span rest part = rw (cut_at (codes "]{") span 123 rest part refl) refl

-- how a bracket is read, with what follows it
spanned_then : (patterns : Bool) (head span rest : List ℕ) → begins_as_directive (head ++ 91 ∷ (span ++ 93 ∷ rest)) ≡ true → IsHead head → IsSpanName span →
    read_directive patterns (head ++ 91 ∷ (span ++ 93 ∷ rest)) ≡ read_level_if_any (directive_at patterns (spanned head span) TRACE) rest
spanned_then patterns head span rest start head_part span_part =
    head_then patterns head (span ++ 93 ∷ rest) start head_part ∙ span_then patterns (directive_of_target head TRACE) span rest span_part

opened_then : (patterns : Bool) (head span : List ℕ) (earlier : List (List ℕ)) (rest : List ℕ) → begins_as_directive (text_up_to_fields head span earlier rest) ≡ true → IsHead head → IsSpanName span →
    read_directive patterns (text_up_to_fields head span earlier rest)
    ≡ read_fielded (record (directive_of_target head TRACE) { in_span = unless_empty span }) (read_fields patterns [] (fields_with_commas earlier ++ rest))
opened_then patterns head span earlier rest start head_part span_part =
    head_then patterns head (span ++ 123 ∷ (fields_with_commas earlier ++ rest)) start head_part
    ∙ brace_then patterns (directive_of_target head TRACE) span (fields_with_commas earlier ++ rest) span_part

fielded_then : (patterns : Bool) (head span : List ℕ) (earlier : List (List ℕ)) (last rest : List ℕ) → begins_as_directive (text_up_to_fields head span earlier (last ++ 125 ∷ 93 ∷ rest)) ≡ true →
    IsOpened head span earlier → IsFieldText last →
    read_directive patterns (text_up_to_fields head span earlier (last ++ 125 ∷ 93 ∷ rest)) ≡ read_level_if_any (directive_at patterns (fielded head span earlier last) TRACE) rest
unfolding read_close
fielded_then patterns head span earlier last rest start parts part =
    opened_then patterns head span earlier (last ++ 125 ∷ 93 ∷ rest) start parts.0 parts.1
    ∙ ap (read_fielded (record (directive_of_target head TRACE) { in_span = unless_empty span })) (fields_read patterns earlier last (93 ∷ rest) parts.2 part)

-- how a front is read that `=` follows
front_then : (patterns : Bool) (front : Front) (rest : List ℕ) → begins_as_directive (front_text front ++ 61 ∷ rest) ≡ true → IsDirectiveFront front →
    read_directive patterns (front_text front ++ 61 ∷ rest) ≡ read_level (directive_at patterns front TRACE) rest
unfolding read_directive read_level_if_any
front_then patterns (bare head) rest start part = rw (start, cut_at (codes "=[,") head 61 rest part refl) refl
front_then patterns (spanned head span) rest start part =
    let same : front_text (spanned head span) ++ 61 ∷ rest ≡ head ++ 91 ∷ (span ++ 93 ∷ (61 ∷ rest)) = simp append_assoc refl in
    ap (read_directive patterns) same ∙ spanned_then patterns head span (61 ∷ rest) (subst (λ (t : List ℕ). begins_as_directive t ≡ true) same start) part.0 part.1
front_then patterns (fielded head span earlier last) rest start part =
    let same : front_text (fielded head span earlier last) ++ 61 ∷ rest ≡ text_up_to_fields head span earlier (last ++ 125 ∷ 93 ∷ (61 ∷ rest)) = simp append_assoc refl in
    ap (read_directive patterns) same ∙ fielded_then patterns head span earlier last (61 ∷ rest) (subst (λ (t : List ℕ). begins_as_directive t ≡ true) same start) part.0 part.1

-- how a front alone is read
front_alone : (patterns : Bool) (front : Front) → begins_as_directive (front_text front) ≡ true → IsDirectiveFront front → read_directive patterns (front_text front) ≡ Ok (directive_alone patterns front)
unfolding read_directive read_level_if_any
front_alone patterns (bare head) start part = rw (start, cut_whole (codes "=[,") head part) refl
front_alone patterns (spanned head span) start part = spanned_then patterns head span [] start part.0 part.1
front_alone patterns (fielded head span earlier last) start part = fielded_then patterns head span earlier last [] start part.0 part.1

head_ended : (patterns : Bool) (head : List ℕ) → begins_as_directive (head ++ codes ",") ≡ true → IsHead head → read_directive patterns (head ++ codes ",") ≡ Ok (head_alone head)
unfolding read_directive read_nothing_more
head_ended patterns head start part = rw (start, cut_at (codes "=[,") head 44 [] part refl) refl

pub at_front : (patterns : Bool) (front : Front) (level : LevelFilter) → at_level (directive_at patterns front TRACE) level ≡ directive_at patterns front level
at_front patterns (bare head) level = refl
at_front patterns (spanned head span) level = refl
at_front patterns (fielded head span earlier last) level = refl

-- each form is read as what it means
form_reads : (patterns : Bool) (form : DirectiveForm) (d : Directive) → begins_as_directive (form_text form) ≡ true → IsForm form → directive_of_form patterns form ≡ Some d →
    read_directive patterns (form_text form) ≡ Ok d
form_reads patterns (alone front) d start parts means = front_alone patterns front start parts ∙ cc
form_reads patterns (head_comma head) d start parts means = head_ended patterns head start parts ∙ cc
form_reads patterns (leveled front level) d start parts means = by_level (level_behind level) refl means
  where
    by_level : (found : Option LevelFilter) → level_behind level ≡ found → option_map (directive_at patterns front) found ≡ Some d →
        read_directive patterns (form_text (leveled front level)) ≡ Ok d
    by_level None e means = absurd (cc)
    by_level (Some found) e means =
        front_then patterns front level start parts.0 ∙ level_whole (directive_at patterns front TRACE) level found parts.1 e
        ∙ ap Ok (at_front patterns front found) ∙ cc
form_reads patterns (leveled_comma front level) d start parts means = by_level (level_behind level) refl means
  where
    by_level : (found : Option LevelFilter) → level_behind level ≡ found → option_map (directive_at patterns front) found ≡ Some d →
        read_directive patterns (form_text (leveled_comma front level)) ≡ Ok d
    by_level None e means = absurd (cc)
    by_level (Some found) e means =
        front_then patterns front (level ++ codes ",") start parts.0 ∙ level_ended (directive_at patterns front TRACE) level found parts.1 e
        ∙ ap Ok (at_front patterns front found) ∙ cc

pub directive_reads : (patterns : Bool) (text : List ℕ) (d : Directive) → HasForm patterns text d → read_directive patterns text ≡ Ok d
directive_reads patterns text d is =
    ap (read_directive patterns) is.whole ∙ form_reads patterns is.form d (subst (λ (t : List ℕ). begins_as_directive t ≡ true) is.whole is.start) is.parts is.means

-- and each fault is told
pub level_told : (patterns : Bool) (text : List ℕ) → HasBadLevel text → read_directive patterns text ≡ Err Level
level_told patterns text has =
    ap (read_directive patterns) has.whole
    ∙ front_then patterns has.front (has.level ++ has.more) (subst (λ (t : List ℕ). begins_as_directive t ≡ true) has.whole has.start) has.parts
    ∙ level_unread (directive_at patterns has.front TRACE) has.level has.more has.level_text has.ends has.unread

pub field_told : (patterns : Bool) (text : List ℕ) → HasEmptyField text → read_directive patterns text ≡ Err Field
field_told patterns text has =
    ap (read_directive patterns) has.whole
    ∙ opened_then patterns has.head has.span has.earlier (has.stop ∷ has.more) (subst (λ (t : List ℕ). begins_as_directive t ≡ true) has.whole has.start) has.parts.0 has.parts.1
    ∙ ap (read_fielded (record (directive_of_target has.head TRACE) { in_span = unless_empty has.span })) (fields_empty patterns has.earlier has.stop has.more has.parts.2 has.stops)
