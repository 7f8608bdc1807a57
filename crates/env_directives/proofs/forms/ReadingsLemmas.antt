-- What is read of a whole text has a form, and what is refused has the fault that is told.
use Rattle.std.proofs.Common.{◌≡◌, ℕ, Bool, true, false, List, [], ◌∷◌, ◌++◌, Some, None, Option, Result, Ok, Err, refl, sym, ap, ◌∙◌, arith, subst, append_assoc, append-nil, codes, ◌⊎◌, inl, inr, if◌then◌else◌, option_map, true≢false, ◌==◌, ◌≢◌, ◌↔◌, IfSome, IfOk, IfErr}
use Rattle.std.proofs.lemmas.Bool.{eqb-true}
use Rattle.env_directives.proofs.Common.{nat_tests, TRACE, pieces_at, is_among, HasBadLevel, HasEmptyField, HasRefusedPattern, HasFault, begins_as_directive, unless_empty, directive_of_target, Front, bare, spanned, fielded, alone, head_comma, leveled, leveled_comma, front_text, IsHead, IsSpanName, IsDirectiveFront, directive_at, directive_alone, head_alone, fields_with_commas, level_behind, HasForm, IsDirective, read_nothing_more, read_level, read_level_if_any, read_close, read_fields, read_fielded, read_span, read_bracket, read_head, read_directive, AnswersRead, HavePatterns, ParseError, Shape, Level, Field, Pattern, Equals, Fields, Memory, Directive, Match}
use Rattle.env_directives.proofs.cuts.CutsLemmas.{cut_joined, cut_front, cut_stop, cut_off}
use Rattle.env_directives.proofs.forms.FaultsLemmas.{Explained, explained_map, LevelRead, LevelUnread, level_explained, EndRead, EndUnread, end_explained, CloseRead, CloseUnread, close_explained, FieldsMade, FieldsEmpty, fields_explained}
use Rattle.env_directives.proofs.forms.GrammarLemmas.{at_front, directive_reads, level_told, field_told}
use Rattle.env_directives.proofs.forms.KeptPatternsLemmas.{is_directive}

-- a text that begins with a front and a level's text, or the front alone, is a directive's
leveled_is : (patterns : Bool) (front : Front) (text behind : List ℕ) (result : Directive) → begins_as_directive text ≡ true → IsDirectiveFront front →
    text ≡ front_text front ++ 61 ∷ behind → LevelRead (directive_at patterns front TRACE) behind result → HasForm patterns text result
leveled_is patterns front text behind result start part whole read = by_end read.whole
  where
    means : option_map (directive_at patterns front) (level_behind read.level) ≡ Some result
    means = rw (read.reads, read.means, at_front patterns front read.found) refl

    by_end : (behind ≡ read.level) ⊎ (behind ≡ read.level ++ codes ",") → HasForm patterns text result
    by_end (inl same) = record {
      start = start;
      form = leveled front read.level;
      parts = (part, read.part);
      whole = whole ∙ ap (λ (t : List ℕ). front_text front ++ 61 ∷ t) same;
      means = means;
    }
    by_end (inr same) = record {
      start = start;
      form = leveled_comma front read.level;
      parts = (part, read.part);
      whole = whole ∙ ap (λ (t : List ℕ). front_text front ++ 61 ∷ t) same;
      means = means;
    }

unread_is : (front : Front) (text behind : List ℕ) → begins_as_directive text ≡ true → IsDirectiveFront front → text ≡ front_text front ++ 61 ∷ behind → LevelUnread behind → HasBadLevel text
unread_is front text behind start part whole unread = record {
  start = start;
  front = front;
  level = unread.level;
  more = unread.more;
  parts = part;
  level_text = unread.part;
  ends = unread.ends;
  whole = whole ∙ ap (λ (t : List ℕ). front_text front ++ 61 ∷ t) unread.whole;
  unread = unread.unread;
}

ended_is : (patterns : Bool) (front : Front) (text behind : List ℕ) (result : Directive) → begins_as_directive text ≡ true → IsDirectiveFront front →
    directive_alone patterns front ≡ directive_at patterns front TRACE →
    text ≡ front_text front ++ behind → EndRead (directive_at patterns front TRACE) behind result → HasForm patterns text result
ended_is patterns front text behind result start part is_alone whole (inl (nothing, means)) = record {
  start = start;
  form = alone front;
  parts = part;
  whole = whole ∙ ap (λ (t : List ℕ). front_text front ++ t) nothing ∙ append-nil (front_text front);
  means = ap Some (is_alone ∙ sym means);
}
ended_is patterns front text behind result start part is_alone whole (inr (level, more, read)) =
    leveled_is patterns front text level result start part (whole ∙ ap (λ (t : List ℕ). front_text front ++ t) more) read

end_unread_is : (front : Front) (text behind : List ℕ) → begins_as_directive text ≡ true → IsDirectiveFront front → text ≡ front_text front ++ behind → EndUnread behind → HasBadLevel text
end_unread_is front text behind start part whole (level, more, unread) =
    unread_is front text level start part (whole ∙ ap (λ (t : List ℕ). front_text front ++ t) more) unread

-- what stands behind an opening bracket
pub bracket_explained : (patterns : Bool) (text head behind : List ℕ) → begins_as_directive text ≡ true → IsHead head → text ≡ head ++ 91 ∷ behind →
    Explained (HasForm patterns text) (HasBadLevel text) (HasEmptyField text) (read_bracket patterns (directive_of_target head TRACE) behind)
unfolding read_bracket
bracket_explained patterns text head behind start head_part joined =
    by_pieces (pieces_at (codes "]{") behind).front (pieces_at (codes "]{") behind).stop (pieces_at (codes "]{") behind).rest
    (cut_front (codes "]{") behind) (cut_stop (codes "]{") behind) (cut_joined (codes "]{") behind)
  where
    by_close : (span rest : List ℕ) → IsSpanName span → text ≡ head ++ 91 ∷ (span ++ 123 ∷ rest) → (read : List Match × List ℕ) → FieldsMade patterns rest read →
        Explained (HasForm patterns text) (HasBadLevel text) (HasEmptyField text) (read_close (record (directive_of_target head TRACE) { in_span = unless_empty span; fields = read.0 }) read.1)
    by_close span rest part joined read made =
        let d = record (directive_of_target head TRACE) { in_span = unless_empty span; fields = read.0 } in
        let front = fielded head span made.earlier made.last in
        let is_front : IsDirectiveFront front = ((head_part, part, made.parts), made.part) in
        let same : directive_at patterns front TRACE ≡ d = ap (λ (fs : List Match). record (directive_of_target head TRACE) { in_span = unless_empty span; fields = fs }) (sym made.made) in
        let so : (behind : List ℕ) → read.1 ≡ 93 ∷ behind → text ≡ front_text front ++ behind =
        λ behind more. joined ∙ ap (λ (t : List ℕ). head ++ 91 ∷ (span ++ 123 ∷ t)) (made.whole ∙ ap (λ (t : List ℕ). fields_with_commas made.earlier ++ (made.last ++ 125 ∷ t)) more) ∙ simp append_assoc refl in
        explained_map (CloseRead d read.1) (HasForm patterns text) (CloseUnread read.1) (HasBadLevel text) ⊥ (HasEmptyField text) (read_close d read.1) (close_explained d read.1)
        (λ y closed. ended_is patterns front text closed.0 y start is_front refl (so closed.0 closed.1) (subst (λ (e : Directive). EndRead e closed.0 y) (sym same) closed.2))
        (λ unread. end_unread_is front text unread.0 start is_front (so unread.0 unread.1) unread.2) (λ none. absurd none)

    by_fields : (span rest : List ℕ) → IsSpanName span → text ≡ head ++ 91 ∷ (span ++ 123 ∷ rest) → (r : Result (List Match × List ℕ) ParseError) → Explained (FieldsMade patterns rest) ⊥ (FieldsEmpty rest) r →
        Explained (HasForm patterns text) (HasBadLevel text) (HasEmptyField text) (read_fielded (record (directive_of_target head TRACE) { in_span = unless_empty span }) r)
    by_fields span rest part joined (Ok read) made = by_close span rest part joined read made
    by_fields span rest part joined (Err Shape) h = tt
    by_fields span rest part joined (Err Field) h = record {
      start = start;
      head = head;
      span = span;
      earlier = h.earlier;
      stop = h.stop;
      more = h.more;
      parts = (head_part, part, h.parts);
      stops = h.stops;
      whole = joined ∙ ap (λ (t : List ℕ). head ++ 91 ∷ (span ++ 123 ∷ t)) h.whole;
    }
    by_fields span rest part joined (Err Level) h = absurd h
    by_fields span rest part joined (Err Pattern) h = absurd h
    by_fields span rest part joined (Err Equals) h = absurd h
    by_fields span rest part joined (Err (Fields many)) h = absurd h
    by_fields span rest part joined (Err Memory) h = absurd h

    by_stop : (span : List ℕ) (s : ℕ) (rest : List ℕ) → IsSpanName span → is_among (codes "]{") s ≡ true → behind ≡ span ++ s ∷ rest → (c : Bool) → (s == 93) ≡ c →
        Explained (HasForm patterns text) (HasBadLevel text) (HasEmptyField text)
        (if c then read_level_if_any (record (directive_of_target head TRACE) { in_span = Some span }) rest else read_fielded (record (directive_of_target head TRACE) { in_span = unless_empty span }) (read_fields patterns [] rest))
    by_stop span s rest part among cut_so true e =
        let d = record (directive_of_target head TRACE) { in_span = Some span } in
        let front = spanned head span in
        let so : text ≡ front_text front ++ rest =
        joined ∙ ap (λ (t : List ℕ). head ++ 91 ∷ t) (cut_so ∙ ap (λ (x : ℕ). span ++ x ∷ rest) (eqb-true s 93 e)) ∙ simp append_assoc refl in
        explained_map (EndRead d rest) (HasForm patterns text) (EndUnread rest) (HasBadLevel text) ⊥ (HasEmptyField text) (read_level_if_any d rest) (end_explained d rest)
        (λ y ended. ended_is patterns front text rest y start (head_part, part) refl so ended) (λ unread. end_unread_is front text rest start (head_part, part) so unread) (λ none. absurd none)
    by_stop span s rest part among cut_so false e =
        let brace : s ≡ 123 = grind (arith, nat_tests) in
        by_fields span rest part (joined ∙ ap (λ (t : List ℕ). head ++ 91 ∷ t) (cut_so ∙ ap (λ (x : ℕ). span ++ x ∷ rest) brace)) (read_fields patterns [] rest) (fields_explained patterns [] rest refl)

    by_pieces : (span : List ℕ) (stop : Option ℕ) (rest : List ℕ) → IsSpanName span → IfSome stop (λ s. is_among (codes "]{") s ≡ true) → behind ≡ span ++ cut_off stop rest →
        Explained (HasForm patterns text) (HasBadLevel text) (HasEmptyField text) (read_span patterns (directive_of_target head TRACE) span stop rest)
    by_pieces span None rest part among cut_so = tt
    by_pieces span (Some s) rest part among cut_so = by_stop span s rest part among cut_so (s == 93) refl

-- what a whole text is read as
pub reading_explained : (patterns : Bool) (text : List ℕ) → Explained (HasForm patterns text) (HasBadLevel text) (HasEmptyField text) (read_directive patterns text)
unfolding read_directive read_nothing_more
reading_explained patterns text = by_start (begins_as_directive text) refl
  where
    by_comma : (head rest : List ℕ) → begins_as_directive text ≡ true → IsHead head → text ≡ head ++ 44 ∷ rest →
        Explained (HasForm patterns text) (HasBadLevel text) (HasEmptyField text) (read_nothing_more (head_alone head) rest)
    by_comma head [] start part joined = record { start = start; form = head_comma head; parts = part; whole = joined; means = refl }
    by_comma head (b ∷ bs) start part joined = tt

    by_stop : (head : List ℕ) (s : ℕ) (rest : List ℕ) → begins_as_directive text ≡ true → IsHead head → is_among (codes "=[,") s ≡ true → text ≡ head ++ s ∷ rest → (c e : Bool) → (s == 44) ≡ c → (s == 61) ≡ e →
        Explained (HasForm patterns text) (HasBadLevel text) (HasEmptyField text)
        (if c then read_nothing_more (head_alone head) rest else if e then read_level (directive_of_target head TRACE) rest else read_bracket patterns (directive_of_target head TRACE) rest)
    by_stop head s rest start part among joined true e is_comma is_level =
        by_comma head rest start part (joined ∙ ap (λ (x : ℕ). head ++ x ∷ rest) (eqb-true s 44 is_comma))
    by_stop head s rest start part among joined false true is_comma is_level =
        let so : text ≡ head ++ 61 ∷ rest = joined ∙ ap (λ (x : ℕ). head ++ x ∷ rest) (eqb-true s 61 is_level) in
        explained_map (LevelRead (directive_of_target head TRACE) rest) (HasForm patterns text) (LevelUnread rest) (HasBadLevel text) ⊥ (HasEmptyField text) (read_level (directive_of_target head TRACE) rest)
        (level_explained (directive_of_target head TRACE) rest)
        (λ y read. leveled_is patterns (bare head) text rest y start part so read) (λ unread. unread_is (bare head) text rest start part so unread) (λ none. absurd none)
    by_stop head s rest start part among joined false false is_comma is_level =
        let bracket : s ≡ 91 = grind (arith, nat_tests) in
        bracket_explained patterns text head rest start part (joined ∙ ap (λ (x : ℕ). head ++ x ∷ rest) bracket)

    by_pieces : (head : List ℕ) (stop : Option ℕ) (rest : List ℕ) → begins_as_directive text ≡ true → IsHead head → IfSome stop (λ s. is_among (codes "=[,") s ≡ true) → text ≡ head ++ cut_off stop rest →
        Explained (HasForm patterns text) (HasBadLevel text) (HasEmptyField text) (read_head patterns head stop rest)
    by_pieces head None rest start part among joined = record { start = start; form = alone (bare head); parts = part; whole = joined ∙ append-nil head; means = refl }
    by_pieces head (Some s) rest start part among joined = by_stop head s rest start part among joined (s == 44) (s == 61) refl refl

    by_start : (c : Bool) → begins_as_directive text ≡ c →
        Explained (HasForm patterns text) (HasBadLevel text) (HasEmptyField text)
        (if c then read_head patterns (pieces_at (codes "=[,") text).front (pieces_at (codes "=[,") text).stop (pieces_at (codes "=[,") text).rest else Err Shape)
    by_start true start =
        by_pieces (pieces_at (codes "=[,") text).front (pieces_at (codes "=[,") text).stop (pieces_at (codes "=[,") text).rest start
        (cut_front (codes "=[,") text) (cut_stop (codes "=[,") text) (cut_joined (codes "=[,") text)
    by_start false start = tt

-- what is answered is a directive of the text
pub answer_is : (patterns : Bool) (text : List ℕ) (r : Result Directive ParseError) → AnswersRead (λ d. d) patterns (HasRefusedPattern text) r (read_directive patterns text) →
    IfOk r (λ d. HavePatterns d.fields) → IfOk r (IsDirective patterns text)
answer_is patterns text (Ok d) h have =
    is_directive patterns text d have (subst (Explained (HasForm patterns text) (HasBadLevel text) (HasEmptyField text)) h (reading_explained patterns text))
answer_is patterns text (Err e) h have = tt

-- or a fault of it
pub fault_is : (patterns : Bool) (text : List ℕ) (r : Result Directive ParseError) → AnswersRead (λ d. d) patterns (HasRefusedPattern text) r (read_directive patterns text) →
    IfErr r (HasFault patterns text)
fault_is patterns text (Ok d) h = tt
fault_is patterns text (Err Memory) h = tt
fault_is patterns text (Err Pattern) h = h
fault_is patterns text (Err Shape) h = (
  λ d is. (let no : Ok d ≡ Err Shape = sym (directive_reads patterns text d is) ∙ h in cc),
  λ has. (let no : Err Level ≡ Err Shape = sym (level_told patterns text has) ∙ h in cc),
  λ has. (let no : Err Field ≡ Err Shape = sym (field_told patterns text has) ∙ h in cc),
)
fault_is patterns text (Err Level) h = subst (Explained (HasForm patterns text) (HasBadLevel text) (HasEmptyField text)) h (reading_explained patterns text)
fault_is patterns text (Err Field) h = subst (Explained (HasForm patterns text) (HasBadLevel text) (HasEmptyField text)) h (reading_explained patterns text)
fault_is patterns text (Err Equals) h = subst (Explained (HasForm patterns text) (HasBadLevel text) (HasEmptyField text)) h (reading_explained patterns text)
fault_is patterns text (Err (Fields many)) h = subst (Explained (HasForm patterns text) (HasBadLevel text) (HasEmptyField text)) h (reading_explained patterns text)

-- Without patterns a text is read as a directive exactly where it is one,
pub read_exactly : (text : List ℕ) (d : Directive) → read_directive false text ≡ Ok d ↔ IsDirective false text d
read_exactly text d =
    (λ e. subst (Explained (HasForm false text) (HasBadLevel text) (HasEmptyField text)) e (reading_explained false text), directive_reads false text d)

-- and as a fault exactly where it has that one.
pub refused_exactly : (text : List ℕ) (fault : ParseError) → fault ≢ Memory → read_directive false text ≡ Err fault ↔ HasFault false text fault
refused_exactly text Shape no_memory = (fault_is false text (Err Shape), λ none. by_read (read_directive false text) refl (reading_explained false text) none)
  where
    by_read : (r : Result Directive ParseError) → read_directive false text ≡ r → Explained (HasForm false text) (HasBadLevel text) (HasEmptyField text) r → HasFault false text Shape
        → read_directive false text ≡ Err Shape
    by_read (Ok d) e h none = absurd (none.0 d h)
    by_read (Err Shape) e h none = e
    by_read (Err Level) e h none = absurd (none.1 h)
    by_read (Err Field) e h none = absurd (none.2 h)
    by_read (Err Pattern) e h none = absurd h
    by_read (Err Equals) e h none = absurd h
    by_read (Err (Fields many)) e h none = absurd h
    by_read (Err Memory) e h none = absurd h
refused_exactly text Level no_memory = (fault_is false text (Err Level), level_told false text)
refused_exactly text Field no_memory = (fault_is false text (Err Field), field_told false text)
refused_exactly text Pattern no_memory = (
  λ e. absurd (subst (Explained (HasForm false text) (HasBadLevel text) (HasEmptyField text)) e (reading_explained false text)),
  λ has. absurd (true≢false (sym has.0)),
)
refused_exactly text Equals no_memory = (fault_is false text (Err Equals), λ has. absurd has)
refused_exactly text (Fields many) no_memory = (fault_is false text (Err (Fields many)), λ has. absurd has)
refused_exactly text Memory no_memory = absurd (no_memory refl)
