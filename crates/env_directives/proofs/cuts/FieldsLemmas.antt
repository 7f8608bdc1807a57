-- Fields that are read one cut after the other.
use Rattle.std.proofs.Common.{◌≡◌, ℕ, ◌<◌, Bool, true, false, true≢false, List, [], ◌∷◌, ◌++◌, length, Some, None, Option, Result, Ok, Err, refl, sym, ap, ◌∙◌, arith, subst, append-nil, append_assoc, codes, ◌==◌, IfSome}
use Rattle.env_directives.proofs.Common.{AllByRecursion, nat_tests, flat_map-append, pieces_at, is_among, lacks, fields_with_commas, unless_empty, IsFieldText, FieldsRead, field_ends, more_fields, read_fields, LeadsToRefusedPattern, AnswersRead, field_of, IsNoPatternField, MayFail, Match, Shape, Level, Field, Pattern, Equals, Fields, Memory, ParseError}
use Rattle.std.proofs.lemmas.List.{length-append}
use Rattle.env_directives.proofs.cuts.CutsLemmas.{cut_joined, cut_front, cut_stop, cut_off}

-- what follows from a cut
abbrev pub at_cut : Bool → List ℕ → Option ℕ → List ℕ → FieldsRead
at_cut patterns field None rest = Err Shape
at_cut patterns field (Some stop) rest = field_ends patterns (unless_empty field) stop rest (read_fields patterns [] rest)

pub fields_cut : (patterns : Bool) (begun text : List ℕ) →
    read_fields patterns begun text ≡ at_cut patterns (begun ++ (pieces_at (codes ",}") text).front) (pieces_at (codes ",}") text).stop (pieces_at (codes ",}") text).rest
unfolding read_fields
fields_cut patterns begun [] = refl
fields_cut patterns begun (b ∷ bs) = go (is_among (codes ",}") b) refl (fields_cut patterns (begun ++ b ∷ []) bs)
  where
    go : (c : Bool) → is_among (codes ",}") b ≡ c →
        read_fields patterns (begun ++ b ∷ []) bs ≡ at_cut patterns ((begun ++ b ∷ []) ++ (pieces_at (codes ",}") bs).front) (pieces_at (codes ",}") bs).stop (pieces_at (codes ",}") bs).rest →
        read_fields patterns begun (b ∷ bs) ≡ at_cut patterns (begun ++ (pieces_at (codes ",}") (b ∷ bs)).front) (pieces_at (codes ",}") (b ∷ bs)).stop (pieces_at (codes ",}") (b ∷ bs)).rest
    go true e later = rw (e, append-nil begun) refl
    go false e later = rw e (later ∙ ap (λ (f : List ℕ). at_cut patterns f (pieces_at (codes ",}") bs).stop (pieces_at (codes ",}") bs).rest) (append_assoc begun (b ∷ []) (pieces_at (codes ",}") bs).front))

-- some fields in front of those that are read
abbrev pub after_fields : List Match → FieldsRead → FieldsRead
after_fields fields (Ok read) = Ok (fields ++ read.0, read.1)
after_fields fields (Err e) = Err e

pub after_more : (fields : List Match) (field : Match) (read : FieldsRead) → after_fields fields (more_fields field read) ≡ after_fields (fields ++ field ∷ []) read
after_more fields field (Ok read) = ap (λ (fs : List Match). Ok (fs, read.1)) (sym (append_assoc fields (field ∷ []) read.0))
after_more fields field (Err e) = refl

-- One turn of a loop over the fields of a text: `fields` are read, and `text` is left of it, which is cut in pieces.
module _ (patterns : Bool) (whole text front rest : List ℕ) (fields : List Match)
    (same : read_fields patterns [] whole ≡ after_fields fields (read_fields patterns [] text))
    (is_front : front ≡ (pieces_at (codes ",}") text).front) (is_rest : rest ≡ (pieces_at (codes ",}") text).rest) where
  now_cut : (stop : Option ℕ) → stop ≡ (pieces_at (codes ",}") text).stop → read_fields patterns [] text ≡ at_cut patterns front stop rest
  now_cut stop is_stop = rw (is_front, is_stop, is_rest) (fields_cut patterns [] text)

  -- the text ends
  pub shape_left : None ≡ (pieces_at (codes ",}") text).stop → read_fields patterns [] whole ≡ Err Shape
  shape_left is_stop = same ∙ ap (after_fields fields) (now_cut None is_stop)

  at_empty : (f : List ℕ) (stop : ℕ) → true ≡ (length f == 0) → at_cut patterns f (Some stop) rest ≡ Err Field
  at_empty [] stop empty = refl
  at_empty (b ∷ bs) stop empty = absurd (true≢false (empty ∙ grind (arith, nat_tests)))

  -- a field is empty
  pub empty_left : (stop : ℕ) → Some stop ≡ (pieces_at (codes ",}") text).stop → true ≡ (length front == 0) → read_fields patterns [] whole ≡ Err Field
  empty_left stop is_stop empty = same ∙ ap (after_fields fields) (now_cut (Some stop) is_stop ∙ at_empty front stop empty)

  module _ (stop : ℕ) (is_stop : Some stop ≡ (pieces_at (codes ",}") text).stop) (some : false ≡ (length front == 0)) where
    joined : text ≡ front ++ stop ∷ rest
    joined = rw (is_front, is_rest) (subst (λ (o : Option ℕ). text ≡ (pieces_at (codes ",}") text).front ++ cut_off o (pieces_at (codes ",}") text).rest) (sym is_stop) (cut_joined (codes ",}") text))

    stops : is_among (codes ",}") stop ≡ true
    stops = subst (λ (o : Option ℕ). IfSome o (λ s. is_among (codes ",}") s ≡ true)) (sym is_stop) (cut_stop (codes ",}") text)

    part : IsFieldText front
    part = is_field front some (subst (λ (f : List ℕ). lacks (codes ",}") f ≡ true) (sym is_front) (cut_front (codes ",}") text))
      where
        is_field : (f : List ℕ) → false ≡ (length f == 0) → lacks (codes ",}") f ≡ true → IsFieldText f
        is_field [] some lacking = absurd (true≢false (sym some))
        is_field (b ∷ bs) some lacking = lacking

    at_some : (f : List ℕ) → false ≡ (length f == 0) → at_cut patterns f (Some stop) rest ≡ field_ends patterns (Some f) stop rest (read_fields patterns [] rest)
    at_some [] some = absurd (true≢false (sym some))
    at_some (b ∷ bs) some = refl

    -- it is left as it was cut, and shorter
    pub text_shorter : length rest < length text
    text_shorter = rw joined (simp (length-append) (omega arith))

    -- a value is no pattern
    pub text_left : (done : List (List ℕ)) → AllByRecursion IsFieldText done → whole ≡ fields_with_commas done ++ text → IsNoPatternField front → LeadsToRefusedPattern whole
    text_left done parts so value = record {
      earlier = done;
      field = front;
      stop = stop;
      more = rest;
      parts = parts;
      part = part;
      stops = stops;
      whole = so ∙ ap (λ (t : List ℕ). fields_with_commas done ++ t) joined;
      value = value;
    }

    -- the last field
    pub last_left : (field : Match) → field ≡ field_of patterns front → stop ≡ 125 → read_fields patterns [] whole ≡ Ok (fields ++ field ∷ [], rest)
    last_left field is_field brace =
        let ended : at_cut patterns front (Some stop) rest ≡ Ok (field ∷ [], rest) = at_some front some ∙ rw (brace, is_field) refl in
        same ∙ ap (after_fields fields) (now_cut (Some stop) is_stop ∙ ended)

    -- another field
    pub more_left : (field : Match) → field ≡ field_of patterns front → (stop ≡ 125 → ⊥) →
        read_fields patterns [] whole ≡ after_fields (fields ++ field ∷ []) (read_fields patterns [] rest)
    more_left field is_field other =
        let comma : (stop == 125) ≡ false = grind (arith, nat_tests) in
        let went_on : at_cut patterns front (Some stop) rest ≡ more_fields field (read_fields patterns [] rest) = at_some front some ∙ rw (comma, is_field) refl in
        same ∙ ap (after_fields fields) (now_cut (Some stop) is_stop ∙ went_on) ∙ after_more fields field (read_fields patterns [] rest)

    pub earlier_more : (stop ≡ 125 → ⊥) → (done : List (List ℕ)) × AllByRecursion IsFieldText done × (whole ≡ fields_with_commas done ++ text) →
        (done : List (List ℕ)) × AllByRecursion IsFieldText done × (whole ≡ fields_with_commas done ++ rest)
    earlier_more other (done, parts, so) = (done ++ front ∷ [], all_more done parts, so ∙ ap (λ (t : List ℕ). fields_with_commas done ++ t) joined ∙ with_comma stop stops other)
      where
        all_more : (fs : List (List ℕ)) → AllByRecursion IsFieldText fs → AllByRecursion IsFieldText (fs ++ front ∷ [])
        all_more [] all = (part, tt)
        all_more (f ∷ fs) all = (all.0, all_more fs all.1)

        with_comma : (s : ℕ) → is_among (codes ",}") s ≡ true → (s ≡ 125 → ⊥) → fields_with_commas done ++ (front ++ s ∷ rest) ≡ fields_with_commas (done ++ front ∷ []) ++ rest
        with_comma s among other =
            let is_comma : s ≡ 44 = grind (arith, nat_tests) in
            rw (flat_map-append (λ field. field ++ codes ",") done (front ∷ []), is_comma) (simp (append_assoc, append-nil) refl)

-- a field that can't be read
pub answers_fault : {X Y : Type 0} (view : X → Y) (patterns : Bool) (P Q : Type 0) (read : Result Y ParseError) (e : ParseError) →
    MayFail patterns P e → (P → Q) → AnswersRead view patterns Q (Err e) read
answers_fault view patterns P Q read Memory h go = tt
answers_fault view patterns P Q read Pattern h go = (h.0, go h.1)
answers_fault view patterns P Q read Shape h go = absurd h
answers_fault view patterns P Q read Level h go = absurd h
answers_fault view patterns P Q read Field h go = absurd h
answers_fault view patterns P Q read Equals h go = absurd h
answers_fault view patterns P Q read (Fields many) h go = absurd h
