-- A text in force is read piece by piece as the grammar of forms has it.
use Rattle.std.specs.Str.{trim}
use Rattle.env_directives.specs.reading.Faults.{HasEmptyField, HasFault, HasBadLevel}
use Rattle.env_directives.specs.reading.Forms.{IsDirective}
use Rattle.env_directives.specs.reading.Reading.{DirectiveRead, read_directive}
use Rattle.env_directives.specs.reading.Separators.{comma_pieces}
use Rattle.env_directives.specs.declared.directive.ParseError.{ParseError}
use Rattle.env_directives.specs.declared.directive.ParseError.TheVariants as fault
use Rattle.span_laws.proofs.Common.{Directive, Err, List, Ok, TextRead, [], ap, false, refl, subst, sym, text_read, ℕ, ◌++◌, ◌+◌, ◌↔◌, ◌∙◌, ◌∷◌, ◌≡◌}
use Rattle.env_directives.proofs.forms.FaultsLemmas.{Explained}
use Rattle.env_directives.proofs.forms.ReadingsLemmas.{fault_is, reading_explained}
use Rattle.env_filter.specs.declared.pieces.Ignored.{Ignored}
use Rattle.env_filter.specs.texts.Pieces.{IsFirstFault, ReadsPiece, ReadsAll, ReadsText, is_memory}
use Rattle.span_script.proofs.filter.TextsLemmas.{all_read, all_refused}

-- a text has the fault that it is read with
faulty : (text : List ℕ) (cause : ParseError) → ◌≡◌ {A = DirectiveRead} (read_directive false text) (Err cause) → HasFault false text cause × (is_memory cause ≡ false)
faulty text fault.Shape is = (fault_is false text (Err fault.Shape) is, refl)
faulty text fault.Level is = (fault_is false text (Err fault.Level) is, refl)
faulty text fault.Field is = (fault_is false text (Err fault.Field) is, refl)
faulty text fault.Pattern is = absurd (subst (Explained (IsDirective false text) (HasBadLevel text) (HasEmptyField text)) is (reading_explained false text))
faulty text fault.Equals is = (fault_is false text (Err fault.Equals) is, refl)
faulty text (fault.Fields many) is = (fault_is false text (Err (fault.Fields many)) is, refl)
faulty text fault.Memory is = absurd (subst (Explained (IsDirective false text) (HasBadLevel text) (HasEmptyField text)) is (reading_explained false text))

-- each piece is read as something
piece_read : (n : ℕ) (piece : List ℕ) → (ds : List Directive) × (is : List Ignored) × ReadsPiece false n piece ds is
piece_read n [] = ([], [], tt)
piece_read n (b ∷ bs) = by_read (read_directive false (trim (b ∷ bs))) refl
  where
    by_read : (r : DirectiveRead) → read_directive false (trim (b ∷ bs)) ≡ r → (ds : List Directive) × (is : List Ignored) × ReadsPiece false n (b ∷ bs) ds is
    by_read (Ok d) is = (d ∷ [], [], subst (Explained (IsDirective false (trim (b ∷ bs))) (HasBadLevel (trim (b ∷ bs))) (HasEmptyField (trim (b ∷ bs)))) is (reading_explained false (trim (b ∷ bs))))
    by_read (Err cause) is =
        let has = faulty (trim (b ∷ bs)) cause is in
        ([], record { piece = n; text = b ∷ bs; fault = cause } ∷ [], record { numbered = refl; text = refl; fault = has.0; no_memory = has.1 })

-- and so are all pieces of a text
all_pieces : (n : ℕ) (pieces : List (List ℕ)) → (ds : List Directive) × (is : List Ignored) × ReadsAll false n pieces ds is
all_pieces n [] = ([], [], (refl, refl))
all_pieces n (piece ∷ pieces) =
    let one = piece_read n piece in
    let rest = all_pieces (n + 1) pieces in
    (one.0 ++ rest.0, one.1 ++ rest.1, record { directives = one.0; ignored = one.1; later = rest.0; later_ignored = rest.1; reads = one.2; behind = rest.2; all = refl; all_ignored = refl })

module _ (text : List ℕ) where
  read_by : (ds found : List Directive) (is : List Ignored) → ReadsText false text found is → text_read text ≡ Ok ds → ReadsText false text ds []
  read_by ds found [] reads read =
      let same : ◌≡◌ {A = TextRead} (Ok found) (Ok ds) = sym (all_read 1 (comma_pieces text) found reads) ∙ read in
      let alike : found ≡ ds = cc same in
      subst (λ (xs : List Directive). ReadsText false text xs []) alike reads
  read_by ds found (first ∷ others) reads read =
      let no : ◌≡◌ {A = TextRead} (Err first.piece) (Ok ds) = sym (all_refused 1 (comma_pieces text) found first others reads) ∙ read in absurd (cc no)

  refused_by : (piece : ℕ) (found : List Directive) (is : List Ignored) → ReadsText false text found is → text_read text ≡ Err piece → (cause : ParseError) × IsFirstFault false text piece cause
  refused_by piece found [] reads read =
      let no : ◌≡◌ {A = TextRead} (Ok found) (Err piece) = sym (all_read 1 (comma_pieces text) found reads) ∙ read in absurd (cc no)
  refused_by piece found (first ∷ others) reads read =
      let same : ◌≡◌ {A = TextRead} (Err piece) (Err first.piece) = sym read ∙ all_refused 1 (comma_pieces text) found first others reads in
      (first.fault, record { directives = found; first = first; others = others; reads = reads; numbered = cc same; told = refl })

  pub read_exactly : (ds : List Directive) → text_read text ≡ Ok ds ↔ ReadsText false text ds []
  read_exactly ds = (let all = all_pieces 1 (comma_pieces text) in (read_by ds all.0 all.1 all.2, all_read 1 (comma_pieces text) ds))

  first_refused : (piece : ℕ) → (cause : ParseError) × IsFirstFault false text piece cause → text_read text ≡ Err piece
  first_refused piece (cause, first) = all_refused 1 (comma_pieces text) first.directives first.first first.others first.reads ∙ ap Err (sym first.numbered)

  pub refused_exactly : (piece : ℕ) → text_read text ≡ Err piece ↔ ((cause : ParseError) × IsFirstFault false text piece cause)
  refused_exactly piece = (let all = all_pieces 1 (comma_pieces text) in (refused_by piece all.0 all.1 all.2, first_refused piece))
