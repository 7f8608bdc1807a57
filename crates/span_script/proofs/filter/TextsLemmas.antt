-- What the texts of filters are read as, by their grammar.
use Rattle.std.proofs.Common.{◌≡◌, ℕ, ◌+◌, List, [], ◌∷◌, ◌++◌, Bool, true, false, Ok, Err, refl, sym, ap, subst, ◌∙◌}
use Rattle.std.specs.Str.{trim}
use Rattle.std.proofs.lemmas.Bool.{true≢false}
use Rattle.env_directives.specs.reading.Faults.{HasFault, HasBadLevel, HasEmptyField}
use Rattle.env_directives.specs.reading.Forms.{IsDirective}
use Rattle.env_directives.specs.reading.Reading.{DirectiveRead, read_directive}
use Rattle.env_directives.specs.reading.Separators.{comma_pieces}
use Rattle.env_directives.specs.declared.directive.ParseError.{ParseError}
use Rattle.env_directives.specs.declared.directive.ParseError.TheVariants as fault
use Rattle.span_script.proofs.Common.{Directive, FilterState, TextRead, with_piece_read, with_piece, pieces_read, text_read, fault_in, IsTextFilter, IsOpenError, open_error_by}
use Rattle.env_directives.proofs.forms.FaultsLemmas.{Explained}
use Rattle.env_directives.proofs.forms.GrammarLemmas.{directive_reads, level_told, field_told}
use Rattle.env_directives.proofs.forms.ReadingsLemmas.{reading_explained}
use Rattle.env_filter.specs.declared.pieces.Ignored.{Ignored}
use Rattle.env_filter.specs.texts.Building.{BuilderValue, default_builder, filter_by, IsFilterOf, HasFilterFaultAt}
use Rattle.env_filter.specs.texts.Pieces.{is_memory, ReadsPiece, ReadsAll, ReadsText, IsFirstFault}
use Rattle.span_script.specs.declared.open_error.OpenError.{OpenError}

-- a piece that is a directive, before those behind it
one_read : (n : ℕ) (piece : List ℕ) (ds : List Directive) → ReadsPiece false n piece ds [] → (later : List Directive) (rest : TextRead) → rest ≡ Ok later → with_piece n piece rest ≡ Ok (ds ++ later)
one_read n [] [] r later rest e = e
one_read n [] (d ∷ ds) r later rest e = absurd r
one_read n (b ∷ bs) [] r later rest e = absurd r
one_read n (b ∷ bs) (d ∷ []) r later rest e = ap (λ (x : DirectiveRead). with_piece_read n x rest) (directive_reads false (trim (b ∷ bs)) d r) ∙ ap (λ (x : TextRead). with_piece_read n (Ok d) x) e
one_read n (b ∷ bs) (d ∷ c ∷ ds) r later rest e = absurd r

one_passed : (n : ℕ) (piece : List ℕ) (ds : List Directive) → ReadsPiece false n piece ds [] → (k : ℕ) (rest : TextRead) → rest ≡ Err k → with_piece n piece rest ≡ Err k
one_passed n [] [] r k rest e = e
one_passed n [] (d ∷ ds) r k rest e = absurd r
one_passed n (b ∷ bs) [] r k rest e = absurd r
one_passed n (b ∷ bs) (d ∷ []) r k rest e = ap (λ (x : DirectiveRead). with_piece_read n x rest) (directive_reads false (trim (b ∷ bs)) d r) ∙ ap (λ (x : TextRead). with_piece_read n (Ok d) x) e
one_passed n (b ∷ bs) (d ∷ c ∷ ds) r k rest e = absurd r

-- a text with a fault isn't read
unread : (text : List ℕ) (cause : ParseError) → HasFault false text cause → is_memory cause ≡ false → (d : Directive) → read_directive false text ≡ Ok d → IsDirective false text d → ⊥
unread text fault.Shape h other d e is = h.0 d is
unread text fault.Level h other d e is = (let no : ◌≡◌ {A = DirectiveRead} (Ok d) (Err fault.Level) = sym e ∙ level_told false text h in cc no)
unread text fault.Field h other d e is = (let no : ◌≡◌ {A = DirectiveRead} (Ok d) (Err fault.Field) = sym e ∙ field_told false text h in cc no)
unread text fault.Pattern h other d e is = true≢false (sym h.0)
unread text fault.Equals h other d e is = h
unread text (fault.Fields many) h other d e is = h
unread text fault.Memory h other d e is = true≢false other

is_read : (text : List ℕ) (d : Directive) → read_directive false text ≡ Ok d → IsDirective false text d
is_read text d e = subst (λ (r : DirectiveRead). Explained (IsDirective false text) (HasBadLevel text) (HasEmptyField text) r) e (reading_explained false text)

one_faulty : (n : ℕ) (text : List ℕ) (cause : ParseError) → HasFault false text cause → is_memory cause ≡ false → (rest : TextRead) → with_piece_read n (read_directive false text) rest ≡ Err n
one_faulty n text cause h other rest = by_read (read_directive false text) refl
  where
    by_read : (r : DirectiveRead) → read_directive false text ≡ r → with_piece_read n r rest ≡ Err n
    by_read (Err e) is = refl
    by_read (Ok d) is = absurd (unread text cause h other d is (is_read text d is))

one_refused : (n : ℕ) (piece : List ℕ) (ds : List Directive) (i : Ignored) (is : List Ignored) → ReadsPiece false n piece ds (i ∷ is) → (rest : TextRead) → with_piece n piece rest ≡ Err i.piece
one_refused n [] [] i is r rest = absurd r
one_refused n [] (d ∷ ds) i is r rest = absurd r
one_refused n (b ∷ bs) [] i [] r rest = one_faulty n (trim (b ∷ bs)) i.fault r.fault r.no_memory rest ∙ ap Err (sym r.numbered)
one_refused n (b ∷ bs) [] i (j ∷ is) r rest = absurd r
one_refused n (b ∷ bs) (d ∷ []) i is r rest = absurd r
one_refused n (b ∷ bs) (d ∷ c ∷ ds) i is r rest = absurd r

-- all pieces
pub all_read : (n : ℕ) (pieces : List (List ℕ)) (ds : List Directive) → ReadsAll false n pieces ds [] → pieces_read n pieces ≡ Ok ds
all_read n [] ds r = ap Ok (sym r.0)
all_read n (piece ∷ pieces) ds r = by_ignored (λ behind. all_read (n + 1) pieces r.later behind) r.ignored r.later_ignored r.all_ignored r.reads r.behind
  where
    by_ignored : (ReadsAll false (n + 1) pieces r.later [] → pieces_read (n + 1) pieces ≡ Ok r.later) → (is js : List Ignored) → [] ≡ is ++ js → ReadsPiece false n piece r.directives is → ReadsAll false (n + 1) pieces r.later js → with_piece n piece (pieces_read (n + 1) pieces) ≡ Ok ds
    by_ignored later [] [] e one behind = one_read n piece r.directives one r.later _ (later behind) ∙ ap Ok (sym r.all)
    by_ignored later [] (j ∷ js) e one behind = absurd (cc e)
    by_ignored later (i ∷ is) js e one behind = absurd (cc e)

first_of : (i j : Ignored) (is js : List Ignored) → i ∷ is ≡ j ∷ js → i ≡ j
first_of i j is js e = cc e

pub all_refused : (n : ℕ) (pieces : List (List ℕ)) (ds : List Directive) (first : Ignored) (others : List Ignored) → ReadsAll false n pieces ds (first ∷ others) → pieces_read n pieces ≡ Err first.piece
all_refused n [] ds first others r = absurd (let no = r.1 in cc no)
all_refused n (piece ∷ pieces) ds first others r = by_ignored (λ behind. all_refused (n + 1) pieces r.later first others behind) r.ignored r.later_ignored r.all_ignored r.reads r.behind
  where
    by_ignored : (ReadsAll false (n + 1) pieces r.later (first ∷ others) → pieces_read (n + 1) pieces ≡ Err first.piece) → (is js : List Ignored) → first ∷ others ≡ is ++ js → ReadsPiece false n piece r.directives is → ReadsAll false (n + 1) pieces r.later js → with_piece n piece (pieces_read (n + 1) pieces) ≡ Err first.piece
    by_ignored later [] js e one behind = one_passed n piece r.directives one first.piece _ (later (subst (ReadsAll false (n + 1) pieces r.later) (sym e) behind))
    by_ignored later (i ∷ is) js e one behind = one_refused n piece r.directives i is one _ ∙ ap (λ (x : Ignored). Err x.piece) (sym (first_of first i others (is ++ js) e))

-- the filter of a text, and the piece at which it isn't read
pub read_filter_is : (d b : BuilderValue) (text : List ℕ) (f : FilterState) → d ≡ default_builder → b ≡ record d { patterns = false } → IsFilterOf b text [] f → IsTextFilter text f
read_filter_is d b text f begun set is =
    let off : b ≡ record default_builder { patterns = false } = set ∙ ap (λ (x : BuilderValue). record x { patterns = false }) begun in
    let reads : ReadsText false text is.directives [] = subst (λ (x : BuilderValue). ReadsText x.patterns text is.directives []) off is.reads in
    record { directives = is.directives; read = all_read 1 (comma_pieces text) is.directives reads; is = is.is ∙ ap (λ (x : BuilderValue). filter_by x is.directives) off }

at_first : (text : List ℕ) (number : ℕ) (cause : ParseError) → IsFirstFault false text number cause → text_read text ≡ Err number
at_first text number cause first = all_refused 1 (comma_pieces text) first.directives first.first first.others first.reads ∙ ap Err (sym first.numbered)

at_piece : (counting : Bool) (text : List ℕ) (number : ℕ) (cause : ParseError) → IsFirstFault false text number cause → fault_in counting (text_read text) ≡ Err (counting, number)
at_piece counting text number cause first = ap (fault_in counting) (at_first text number cause first)

unread_with : (counting : Bool) (text : List ℕ) (number : ℕ) (cause : ParseError) → HasFilterFaultAt false text number cause → IsOpenError (fault_in counting (text_read text)) (open_error_by counting number cause)
unread_with counting text number fault.Shape r = at_piece counting text number fault.Shape r
unread_with counting text number fault.Level r = at_piece counting text number fault.Level r
unread_with counting text number fault.Field r = at_piece counting text number fault.Field r
unread_with counting text number fault.Pattern r = at_piece counting text number fault.Pattern r
unread_with counting text number fault.Equals r = at_piece counting text number fault.Equals r
unread_with counting text number (fault.Fields many) r = at_piece counting text number (fault.Fields many) r
unread_with counting text number fault.Memory r = tt

pub unread_is : (counting : Bool) (d b : BuilderValue) (text : List ℕ) (number : ℕ) (cause : ParseError) (error : OpenError) → b ≡ record d { patterns = false } → error ≡ open_error_by counting number cause → HasFilterFaultAt b.patterns text number cause → IsOpenError (fault_in counting (text_read text)) error
unread_is counting d b text number cause error set is refused =
    subst (IsOpenError (fault_in counting (text_read text))) (sym is) (unread_with counting text number cause (subst (λ (x : BuilderValue). HasFilterFaultAt x.patterns text number cause) set refused))

-- ---- both texts of an opening

-- ---- the text for counting
