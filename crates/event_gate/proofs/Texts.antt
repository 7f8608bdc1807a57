-- What a text is read as by its grammar are its directives, and why it gives no filter.
use Rattle.std.proofs.Common.{◌≡◌, ℕ, ◌+◌, List, [], ◌∷◌, ◌++◌, Bool, false, Result, Ok, Err, refl, sym, ap, subst, ◌∙◌}
use Rattle.std.specs.Prelude.{flat_map}
use Rattle.std.specs.Result.{IsErrAnd}
use Rattle.std.specs.Str.{trim}
use Rattle.env_directives.specs.reading.Separators.{comma_pieces}
use Rattle.env_directives.specs.declared.directive.ParseError.{ParseError}
use Rattle.env_directives.specs.declared.directive.ParseError.TheVariants as fault
use Rattle.env_directives.specs.declared.env.directive.Directive.{Directive}
use Rattle.env_directives.proofs.forms.GrammarLemmas.{directive_reads}
use Rattle.env_filter.specs.declared.pieces.Ignored.{Ignored}
use Rattle.env_filter.specs.texts.Building.{filter_by, IsFilterOf, HasFilterFaultAt}
use Rattle.env_filter.specs.Filtering.{FilterWithRoom, plain_filter, IsNewFilter}
use Rattle.env_filter.specs.texts.Pieces.{ReadsPiece, ReadsAll, IsFirstFault}
use Rattle.env_filter.specs.texts.Printing.{fixed_builder}
use Rattle.event_gate.specs.declared.error.GateError.{GateError}
use Rattle.event_gate.specs.Rules.{directives_if_read, directives_in_piece, IsTextFilter, GivesGate}

-- one piece
one_read : (n : ℕ) (piece : List ℕ) (ds : List Directive) → ReadsPiece false n piece ds [] → ds ≡ directives_in_piece piece
one_read n [] [] r = refl
one_read n [] (d ∷ ds) r = absurd r
one_read n (b ∷ bs) [] r = absurd r
one_read n (b ∷ bs) (d ∷ []) r = sym (ap directives_if_read (directive_reads false (trim (b ∷ bs)) d r))
one_read n (b ∷ bs) (d ∷ c ∷ ds) r = absurd r

-- all pieces, of which none is faulty
all_read : (n : ℕ) (pieces : List (List ℕ)) (ds : List Directive) → ReadsAll false n pieces ds [] → ds ≡ flat_map directives_in_piece pieces
all_read n [] ds r = r.0
all_read n (piece ∷ pieces) ds r = by_ignored (λ behind. all_read (n + 1) pieces r.later behind) r.ignored r.later_ignored r.all_ignored r.reads r.behind
  where
    by_ignored : (ReadsAll false (n + 1) pieces r.later [] → r.later ≡ flat_map directives_in_piece pieces) → (is js : List Ignored) → [] ≡ is ++ js → ReadsPiece false n piece r.directives is → ReadsAll false (n + 1) pieces r.later js → ds ≡ directives_in_piece piece ++ flat_map directives_in_piece pieces
    by_ignored later [] [] e one behind = r.all ∙ (ap (λ (xs : List Directive). xs ++ r.later) (one_read n piece r.directives one) ∙ ap (λ (xs : List Directive). directives_in_piece piece ++ xs) (later behind))
    by_ignored later [] (j ∷ js) e one behind = absurd (cc e)
    by_ignored later (i ∷ is) js e one behind = absurd (cc e)

-- the filter that was made of a text
pub read_of : (text : List ℕ) (f : FilterWithRoom) → IsFilterOf fixed_builder text [] (plain_filter f) → IsNewFilter (plain_filter f) → IsTextFilter text f
read_of text f of new = record { is = of.is ∙ ap (λ (ds : List Directive). filter_by fixed_builder ds) (all_read 1 (comma_pieces text) of.directives of.reads); new = new }

-- each piece was read
pub told_by : (text : List ℕ) (f : FilterWithRoom) → IsFilterOf fixed_builder text [] (plain_filter f) → (ds : List Directive) × ReadsAll false 1 (comma_pieces text) ds []
told_by text f of = (of.directives, of.reads)

-- why a text gives none
pub first_fault : (patterns : Bool) (text : List ℕ) (number : ℕ) (f : ParseError) → ¬ (f ≡ fault.Memory) → HasFilterFaultAt patterns text number f → (g : ParseError) × IsFirstFault patterns text number g
first_fault patterns text number fault.Memory other refused = absurd (other refl)
first_fault patterns text number fault.Shape other refused = (fault.Shape, refused)
first_fault patterns text number fault.Level other refused = (fault.Level, refused)
first_fault patterns text number fault.Field other refused = (fault.Field, refused)
first_fault patterns text number fault.Pattern other refused = (fault.Pattern, refused)
first_fault patterns text number fault.Equals other refused = (fault.Equals, refused)
first_fault patterns text number (fault.Fields many) other refused = (fault.Fields many, refused)

-- what gives no filter is handed on as it is
pub handed_on : {A : Type 0} (text : List ℕ) (e : GateError) (r : Result A GateError) → IsErrAnd r (λ given. given ≡ e) → GivesGate {A = A} text (Err e) → GivesGate text r
handed_on text e (Ok x) is refused = absurd is
handed_on {A} text e (Err g) is refused = subst (λ (h : GateError). GivesGate {A = A} text (Err h)) (sym is) refused
