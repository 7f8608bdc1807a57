-- What a reader of filters tells of a text is what its pieces are read as.
use Rattle.std.proofs.Common.{◌≡◌, ℕ, ◌+◌, List, [], ◌∷◌, ◌++◌, Bool, false, Ok, Err, refl, sym, ap, subst}
use Rattle.std.specs.Prelude.{Option, ⊤}
use Rattle.std.proofs.lemmas.Bool.{true≢false}
use Rattle.env_directives.specs.reading.Separators.{comma_pieces}
use Rattle.env_directives.specs.declared.directive.ParseError.{ParseError}
use Rattle.env_directives.specs.declared.directive.ParseError.TheVariants as fault
use Rattle.env_directives.specs.declared.env.directive.Directive.{Directive}
use Rattle.env_filter.specs.declared.pieces.Ignored.{Ignored}
use Rattle.env_filter.specs.texts.Building.{BuilderValue, default_builder, filter_by}
use Rattle.env_filter.specs.texts.Pieces.{is_memory, ReadsPiece, ReadsAll, ReadsText, IsFirstFault}
use Rattle.span_script.specs.Admission.{TextRead, OpeningRead, text_read, fault_in, counting_read, first_fault, opening_read}
use Rattle.span_script.specs.declared.open_error.OpenError.TheVariants as errors
use Rattle.span_script.proofs.filter.TextsLemmas.{read_filter_is, unread_is}
use Rattle.trace_lines.specs.declared.told.Told.{Told}
use Rattle.trace_lines.specs.declared.told.Told.TheVariants as told
use Rattle.thread_lines.specs.declared.stop.ScriptStop.{ScriptStop}
use Rattle.thread_lines.specs.declared.stop.ScriptStop.TheVariants as stop
use Rattle.thread_lines.specs.Answers.{AnswersTest}
use Rattle.thread_lines.specs.Steps.{directives_tested}

-- the builder of filters without patterns
abbrev pub fixed : BuilderValue
fixed = record default_builder { patterns = false }

-- ---- a fault that is told isn't want of memory

one_told : (n : ℕ) (piece : List ℕ) (ds : List Directive) (i : Ignored) (is : List Ignored) → ReadsPiece false n piece ds (i ∷ is) → is_memory i.fault ≡ false
one_told n [] [] i is r = absurd r
one_told n [] (d ∷ ds) i is r = absurd r
one_told n (b ∷ bs) [] i [] r = r.no_memory
one_told n (b ∷ bs) [] i (j ∷ is) r = absurd r
one_told n (b ∷ bs) (d ∷ []) i is r = absurd r
one_told n (b ∷ bs) (d ∷ e ∷ ds) i is r = absurd r

first_of : (i j : Ignored) (is js : List Ignored) → i ∷ is ≡ j ∷ js → i ≡ j
first_of i j is js e = cc e

all_told : (n : ℕ) (pieces : List (List ℕ)) (ds : List Directive) (first : Ignored) (others : List Ignored) → ReadsAll false n pieces ds (first ∷ others) → is_memory first.fault ≡ false
all_told n [] ds first others r = absurd (let no = r.1 in cc no)
all_told n (piece ∷ pieces) ds first others r = by_ignored (λ behind. all_told (n + 1) pieces r.later first others behind) r.ignored r.later_ignored r.all_ignored r.reads r.behind
  where
    by_ignored : (ReadsAll false (n + 1) pieces r.later (first ∷ others) → is_memory first.fault ≡ false) → (is js : List Ignored) → first ∷ others ≡ is ++ js → ReadsPiece false n piece r.directives is → ReadsAll false (n + 1) pieces r.later js → is_memory first.fault ≡ false
    by_ignored later [] js e one behind = later (subst (ReadsAll false (n + 1) pieces r.later) (sym e) behind)
    by_ignored later (i ∷ is) js e one behind = subst (λ (x : Ignored). is_memory x.fault ≡ false) (sym (first_of first i others (is ++ js) e)) (one_told n piece r.directives i is one)

no_memory : (text : List ℕ) (piece : ℕ) (cause : ParseError) → IsFirstFault false text piece cause → is_memory cause ≡ false
no_memory text piece cause f = subst (λ (x : ParseError). is_memory x ≡ false) (sym f.told) (all_told 1 (comma_pieces text) f.directives f.first f.others f.reads)

-- ---- what is told

pub is_read : (counting : Bool) (text : List ℕ) (ds : List Directive) → ReadsText false text ds [] → directives_tested (fault_in counting (text_read text)) ≡ Ok tt
is_read counting text ds reads =
    let is = read_filter_is default_builder fixed text (filter_by fixed ds) refl refl (record { directives = ds; reads = reads; is = refl }) in
    ap (λ (x : TextRead). directives_tested (fault_in counting x)) is.read

unread_at : (counting : Bool) (text : List ℕ) (piece : ℕ) (cause : ParseError) → is_memory cause ≡ false → IsFirstFault false text piece cause → fault_in counting (text_read text) ≡ Err (counting, piece)
unread_at counting text piece fault.Shape told_no f = unread_is counting default_builder fixed text piece fault.Shape (errors.Directive counting piece) refl refl f
unread_at counting text piece fault.Level told_no f = unread_is counting default_builder fixed text piece fault.Level (errors.Directive counting piece) refl refl f
unread_at counting text piece fault.Field told_no f = unread_is counting default_builder fixed text piece fault.Field (errors.Directive counting piece) refl refl f
unread_at counting text piece fault.Pattern told_no f = unread_is counting default_builder fixed text piece fault.Pattern (errors.Directive counting piece) refl refl f
unread_at counting text piece fault.Equals told_no f = unread_is counting default_builder fixed text piece fault.Equals (errors.Directive counting piece) refl refl f
unread_at counting text piece (fault.Fields many) told_no f = unread_is counting default_builder fixed text piece (fault.Fields many) (errors.Directive counting piece) refl refl f
unread_at counting text piece fault.Memory told_no f = absurd (true≢false told_no)

pub is_unread : (counting : Bool) (text : List ℕ) (piece : ℕ) (cause : ParseError) → IsFirstFault false text piece cause → directives_tested (fault_in counting (text_read text)) ≡ Err (told.Directive counting piece)
is_unread counting text piece cause f = ap directives_tested (unread_at counting text piece cause (no_memory text piece cause f) f)

-- ---- both texts of settings

first_passed : (one other : OpeningRead) (u : ⊤) → directives_tested one ≡ Ok u → directives_tested (first_fault one other) ≡ directives_tested other
first_passed (Ok read) other u e = refl
first_passed (Err unread) other u e = absurd (cc e)

first_refused : (one other : OpeningRead) (w : Told) → directives_tested one ≡ Err w → directives_tested (first_fault one other) ≡ Err w
first_refused (Ok read) other w e = absurd (cc e)
first_refused (Err unread) other w e = e

-- where the filter's text passed, the text for counting decides
pub counting_decides : (filter : List ℕ) (counting : Option (List ℕ)) (u : ⊤) → directives_tested (fault_in false (text_read filter)) ≡ Ok u → directives_tested (opening_read filter counting) ≡ directives_tested (counting_read counting)
counting_decides filter counting u e = first_passed (fault_in false (text_read filter)) (counting_read counting) u e

-- what stops at the filter's text stops at both
pub filter_stops : (filter : List ℕ) (counting : Option (List ℕ)) (why : ScriptStop) → AnswersTest {A = ⊤} (λ u. u) (Err why) (directives_tested (fault_in false (text_read filter))) → AnswersTest {A = ⊤} (λ u. u) (Err why) (directives_tested (opening_read filter counting))
filter_stops filter counting (stop.Refused w) e = first_refused (fault_in false (text_read filter)) (counting_read counting) w e
filter_stops filter counting stop.Memory e = tt
