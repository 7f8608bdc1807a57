-- What the texts of filters are read as. That this is what the forms of directives say, piece by piece, says `texts` of span_laws.
use Rattle.std.specs.Prelude.{◌≡◌, ℕ, ◌+◌, List, [], ◌∷◌, if◌then◌else◌, Bool, true, false, Option, None, Some, Result, Ok, Err, IfSome, option_map}
use Rattle.std.specs.Str.{trim}
use Rattle.env_directives.specs.reading.Reading.{DirectiveRead, read_directive}
use Rattle.env_directives.specs.reading.Separators.{comma_pieces}
use Rattle.env_directives.specs.orders.Table.{empty_table}
use Rattle.env_directives.specs.declared.env.directive.Directive.{Directive}
use Rattle.env_directives.specs.declared.directive.ParseError.{ParseError}
use Rattle.env_filter.specs.Filtering.{FilterState, IsNewFilter}
use Rattle.env_filter.specs.texts.Pieces.{is_memory}
use Rattle.span_script.specs.declared.open_error.OpenError.{OpenError}
use Rattle.span_script.specs.declared.open_error.OpenError.TheVariants as errors
use Rattle.env_filter.specs.Tables.{statics_of, dynamics_of, with_tables}

-- the directives of a text, or the number of its first piece that is none
abbrev pub TextRead : Type 0
TextRead = Result (List Directive) ℕ

-- what a piece of a number is read as, before what those behind it are
abbrev pub with_piece_read : ℕ → DirectiveRead → TextRead → TextRead
with_piece_read number (Err fault) behind = Err number
with_piece_read number (Ok d) (Err later) = Err later
with_piece_read number (Ok d) (Ok ds) = Ok (d ∷ ds)

-- an empty one is no directive, and no fault; values of texts are taken as they stand
abbrev pub with_piece : ℕ → List ℕ → TextRead → TextRead
with_piece number [] behind = behind
with_piece number (b ∷ bs) behind = with_piece_read number (read_directive false (trim (b ∷ bs))) behind

-- pieces, which are numbered on from a number
abbrev pub pieces_read : ℕ → List (List ℕ) → TextRead
pieces_read number [] = Ok []
pieces_read number (piece ∷ pieces) = with_piece number piece (pieces_read (number + 1) pieces)

-- a text is cut at commas
abbrev pub text_read : List ℕ → TextRead
text_read text = pieces_read 1 (comma_pieces text)

-- a filter of some directives, with no span and no level
abbrev pub new_filter_of : List Directive → FilterState
new_filter_of ds = with_tables false (statics_of ds) (dynamics_of ds)

-- the filter of a text, none but where all its pieces are directives
abbrev pub filter_of_read : TextRead → FilterState
filter_of_read (Ok ds) = new_filter_of ds
filter_of_read (Err number) = with_tables false empty_table empty_table

abbrev pub text_filter : List ℕ → FilterState
text_filter text = filter_of_read (text_read text)

-- nothing where the pieces of an opening's texts are directives, else whether it is the text for counting that has a piece
-- which is none, and the number of that piece
abbrev pub OpeningRead : Type 0
OpeningRead = Result (Unit {0}) (Bool × ℕ)

abbrev pub fault_in : Bool → TextRead → OpeningRead
fault_in counting (Ok ds) = Ok tt
fault_in counting (Err piece) = Err (counting, piece)

-- the text for counting, where there is one
abbrev pub counting_read : Option (List ℕ) → OpeningRead
counting_read None = Ok tt
counting_read (Some text) = fault_in true (text_read text)

-- the filter's text is read before the text for counting
abbrev pub first_fault : OpeningRead → OpeningRead → OpeningRead
first_fault (Ok none) later = later
first_fault (Err fault) later = Err fault

abbrev pub opening_read : List ℕ → Option (List ℕ) → OpeningRead
opening_read filter counting = first_fault (fault_in false (text_read filter)) (counting_read counting)

-- why a pipeline isn't opened
abbrev pub IsOpenError : OpeningRead → OpenError → Type 0
IsOpenError read errors.Memory = Unit {0}
IsOpenError read (errors.Directive counting piece) = read ≡ Err (counting, piece)

-- want of memory, or the number of a piece with a fault
abbrev pub open_error_by : Bool → ℕ → ParseError → OpenError
open_error_by counting piece fault = if is_memory fault then errors.Memory else errors.Directive counting piece

-- a filter is that of a text, whose pieces are all directives
pub record IsTextFilter (text : List ℕ) (f : FilterState) : Type 0 where
  pub directives : List Directive
  pub read : text_read text ≡ Ok directives
  pub is : f ≡ new_filter_of directives

-- what events are counted by is a new filter of the text for that, whose pieces are all directives
pub record IsCountingFilter (text : Option (List ℕ)) (f : Option FilterState) : Type 0 where
  pub read : counting_read text ≡ Ok tt
  pub is : f ≡ option_map text_filter text
  pub new : IfSome f IsNewFilter
