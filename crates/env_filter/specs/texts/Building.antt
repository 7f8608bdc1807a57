-- What a builder is set to, and which filter it makes of a text.
use Rattle.std.specs.Prelude.{◌≡◌, ℕ, Bool, true, List, [], Option, None, Some, codes}
use Rattle.trace_base.specs.declared.level.LevelFilter.TheVariants.{ERROR}
use Rattle.env_directives.specs.reading.Forms.{directive_of_target}
use Rattle.env_directives.specs.declared.directive.ParseError.{ParseError}
use Rattle.env_directives.specs.declared.directive.ParseError.TheVariants.{Shape, Level, Field, Pattern, Equals, Fields, Memory}
use Rattle.env_directives.specs.declared.env.directive.Directive.{Directive}
use Rattle.env_filter.specs.declared.pieces.Ignored.{Ignored}
use Rattle.env_filter.specs.Filtering.{FilterState}
use Rattle.env_filter.specs.texts.Pieces.{ReadsText, IsFirstFault}
use Rattle.env_filter.specs.Tables.{filter_of}

-- whether patterns are taken, the directive of a filter that would have none, and the name of the variable to read
pub record BuilderValue : Type 0 where
  pub patterns : Bool
  pub default : Option Directive
  pub variable : List ℕ

abbrev pub default_builder : BuilderValue
default_builder = record { patterns = true; default = None; variable = codes "RUST_LOG" }

-- errors alone, for filters that would have no directive
abbrev pub errors_builder : BuilderValue
errors_builder = record default_builder { default = Some (directive_of_target [] ERROR) }

-- a builder that reads another variable
abbrev pub with_variable : BuilderValue → List ℕ → BuilderValue
with_variable b name = record b { variable = name }

-- the filter that it makes of some directives
abbrev pub filter_by : BuilderValue → List Directive → FilterState
filter_by b ds = filter_of b.patterns b.default ds

-- a filter is that of the directives of a text, of which some pieces are left out
pub record IsFilterOf (b : BuilderValue) (text : List ℕ) (ignored : List Ignored) (f : FilterState) : Type 0 where
  pub directives : List Directive
  pub reads : ReadsText b.patterns text directives ignored
  pub is : f ≡ filter_by b directives

-- whichever those are
pub record IsSomeFilterOf (b : BuilderValue) (text : List ℕ) (f : FilterState) : Type 0 where
  pub ignored : List Ignored
  pub is : IsFilterOf b text ignored f

-- why a text gives no filter: the first fault of its pieces, or want of memory
abbrev pub HasFilterFault : Bool → List ℕ → ParseError → Type 0
HasFilterFault patterns text Memory = Unit {0}
HasFilterFault patterns text Shape = (number : ℕ) × IsFirstFault patterns text number Shape
HasFilterFault patterns text Level = (number : ℕ) × IsFirstFault patterns text number Level
HasFilterFault patterns text Field = (number : ℕ) × IsFirstFault patterns text number Field
HasFilterFault patterns text Pattern = (number : ℕ) × IsFirstFault patterns text number Pattern
HasFilterFault patterns text Equals = (number : ℕ) × IsFirstFault patterns text number Equals
HasFilterFault patterns text (Fields many) = (number : ℕ) × IsFirstFault patterns text number (Fields many)

-- the same with the piece's number, 0 for want of memory
abbrev pub HasFilterFaultAt : Bool → List ℕ → ℕ → ParseError → Type 0
HasFilterFaultAt patterns text number Memory = number ≡ 0
HasFilterFaultAt patterns text number Shape = IsFirstFault patterns text number Shape
HasFilterFaultAt patterns text number Level = IsFirstFault patterns text number Level
HasFilterFaultAt patterns text number Field = IsFirstFault patterns text number Field
HasFilterFaultAt patterns text number Pattern = IsFirstFault patterns text number Pattern
HasFilterFaultAt patterns text number Equals = IsFirstFault patterns text number Equals
HasFilterFaultAt patterns text number (Fields many) = IsFirstFault patterns text number (Fields many)
