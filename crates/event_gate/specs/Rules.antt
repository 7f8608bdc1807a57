-- The filter of a text, and its gate with a list of levels.
use Rattle.std.specs.Prelude.{◌≡◌, ℕ, ◌==◌, ◌||◌, ◌&&◌, if◌then◌else◌, Bool, false, List, [], ◌∷◌, flat_map, Result, Ok, Err}
use Rattle.std.specs.List.{list_any}
use Rattle.std.specs.Str.{trim}
use Rattle.trace_base.specs.declared.callsite.Callsite.{Callsite}
use Rattle.trace_base.specs.declared.level.Level.{Level}
use Rattle.trace_base.specs.declared.level.LevelFilter.{LevelFilter}
use Rattle.trace_base.specs.words.Level.{is_within}
use Rattle.env_directives.specs.declared.directive.ParseError.{ParseError}
use Rattle.env_directives.specs.declared.env.directive.Directive.{Directive}
use Rattle.env_directives.specs.orders.Choice.{admits}
use Rattle.env_directives.specs.reading.Reading.{DirectiveRead, read_directive}
use Rattle.env_directives.specs.reading.Separators.{comma_pieces}
use Rattle.env_filter.specs.texts.Building.{filter_by}
use Rattle.env_filter.specs.Filtering.{FilterState, FilterWithRoom, plain_filter, IsNewFilter, is_cared, hint_in}
use Rattle.env_filter.specs.texts.Pieces.{ReadsText, IsFirstFault}
use Rattle.env_filter.specs.texts.Printing.{fixed_builder}
use Rattle.event_gate.specs.declared.error.GateError.{GateError}
use Rattle.event_gate.specs.declared.error.GateError.TheVariants as error
use Rattle.event_gate.specs.declared.levels.Levels.{Levels}

-- the directive that was read, if one was
abbrev pub directives_if_read : DirectiveRead → List Directive
directives_if_read (Ok d) = d ∷ []
directives_if_read (Err fault) = []

-- the directive that a piece of a text is; an empty one is none
abbrev pub directives_in_piece : List ℕ → List Directive
directives_in_piece [] = []
directives_in_piece (b ∷ bs) = directives_if_read (read_directive false (trim (b ∷ bs)))

-- the directives of a text are those of its pieces, in order
abbrev pub directives_of : List ℕ → List Directive
directives_of text = flat_map directives_in_piece (comma_pieces text)

-- the filter of a text, which takes no patterns and has no span and no level
abbrev pub fixed_text_filter : List ℕ → FilterState
fixed_text_filter text = filter_by fixed_builder (directives_of text)

-- a new filter of this text
pub record IsTextFilter (text : List ℕ) (f : FilterWithRoom) : Type 0 where
  pub is : plain_filter f ≡ fixed_text_filter text
  pub new : IsNewFilter (plain_filter f)

-- A text gives a filter exactly where each of its pieces that isn't empty is a directive; else the first that is none is
-- told. Want of memory aside.
abbrev pub GivesGate : {A : Type 0} → List ℕ → Result A GateError → Type 0
GivesGate text (Ok r) = (ds : List Directive) × ReadsText false text ds []
GivesGate text (Err (error.Directive piece)) = (fault : ParseError) × IsFirstFault false text piece fault
GivesGate text (Err error.Memory) = Unit {0}

abbrev pub no_memory : GateError
no_memory = error.Memory

-- the level is within some level of a list
abbrev pub is_within_some : Level → List LevelFilter → Bool
is_within_some level levels = list_any (λ l. is_within level l) levels

-- The rule of the gate: the static directives admit it; or it is a span, some dynamic one cares for it, and its level is
-- within the hint; or its level is within some level of the list.
abbrev pub gate_rule : FilterState → List LevelFilter → Callsite → Bool
gate_rule f levels c = admits f.statics.directives c || ((is_cared f c && is_within c.level (hint_in f)) || is_within_some c.level levels)

-- the levels that count under a number: the list where it has that number, else none
abbrev pub levels_of_reload : ℕ → Levels → List LevelFilter
levels_of_reload number levels = if levels.reload == number then levels.list else []
