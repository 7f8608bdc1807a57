-- Tables of targets with levels: what is added to them, and what their texts spell.
use Rattle.std.specs.Prelude.{ℕ, Bool, List, [], ◌∷◌, Option, None, Some, Result, Ok, string_bytes}
use Rattle.std.specs.declared.alloc.Global.{Global}
use Rattle.std.specs.declared.string.String.{String}
use Rattle.std.specs.List.{find}
use Rattle.std.specs.Option.{option_map, option_map_or, is_none}
use Rattle.std.specs.Ordering.{nat_cmp, on, eq_of_both, eq_by_cmp}
use Rattle.std.specs.Cmp.Lexicographic.{pointwise}
use Rattle.trace_base.specs.words.Level.{greatest_verbosity}
use Rattle.trace_base.specs.declared.level.LevelFilter.{LevelFilter}
use Rattle.env_directives.specs.declared.directive.ParseError.{ParseError}
use Rattle.env_directives.specs.declared.directive.StaticDirective.{StaticDirective}
use Rattle.env_directives.specs.reading.Separators.{comma_pieces}
use Rattle.env_directives.specs.orders.StaticOrder.{most_specific_first}
use Rattle.env_directives.specs.reading.StaticText.{and_then, static_of}
use Rattle.env_directives.specs.orders.Table.{DirectiveTable, empty_table, with_added, with_all_added}

abbrev pub with_static : StaticDirective → DirectiveTable StaticDirective → DirectiveTable StaticDirective
with_static = with_added most_specific_first (λ d. d.level)

abbrev pub with_statics : List StaticDirective → DirectiveTable StaticDirective → DirectiveTable StaticDirective
with_statics = with_all_added most_specific_first (λ d. d.level)

-- the directive of a target
abbrev pub target_directive : List ℕ → LevelFilter → StaticDirective
target_directive target level = record { target = Some target; field_names = []; level = level }

abbrev pub pair_directive : String Global × LevelFilter → StaticDirective
pair_directive pair = target_directive (string_bytes pair.0) pair.1

-- the directive of every target
abbrev pub default_directive : LevelFilter → StaticDirective
default_directive level = record { target = None; field_names = []; level = level }

-- the level of the directive without a target
abbrev pub default_level : DirectiveTable StaticDirective → Option LevelFilter
default_level t = option_map (λ d. d.level) (find (λ d. is_none d.target) t.directives)

-- the targets with their levels, in order
abbrev pub pairs : List StaticDirective → List (List ℕ × LevelFilter)
pairs [] = []
pairs (d ∷ ds) = option_map_or (λ target. (target, d.level) ∷ pairs ds) d.target (pairs ds)

-- the directives that texts spell, or the fault of the first that spells none
abbrev pub statics_of : List (List ℕ) → Result (List StaticDirective) ParseError
statics_of [] = Ok []
statics_of (text ∷ texts) = and_then (static_of text) (λ d. and_then (statics_of texts) (λ ds. Ok (d ∷ ds)))

-- the table that a text spells: one directive between each two commas
abbrev pub targets_of : List ℕ → Result (DirectiveTable StaticDirective) ParseError
targets_of text = and_then (statics_of (comma_pieces text)) (λ ds. Ok (with_statics ds empty_table))

-- equal by the order
abbrev pub same_rule : StaticDirective → StaticDirective → Bool
same_rule = eq_by_cmp most_specific_first

abbrev pub same_level : StaticDirective → StaticDirective → Bool
same_level = eq_by_cmp (on (λ d. greatest_verbosity d.level) nat_cmp)

-- equal by the order, and by the level too
abbrev pub same_directive : StaticDirective → StaticDirective → Bool
same_directive = eq_of_both same_rule same_level

-- the same directives with the same levels, and the same greatest level
abbrev pub same_targets : DirectiveTable StaticDirective → DirectiveTable StaticDirective → Bool
same_targets = eq_of_both (on (λ t. t.directives) (pointwise same_directive)) (eq_by_cmp (on (λ t. greatest_verbosity t.greatest) nat_cmp))
