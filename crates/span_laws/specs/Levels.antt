-- The levels that a filter keeps of spans, over a history.
use Rattle.std.specs.Prelude.{◌≡◌, ℕ, List, map, Option, None}
use Rattle.std.specs.List.{AllByRecursion}
use Rattle.trace_base.specs.declared.level.LevelFilter.{LevelFilter}
use Rattle.trace_base.specs.layers.Hooks.{Hook}
use Rattle.env_directives.specs.declared.env.directive.Directive.{Directive}
use Rattle.env_filter.specs.Filtering.{span_level}
use Rattle.span_script.specs.Admission.{text_filter}
use Rattle.span_script.specs.calls.Filter.{hook_of, text_in_force, filter_in_force}
use Rattle.span_script.specs.Setups.{Setup}
use Rattle.span_script.specs.Tables.{Effect, History, tables}

-- the level of a span in the filter in force
abbrev pub level_in : Setup → History → ℕ → Option LevelFilter
level_in setup h s = span_level (filter_in_force setup (tables setup h)) s

-- the dynamic directives of the text in force
abbrev pub directives_in : Setup → History → List Directive
directives_in setup h = (text_filter (text_in_force setup (tables setup h))).dynamics.directives

-- the hooks by which the filter in force heard what it heard
abbrev pub hooks_in : Setup → History → List Hook
hooks_in setup h = map hook_of (tables setup h).hooks

-- no other filter is put in force
abbrev pub HasNoReload : History → Type 0
HasNoReload h = AllByRecursion (λ (e : Effect). e.filter ≡ None) h
