-- The lines that tell how a filter prints, and what levels it has.
use Rattle.std.specs.Prelude.{ℕ, List, ◌++◌, Option, None, Some, codes, flat_map}
use Rattle.trace_base.specs.declared.level.LevelFilter.{LevelFilter}
use Rattle.trace_base.specs.words.Level.{level_filter_text}
use Rattle.env_filter.specs.Filtering.{FilterWithRoom, plain_filter, hint_in}
use Rattle.env_filter.specs.texts.Printing as printing

-- how a filter prints, and its hint
abbrev pub filter_line : FilterWithRoom → List ℕ
filter_line f =
    codes "  prints `" ++ (printing.filter_text f.statics.directives f.dynamics.directives ++ (codes "`, hint " ++ (level_filter_text (hint_in (plain_filter f)) ++ codes "\n")))

-- the level of a span, if it has one
abbrev pub level_line : Option LevelFilter → List ℕ
level_line None = codes "  no level\n"
level_line (Some level) = codes "  level " ++ (level_filter_text level ++ codes "\n")

-- a level behind a blank, and those of a lane
abbrev pub level_part : LevelFilter → List ℕ
level_part level = codes " " ++ level_filter_text level

abbrev pub levels_line : List LevelFilter → List ℕ
levels_line levels = codes "  levels" ++ (flat_map level_part levels ++ codes "\n")
