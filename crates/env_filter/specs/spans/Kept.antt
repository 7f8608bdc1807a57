-- What a filter keeps of spans and of lanes.
use Rattle.std.specs.Prelude.{ℕ, if◌then◌else◌, Bool, List, [], ◌∷◌, ◌++◌, Option, Some, None, is_some}
use Rattle.std.specs.Option.{option_map, option_map_or}
use Rattle.trace_base.specs.declared.level.LevelFilter.{LevelFilter}
use Rattle.trace_base.specs.Spans.{without_last}
use Rattle.env_filter.specs.spans.Keyed.{value_at_key}
use Rattle.env_filter.specs.spans.Levels.{OpenLevel, LaneLevels, is_of_span}
use Rattle.env_filter.specs.spans.Watching.{MatchState, more_met, level_of_match}

-- the matches of a span
abbrev pub match_state_in : List (ℕ × MatchState) → ℕ → Option MatchState
match_state_in spans id = value_at_key spans id

-- whether there are some, and the level that they come to
abbrev pub has_match_state : List (ℕ × MatchState) → ℕ → Bool
has_match_state spans id = is_some (match_state_in spans id)

abbrev pub level_in : List (ℕ × MatchState) → ℕ → Option LevelFilter
level_in spans id = option_map level_of_match (match_state_in spans id)

-- the levels of a lane, and its room for more
abbrev pub levels_in : List (ℕ × LaneLevels) → ℕ → List OpenLevel
levels_in lanes lane = option_map_or (λ (l : LaneLevels). l.opened) (value_at_key lanes lane) []

abbrev pub room_in : List (ℕ × LaneLevels) → ℕ → ℕ
room_in lanes lane = option_map_or (λ (l : LaneLevels). l.room) (value_at_key lanes lane) 0

-- matches with what was found
abbrev pub with_met : List Bool → MatchState → MatchState
with_met found w = record w { met = more_met w.met found }

-- the levels of a lane with that of an entry, if the span has a level
abbrev pub with_open_level : Option LevelFilter → ℕ → List OpenLevel → List OpenLevel
with_open_level None id levels = levels
with_open_level (Some level) id levels = levels ++ record { span = id; level = level } ∷ []

-- and without that of the span's newest entry
abbrev pub without_open_level : Bool → ℕ → List OpenLevel → List OpenLevel
without_open_level known id levels = if known then without_last (is_of_span id) levels else levels
