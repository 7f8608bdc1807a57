-- The levels that entries appended on a lane, with the span of each.
use Rattle.std.specs.Prelude.{ℕ, ◌==◌, Bool, List, [], ◌∷◌, map}
use Rattle.trace_base.specs.declared.level.LevelFilter.{LevelFilter}

-- a level that an entry of a span appended
pub record OpenLevel : Type 0 where
  pub span : ℕ
  pub level : LevelFilter

-- the levels of a lane in order, and the room for more
pub record LaneLevels : Type 0 where
  pub opened : List OpenLevel
  pub room : ℕ

-- the levels alone
abbrev pub levels_of : List OpenLevel → List LevelFilter
levels_of entries = map (λ e. e.level) entries

abbrev pub open_levels : List ℕ → List LevelFilter → List OpenLevel
open_levels [] levels = []
open_levels (s ∷ spans) [] = []
open_levels (s ∷ spans) (l ∷ levels) = record { span = s; level = l } ∷ open_levels spans levels

abbrev pub is_of_span : ℕ → OpenLevel → Bool
is_of_span id e = e.span == id
