-- What holds of the spans of every subscriber.
use Rattle.std.specs.Prelude.{◌≡◌, ℕ, ◌<◌, ◌≤◌, ◌==◌, ◌||◌, Bool, false, List, [], ◌∷◌, Some}
use Rattle.trace_base.specs.Spans.{Spans, Entries, span_at, bound_holds}

-- one of the rows is the lane's
abbrev pub has_lane : ℕ → List Entries → Bool
has_lane lane [] = false
has_lane lane (e ∷ es) = e.lane == lane || has_lane lane es

-- each lane has one row
abbrev pub OneEach : List Entries → Type 0
OneEach [] = Unit {0}
OneEach (e ∷ es) = (has_lane e.lane es ≡ false) × OneEach es

-- A span has at least the holds of its entries and its open children, each parent is older than its child, and each
-- lane has one row.
pub record IsSound (spans : Spans) : Type 0 where
  pub bound : (id : ℕ) → bound_holds spans id ≤ (span_at spans.made id).holds
  pub older : (id p : ℕ) → (span_at spans.made id).parent ≡ Some p → p < id
  pub one_row : OneEach spans.lanes
