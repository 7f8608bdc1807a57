-- The guards of entries, and how many open ones name each handle. Inner definitions.
use Rattle.std.specs.Prelude.{◌≡◌, ℕ, List, Option, slice_index_or, count_by}
use Rattle.span_script.specs.declared.slots.Guard.{Guard}
use Rattle.span_script.specs.Slots.{names_handle}

-- the guards by their numbers, for how many more numbers and guards there is room, and how many handles have a count
pub record GuardsValue : Type 0 where
  pub items : List (Option Guard)
  pub room : ℕ
  pub value_room : ℕ
  pub counted : ℕ

-- each handle's count is that of the guards that name it; past the end there are none
abbrev pub GuardsAreCounted : List (Option Guard) → List ℕ → Type 0
GuardsAreCounted guards counts = (handle : ℕ) → slice_index_or counts handle 0 ≡ count_by (names_handle handle) guards
