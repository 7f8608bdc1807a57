-- What contracts see of readers, of their writer and of its notes.
use Rattle.std.specs.Prelude.{◌≡◌, ℕ, ◌<◌, List, [], ◌∷◌, Option, Some, None}
use mathlib.Core.List.{IsPrefix}
use Rattle.atomic_table.specs.Seated.{TableId}
use Rattle.value_reader.specs.declared.numbered.Numbered.{Numbered}
use Rattle.value_reader.specs.declared.order.View.{View}
use Rattle.value_reader.specs.Order.{EndsWith}

-- A reader: whose it is, the values that it has seen put in place, from the first on, and the number of the one that it has.
pub record ReaderValue (A : Type 0) : Type 0 where
  pub table : TableId
  pub values : List A
  pub number : ℕ

-- A writer, or a note of it: whose it is, and all values that were put in place until then, from the first on.
pub record WriterValue (A : Type 0) : Type 0 where
  pub table : TableId
  pub values : List A

-- a new reader of this writer, which has seen the first value
abbrev pub IsNewReader : {A : Type 0} → TableId → A → ReaderValue A → Type 0
IsNewReader table first r = (r.table ≡ table) × (r.values ≡ first ∷ []) × (r.number ≡ 0)

-- ---- inside

-- the first value, which has number 0
abbrev pub IsFirst : {A : Type 0} → A → Numbered A → Type 0
IsFirst first t = (t.number ≡ 0) × (t.value ≡ first)

-- what a reader has seen beside the first value
abbrev pub seen_by : {A : Type 0} → Option (View A) → List A
seen_by None = []
seen_by (Some v) = v.seen

-- the last of the values that were seen, of which the first is this one
pub record IsLast {A : Type 0} (first : A) (v : View A) (t : Numbered A) : Type 0 where
  pub ends : EndsWith v.seen t
  pub alone : t.number ≡ 0 → t.value ≡ first

-- a reader that looked for a value past a number, and what it found
abbrev pub FindsLater : {A : Type 0} → View A → View A → ℕ → Option (Numbered A) → Type 0
FindsLater v w number None = IsPrefix v.seen w.seen
FindsLater v w number (Some t) = IsPrefix v.seen w.seen × (number < t.number) × EndsWith w.seen t
