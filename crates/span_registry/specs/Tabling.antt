-- The table of spans: each live span has a slot, and a slot is used again after its span closed.
use Rattle.std.specs.Prelude.{◌≡◌, ◌≢◌, ℕ, zero, suc, ◌+◌, ◌<◌, ◌≤◌, Bool, List, [], ◌∷◌, ◌++◌, length, Option, Some, None, nat_lt, count_by, slice_index_or}
use Rattle.trace_base.specs.Spans.{Span, no_span}

-- a slot: the id of the span that it was last used for, and what is kept of it
pub record SlotValue : Type 0 where
  pub id : ℕ
  pub span : Span

abbrev pub no_slot : SlotValue
no_slot = record { id = 0; span = no_span }

abbrev pub slot_value_at : List SlotValue → ℕ → SlotValue
slot_value_at slots place = slice_index_or slots place no_slot

-- where the slot of an id stands, by what is kept of it: 0 for none, else one more
abbrev pub place_of_entry : ℕ → Option ℕ
place_of_entry zero = None
place_of_entry (suc place) = Some place

abbrev pub place_in : List ℕ → ℕ → Option ℕ
place_in places id = place_of_entry (slice_index_or places id 0)

-- the span in a place, if there is one
abbrev pub span_in_slot : List SlotValue → Option ℕ → Span
span_in_slot slots None = no_span
span_in_slot slots (Some place) = (slot_value_at slots place).span

-- the span of an id, by the place of its slot
abbrev pub span_in : (ℕ → Option ℕ) → List SlotValue → ℕ → Span
span_in places slots id = span_in_slot slots (places id)

-- the first spans, in order
abbrev pub spans_to : ℕ → (ℕ → Span) → List Span
spans_to zero f = []
spans_to (suc n) f = spans_to n f ++ f n ∷ []

-- whether a span is live, and how many are
abbrev pub is_live : Span → Bool
is_live span = nat_lt 0 span.holds

abbrev pub live_span_count : List Span → ℕ
live_span_count made = count_by is_live made

-- what a table stands for: all spans that were made, and how many slots it has
pub record SlotTableValue : Type 0 where
  pub made : List Span
  pub slots : ℕ

abbrev pub slot_table_value : ℕ → (ℕ → Option ℕ) → List SlotValue → SlotTableValue
slot_table_value count places slots = record { made = spans_to count (span_in places slots); slots = length slots }

-- the place of a span is that of its slot
pub record IsPlace (count : ℕ) (slots : List SlotValue) (id place : ℕ) : Type 0 where
  pub made : id < count
  pub within : place < length slots
  pub is : (slot_value_at slots place).id ≡ id
  pub held : 0 < (slot_value_at slots place).span.holds

-- Each slot is that of a live span or free, no slot is free twice, and the list of the free ones has room for all.
pub record IsSlotTable (count : ℕ) (places : ℕ → Option ℕ) (slots : List SlotValue) (free : List ℕ) (room : ℕ) : Type 0 where
  pub known : (id place : ℕ) → places id ≡ Some place → IsPlace count slots id place
  pub freed : (k : ℕ) → k < length free → (slice_index_or free k 0 < length slots) × ((slot_value_at slots (slice_index_or free k 0)).span.holds ≡ 0)
  pub apart : (j k : ℕ) → j < k → k < length free → slice_index_or free j 0 ≢ slice_index_or free k 0
  pub counted : length free + live_span_count (spans_to count (span_in places slots)) ≡ length slots
  pub enough : length slots ≤ room
