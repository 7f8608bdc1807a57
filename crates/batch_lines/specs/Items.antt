-- The items of batches, which are the records of a script.
use Rattle.std.specs.Prelude.{ℕ, ◌+◌, ◌==◌, List, [], ◌∷◌, Some}
use Rattle.std.specs.List.{filter}
use Rattle.serde_json.specs.Written.{compact_text}
use Rattle.otel_base.specs.declared.record.Record.{Record}
use Rattle.trace_batch.specs.declared.item.Item.{Item}
use Rattle.trace_lines.specs.values.RecordData.{record_object}
use Rattle.batch_lines.specs.declared.finished.FinishedSpan.{FinishedSpan}

-- the text of the record with a number, on a lane
abbrev pub object_text : FinishedSpan → ℕ → ℕ → List ℕ
object_text finished lane number = compact_text (record_object (Some lane) number finished.content)

-- the record with a number as an item of the lane on which its span closed
abbrev pub item_of : ℕ → ℕ → Record → Item FinishedSpan
item_of lane number r = record { lane = lane; place = number; finished = record { content = r } }

-- records and the lanes on which their spans closed, so many records having come before: numbered from 1 on
abbrev pub items_from : ℕ → List Record → List ℕ → List (Item FinishedSpan)
items_from n [] lanes = []
items_from n (r ∷ rs) [] = []
items_from n (r ∷ rs) (lane ∷ lanes) = item_of lane (n + 1) r ∷ items_from (n + 1) rs lanes

abbrev pub items_of : List Record → List ℕ → List (Item FinishedSpan)
items_of records lanes = items_from 0 records lanes

-- those of a lane, in order
abbrev pub items_on_lane : ℕ → List (Item FinishedSpan) → List (Item FinishedSpan)
items_on_lane l items = filter (λ (i : Item FinishedSpan). i.lane == l) items
