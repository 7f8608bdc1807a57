-- The lines of the command `batch`.
use Rattle.std.specs.Prelude.{◌≡◌, ℕ, ◌+◌, List, [], ◌∷◌, ◌++◌, map, length, codes, decimal, Bool, true, false}
use Rattle.serde_json.specs.Data.{Data, boolean, object}
use Rattle.serde_json.specs.Written.{comma_if}
use Rattle.otel_base.specs.declared.record.Record.{Record}
use Rattle.trace_lines.specs.reading.Object.{by_name, whole_number, line_of}
use Rattle.trace_batch.specs.declared.item.Sent.{Sent}
use Rattle.trace_batch.specs.Cuts.{IsCut}
use Rattle.trace_batch.specs.Merges.{of_lane, sent_of}
use Rattle.batch_lines.specs.Items.{object_text, items_of, items_on_lane}

-- the texts of items, with commas between them
abbrev pub listed_texts : Bool → List Sent → List ℕ
listed_texts later [] = []
listed_texts later (s ∷ ss) = comma_if later ++ (s.text ++ listed_texts true ss)

-- the line of the batch with a number
abbrev pub batch_text : ℕ → List Sent → List ℕ
batch_text number batch =
    codes "{\"batch\":[" ++ (listed_texts false batch ++ (codes "],\"number\":" ++ (decimal number ++ codes "}\n")))

-- the lines of batches, so many having come before: numbered from 1 on
abbrev pub batch_lines : ℕ → List (List Sent) → List ℕ
batch_lines n [] = []
batch_lines n (batch ∷ batches) = batch_text (n + 1) batch ++ batch_lines (n + 1) batches

-- the end: how many batches and records there are, and how many spans are open
abbrev pub batches_end_data : ℕ → ℕ → ℕ → Data
batches_end_data batches open_spans records = object (by_name (
    (codes "batches", whole_number batches)
    ∷ (codes "done", boolean true)
    ∷ (codes "open", whole_number open_spans)
    ∷ (codes "records", whole_number records) ∷ []))

unfoldable pub batches_end_text : ℕ → ℕ → ℕ → List ℕ
batches_end_text batches open_spans records = line_of (batches_end_data batches open_spans records)

-- Of each lane the texts of its records, in order, and nothing of other lanes.
abbrev pub IsMergeOf : List Record → List ℕ → List Sent → Type 0
IsMergeOf records lanes out = (l : ℕ) → of_lane l out ≡ map (sent_of object_text) (items_on_lane l (items_of records lanes))

-- What is written of the records of a script that leaves so many spans open, with the lane of each: the lines of some merge
-- of the lanes' records, cut after every n, and the end line.
pub record TellsBatches (n : ℕ) (records : List Record) (lanes : List ℕ) (open_spans : ℕ) (text : List ℕ) : Type 0 where
  pub sent : List Sent
  pub merge : IsMergeOf records lanes sent
  pub batches : List (List Sent)
  pub cut : IsCut n sent batches
  pub text_is : text ≡ batch_lines 0 batches ++ batches_end_text (length batches) open_spans (length records)
