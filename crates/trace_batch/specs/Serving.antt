-- How far the writer is.
use Rattle.std.specs.Prelude.{◌≡◌, ℕ, ◌<◌, ◌≤◌, false, List, [], ◌++◌}
use Rattle.crossbeam_queue.specs.Passes.{view}
use Rattle.trace_batch.specs.declared.item.Item.{Item}
use Rattle.trace_batch.specs.declared.item.Sent.{Sent}
use Rattle.trace_batch.specs.declared.writer.Writer.{Writer}
use Rattle.trace_batch.specs.Merges.{of_lane, items_with_texts}
use Rattle.trace_batch.specs.Rule.{writer_view, known_at}

module _ {F : Type 0} (text : F → ℕ → ℕ → List ℕ) where
  -- Of the lanes from one on, what the sender put in and then what the writer served itself is the lane's list with
  -- texts. Of the other lanes it served nothing itself
  pub record HasServed (lists : List (List (Item F))) (lane : ℕ) (known : List (List Sent)) (got : List Sent) (w : Writer) : Type 0 where
    pub taken : w.taken ≡ got
    pub late : (l : ℕ) → lane ≤ l → known_at lane known l ++ of_lane l w.late ≡ items_with_texts text lists l
    pub others : (l : ℕ) → l < lane → of_lane l w.late ≡ []

  -- The lanes from one on have been served by their senders
  pub record Serving (lists : List (List (Item F))) (lane : ℕ) (w : Writer) : Type 0 where
    pub known : List (List Sent)
    pub got : List Sent
    pub knows : view w.pass ≡ writer_view lane known got
    pub kept : w.lacks_memory ≡ false → HasServed lists lane known got w

-- Nothing was taken or served yet
abbrev pub IsNewWriter : ℕ → Writer → Type 0
IsNewWriter lane w = (view w.pass ≡ writer_view lane [] []) × (w.taken ≡ []) × (w.late ≡ [])
