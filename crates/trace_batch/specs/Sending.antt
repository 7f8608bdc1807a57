-- What a sender promises.
use Rattle.std.specs.Prelude.{◌≡◌, ℕ, List, Option, map, take}
use Rattle.crossbeam_queue.specs.Passes.{view, IsPassOf}
use Rattle.crossbeam_queue.specs.declared.array_queue.Doing.{Doing}
use Rattle.crossbeam_queue.specs.declared.array_queue.Slotted.{Slotted}
use Rattle.trace_batch.specs.declared.item.Item.{Item}
use Rattle.trace_batch.specs.declared.item.Sent.{Sent}
use Rattle.trace_batch.specs.declared.queue.View.{View}
use Rattle.trace_batch.specs.declared.sender.SenderEnd.{SenderEnd}
use Rattle.trace_batch.specs.Merges.{sent_of}
use Rattle.trace_batch.specs.Rule.{sender_view}

module _ {F Q A : Type 0} (text : F → ℕ → ℕ → List ℕ) where
  -- it put in as many of the items as it tells, from the first on
  abbrev pub Sends : Slotted (Option Sent) (Doing Sent View) Q A → ℕ → List (Item F) → SenderEnd → Type 0
  Sends queue lane list r = IsPassOf queue r.pass × (view r.pass ≡ sender_view lane (map (sent_of text) (take r.sent_count list)))
