-- When a list is a merge of some lists of items.
use Rattle.std.specs.Prelude.{◌≡◌, ◌==◌, ℕ, List, [], map, get_or}
use Rattle.std.specs.List.{filter}
use Rattle.trace_batch.specs.declared.item.Item.{Item}
use Rattle.trace_batch.specs.declared.item.Sent.{Sent}

-- what a list has of a lane, in its order
abbrev pub of_lane : ℕ → List Sent → List Sent
of_lane l xs = filter (λ (s : Sent). s.lane == l) xs

-- text: of what has finished, as the item of a lane and a place
module _ {F : Type 0} (text : F → ℕ → ℕ → List ℕ) where
  -- an item with its text
  abbrev pub sent_of : Item F → Sent
  sent_of i = record { lane = i.lane; place = i.place; text = text i.finished i.lane i.place }

  -- the items of a lane, with their texts; of a lane that there isn't, none
  abbrev pub items_with_texts : List (List (Item F)) → ℕ → List Sent
  items_with_texts lists l = map sent_of (get_or lists l [])

  -- of each lane its items with their texts, in order, and nothing of other lanes
  abbrev pub IsMerge : List (List (Item F)) → List Sent → Type 0
  IsMerge lists out = (l : ℕ) → of_lane l out ≡ items_with_texts lists l
