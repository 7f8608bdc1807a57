-- The records so far are in the lists of their lanes.
use Rattle.std.proofs.Common.{◌≡◌, ℕ, [], length, get_or}
use Rattle.batch_lines.specs.Items.{items_of, items_on_lane}
use Rattle.batch_lines.proofs.lists.lane_lists.Given as goal

abbrev pub invariant-loop-record : goal.invariant-loop-record
invariant-loop-record l =
    (l.place ≡ length l.yielded)
    × (length l.lists.items ≡ l.count)
    × ((k : ℕ) → get_or l.lists.items k [] ≡ items_on_lane k (items_of l.yielded l.lanes))
