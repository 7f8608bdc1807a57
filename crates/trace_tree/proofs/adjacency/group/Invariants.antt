-- Empty tables, and then the tables of the places so far.
use Rattle.std.proofs.Common.{◌≡◌, ℕ, length, map, get_or, []}
use Rattle.std.specs.Map.{values_of}
use Rattle.std.specs.Map.Iter.{deref_pair}
use Rattle.trace_tree.proofs.Groups.{Grouped}
use Rattle.trace_tree.proofs.adjacency.group.Given as goal

abbrev pub invariant-loop : goal.invariant-loop
invariant-loop l = (length l.children.items ≡ l.index) × ((p : ℕ) → get_or l.children.items p [] ≡ [])

abbrev pub invariant-loop-place : goal.invariant-loop-place
invariant-loop-place l = Grouped l.finished l.roots l.children.items (values_of (map deref_pair l.yielded))
