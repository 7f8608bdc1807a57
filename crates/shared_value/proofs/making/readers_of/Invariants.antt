-- So many readers were made, and there are copies for the others.
use Rattle.std.proofs.Common.{◌≡◌, ◌+◌, vec_len, vec_capacity, All}
use Rattle.std.specs.Arc.{arc_value}
use Rattle.value_reader.specs.Knowing.{IsNewReader, IsFirst}
use Rattle.shared_value.proofs.making.readers_of.Given as goal

abbrev pub invariant-loop : goal.invariant-loop
invariant-loop g l = record {
  left : vec_len l.copies + l.counter ≡ l.readers;
  copies : All (λ t. IsFirst l.origin.first.value (arc_value t)) l.copies.items;
  count : vec_len l.made ≡ l.counter;
  room : vec_capacity l.made ≡ l.readers;
  readers : All (IsNewReader (arc_value l.origin.factory.value.board).shared.table_id l.origin.first.value) l.made.items;
}
