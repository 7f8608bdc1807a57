-- Each take leaves one record fewer, and the stack is there.
use Rattle.std.proofs.Common.{length, ◌<◌}
use Rattle.span_stack.specs.Reading.{recording_in}
use Rattle.example_shop.proofs.tell_records.Given as goal

abbrev pub invariant-loop-record : goal.invariant-loop-record
invariant-loop-record l = l.dispatch < length l.world.subscribers

abbrev pub decreases-loop-record : goal.decreases-loop-record
decreases-loop-record l = length (recording_in l.world l.dispatch).finished
