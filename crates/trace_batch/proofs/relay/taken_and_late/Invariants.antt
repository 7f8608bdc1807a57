-- What was served late is added, one after another.
use Rattle.std.proofs.Common.{◌≡◌, ◌++◌}
use Rattle.trace_batch.proofs.relay.taken_and_late.Given as goal

abbrev pub invariant-loop-sent : goal.invariant-loop-sent
invariant-loop-sent l = l.all.items ≡ l.initial.all.items ++ l.yielded
