-- It is the same writer.
use Rattle.std.proofs.Common.{◌≡◌}
use Rattle.work_tests.proofs.many_gates.reload_to.Given as goal

abbrev pub invariant-loop-number : goal.invariant-loop-number
invariant-loop-number g l = l.writer.table ≡ l.initial.writer.table
