-- The gate is of the same writer.
use Rattle.std.proofs.Common.{◌≡◌}
use Rattle.work_tests.proofs.many_gates.ask_often.Given as goal

abbrev pub invariant-loop : goal.invariant-loop
invariant-loop l = l.gate.table ≡ l.initial.gate.table
