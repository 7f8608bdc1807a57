-- What is left is no longer than all.
use Rattle.std.proofs.Common.{◌≤◌, length}
use Rattle.explain_threads.proofs.output.output_start.Given as goal

abbrev pub invariant-loop-rest : goal.invariant-loop-rest
invariant-loop-rest l = length l.rest ≤ length l.fn.bytes

abbrev pub decreases-loop-rest : goal.decreases-loop-rest
decreases-loop-rest l = length l.rest
