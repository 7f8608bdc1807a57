-- All lines so far are blank.
use Rattle.std.proofs.Common.{◌≡◌, length}
use Rattle.trace_lines.specs.Lines.{lines_of}
use Rattle.input_lines.specs.Refusals.{are_blank}
use Rattle.input_lines.proofs.lines.are_blank.Given as goal

abbrev pub invariant-loop-rest : goal.invariant-loop-rest
invariant-loop-rest l = are_blank (lines_of l.rest) ≡ are_blank (lines_of l.fn.bytes)

abbrev pub decreases-loop-rest : goal.decreases-loop-rest
decreases-loop-rest l = length l.rest
