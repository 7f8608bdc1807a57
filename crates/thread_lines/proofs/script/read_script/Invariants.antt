-- All lines so far are blank.
use Rattle.std.proofs.Common.{◌≡◌, length}
use Rattle.trace_lines.specs.Lines.{lines_of}
use Rattle.thread_lines.specs.Steps.{script_from, script_of}
use Rattle.thread_lines.proofs.script.read_script.Given as goal

abbrev pub invariant-loop-rest : goal.invariant-loop-rest
invariant-loop-rest l = script_from l.number (lines_of l.rest) ≡ script_of (lines_of l.fn.bytes)

abbrev pub decreases-loop-rest : goal.decreases-loop-rest
decreases-loop-rest l = length l.rest
