-- The lines so far were read.
use Rattle.std.proofs.Common.{◌≡◌, ◌++◌, length, List, ℕ}
use Rattle.trace_lines.specs.Lines.{lines_of}
use Rattle.task_runs.specs.Reading.{HasReadLines}
use Rattle.task_runs.proofs.input.read_lines.Given as goal

abbrev pub invariant-loop-rest : goal.invariant-loop-rest
invariant-loop-rest l = (before : List (List ℕ)) × (lines_of l.fn.bytes ≡ before ++ lines_of l.rest) × HasReadLines before l.reader

abbrev pub decreases-loop-rest : goal.decreases-loop-rest
decreases-loop-rest l = length l.rest
