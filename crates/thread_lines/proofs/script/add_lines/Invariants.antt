-- The lines that are left add what all lines add.
use Rattle.std.proofs.Common.{◌≡◌, length}
use Rattle.trace_lines.specs.Lines.{lines_of}
use Rattle.thread_lines.specs.Runnable.{IsRunnable}
use Rattle.thread_lines.specs.Steps.{lines_added}
use Rattle.thread_lines.proofs.script.add_lines.Given as goal

abbrev pub invariant-loop-rest : goal.invariant-loop-rest
invariant-loop-rest l = record {
  runnable : IsRunnable l.script;
  added : lines_added l.script l.number (lines_of l.rest) ≡ lines_added l.fn.script l.fn.number (lines_of l.fn.bytes);
}

abbrev pub decreases-loop-rest : goal.decreases-loop-rest
decreases-loop-rest l = length l.rest
