-- the steps that were read, as they stand in the text and as they are kept
use Rattle.std.proofs.Common.{◌≡◌, ◌+◌, List, Some}
use Rattle.trace_lines.specs.forms.Forms.{each}
use Rattle.trace_lines.specs.declared.read.syntax.scan.TheConstants.{MAX_DEPTH}
use Rattle.trace_lines.proofs.readings.CompactLemmas.{Pair, AllRead, GoesItems, read_items}
use Rattle.task_lines.specs.TaskForm.{step_of}
use Rattle.task_lines.proofs.quick.leading_steps.Given as goal

abbrev pub invariant-loop : goal.invariant-loop
invariant-loop l = (ps : List Pair) × AllRead (MAX_DEPTH + 3) ps × GoesItems l.initial.rest ps l.rest × (each step_of (read_items ps) ≡ Some l.steps.items)
