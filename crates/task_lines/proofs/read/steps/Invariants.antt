-- The steps so far, in front of those that the values left spell.
use Rattle.std.proofs.Common.{◌≡◌}
use Rattle.std.specs.Vec.Iter.{into_iter_items}
use Rattle.trace_lines.specs.forms.Forms.{each}
use Rattle.trace_lines.specs.reading.Left.{value_data}
use Rattle.trace_lines.specs.reading.Object.{items}
use Rattle.trace_lines.proofs.readings.ItemsLemmas.{with_front}
use Rattle.task_lines.specs.TaskForm.{step_of}
use Rattle.task_lines.proofs.read.steps.Given as goal

abbrev pub invariant-loop-value : goal.invariant-loop-value
invariant-loop-value l = with_front l.steps (each step_of (items value_data (into_iter_items l.value-iterator))) ≡ each step_of (items value_data l.fn.values.items)
