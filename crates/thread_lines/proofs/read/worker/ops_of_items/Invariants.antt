-- The calls that were read, in front of those that are to be read.
use Rattle.std.proofs.Common.{◌≡◌}
use Rattle.serde_json.specs.View.{items_view}
use Rattle.trace_lines.specs.forms.Forms.{each}
use Rattle.trace_lines.proofs.readings.ItemsLemmas.{with_front}
use Rattle.thread_lines.specs.ThreadForm.{op_of}
use Rattle.thread_lines.proofs.read.worker.ops_of_items.Given as goal

abbrev pub invariant-loop-value : goal.invariant-loop-value
invariant-loop-value l = with_front l.ops (each op_of (items_view l.value-iterator.rest.items)) ≡ each op_of (items_view l.fn.values.items)
