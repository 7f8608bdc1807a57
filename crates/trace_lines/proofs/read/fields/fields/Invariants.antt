use Rattle.trace_lines.proofs.Common.{each, field_of, into_iter_items, items, value_data, ◌≡◌}
use Rattle.trace_lines.proofs.readings.ItemsLemmas.{with_front}
use Rattle.trace_lines.proofs.read.fields.fields.Given as goal

abbrev pub invariant-loop-value : goal.invariant-loop-value
invariant-loop-value l = with_front l.fields (each field_of (items value_data (into_iter_items l.value-iterator))) ≡ each field_of (items value_data l.fn.values.items)
