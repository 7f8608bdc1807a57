use Rattle.trace_lines.proofs.Common.{attribute_spelled, each, into_iter_items, items, value_data, ◌≡◌}
use Rattle.trace_lines.proofs.readings.ItemsLemmas.{with_front}
use Rattle.trace_lines.proofs.read.attributes.attributes.Given as goal

abbrev pub invariant-loop-value : goal.invariant-loop-value
invariant-loop-value l = with_front l.attributes (each attribute_spelled (items value_data (into_iter_items l.value-iterator))) ≡ each attribute_spelled (items value_data l.fn.values.items)
