use Rattle.trace_lines.proofs.Common.{each, into_iter_items, items, lane_form, object_of, value_data, ◌≡◌}
use Rattle.trace_lines.proofs.readings.ItemsLemmas.{with_front}
use Rattle.trace_lines.proofs.read.settings.lanes.Given as goal

abbrev pub invariant-loop-value : goal.invariant-loop-value
invariant-loop-value l = with_front l.lanes (each (object_of lane_form) (items value_data (into_iter_items l.value-iterator))) ≡ each (object_of lane_form) (items value_data l.fn.values.items)
