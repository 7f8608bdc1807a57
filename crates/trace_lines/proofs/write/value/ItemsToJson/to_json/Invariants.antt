-- The values of the items so far.
use Rattle.trace_lines.proofs.Common.{map, take, view, ◌≡◌}
use Rattle.trace_lines.proofs.write.value.ItemsToJson.to_json.Given as goal

abbrev pub invariant-loop-item : goal.invariant-loop-item
invariant-loop-item g l = map view l.values.items ≡ map g.T.ToJson.as_data (take l.item-index l.item-items)
