-- All items have their values.
use Rattle.std.proofs.lemmas.List.{take_all}
use Rattle.trace_lines.proofs.Common.{ap, arith, map, view-Array, ◌∙◌}
use Rattle.trace_lines.proofs.readings.ObjectsLemmas.{array_of_values}
use Rattle.trace_lines.proofs.write.value.ItemsToJson.to_json.Goals as goal

pub returns : goal.returns
returns g c =
    view-Array c.loop-item.values
    ∙ array_of_values g.T.ToJson.as_data c.args.self.now c.loop-item.values.items
    (c.loop-item.invariant ∙ ap (map g.T.ToJson.as_data) (take_all c.loop-item.item-index c.as_slice-item-items.result.now (let past = c.loop-item-test.false in omega arith) ∙ c.as_slice-item-items.ensures))
