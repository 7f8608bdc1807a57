-- Each list has the items of its lane.
use Rattle.std.proofs.Common.{◌≡◌, List, map, ap, sym, ◌∙◌, subst}
use Rattle.std.specs.List.{All}
use Rattle.trace_batch.specs.declared.item.Item.{Item}
use Rattle.trace_batch.specs.Merges.{sent_of}
use Rattle.batch_lines.specs.declared.finished.FinishedSpan.{FinishedSpan}
use Rattle.batch_lines.specs.Items.{object_text, items_of}
use Rattle.batch_lines.proofs.ListsLemmas.{all_on_lane}
use Rattle.batch_lines.proofs.text.send_all.Goals as goal

pub relay-requires-clause-own : goal.relay-requires-clause-own
relay-requires-clause-own g c κs within l less =
    subst (All (λ (i : Item FinishedSpan). i.lane ≡ l)) (sym (c.in_ok-lists.ensures.each l)) (all_on_lane l (items_of c.args.records.items c.args.lanes.now))

pub returns : goal.returns
returns g c = λ l. c.in_ok-sent.ensures l ∙ ap (λ (xs : List (Item FinishedSpan)). map (sent_of object_text) xs) (c.in_ok-lists.ensures.each l)
