-- What is removed at the last place.
use Rattle.std.proofs.Common.{◌∙◌}
use Rattle.span_registry.proofs.Lanes.{remove_is_last}
use Rattle.span_registry.proofs.lane_entries.remove_last.Goals as goal

pub returns : goal.returns
returns c = c.remove.ensures.items ∙ remove_is_last c.args.ids.now.items c.args.id c.last_place-at.result
    (rw c.as_slice.ensures.value at c.last_place-at.ensures.within)
    (rw c.as_slice.ensures.value at c.last_place-at.ensures.passes)
    (λ k after within. rw c.as_slice.ensures.value at (c.last_place-at.ensures.last k after (rw c.as_slice.ensures.value within)))
