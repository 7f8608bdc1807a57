-- The last of the spans that the lane is in.
use Rattle.std.proofs.Common.{sym, ap, ◌∙◌, None, []}
use Rattle.span_registry.proofs.Common.{last_or, Entries, current_of}
use Rattle.span_registry.proofs.LaneSpansLemmas.{current_last}
use Rattle.span_registry.proofs.lane_entries.LaneEntries.current.Goals as goal

pub returns : goal.returns
returns c =
    c.last.ensures ∙ ap (last_or None) c.as_slice.ensures.value ∙ ap (last_or None) c.self.invariant ∙ sym (current_last [] None c.self.inside.ids.items) ∙ ap (λ (e : Entries). current_of e.ids) c.self.view_is
