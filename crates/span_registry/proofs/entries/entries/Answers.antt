-- The entries of a lane stand at its place.
use Rattle.std.proofs.Common.{sym, ap, ◌∙◌, get_or, ◌≡◌, refl}
use Rattle.span_registry.proofs.Common.{get_or_default, Entries, no_lane}
use Rattle.span_registry.proofs.Lanes.{entries_at, entries_none}
use Rattle.span_registry.proofs.entries.entries.Goals as goal

pub returns-in-Some : goal.returns-in-Some
returns-in-Some c =
    let stands = c.in-Some.ensures.some in
    let read : get_or c.args.lanes.now c.in-Some.at c.index-lanes-at.result ≡ get_or c.args.lanes.now c.in-Some.at no_lane = get_or_default c.args.lanes.now c.in-Some.at c.index-lanes-at.result no_lane stands.within in
    c.ids.ensures ∙ ap (λ (e : Entries). e.ids) (c.index-lanes-at.is ∙ read) ∙ sym (entries_at c.args.lanes.now c.args.lane c.in-Some.at stands.within stands.is stands.before)

pub returns-in-None : goal.returns-in-None
returns-in-None c = sym (entries_none c.args.lanes.now c.args.lane (c.in-None.ensures.none refl))
