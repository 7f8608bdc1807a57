-- The item at the last place.
use Rattle.std.proofs.Common.{sym, ap, ◌∙◌, arith, Some}
use Rattle.span_registry.proofs.LaneSpansLemmas.{last_at}
use Rattle.span_registry.proofs.lane_entries.last.Goals as goal

pub returns : goal.returns
returns c = ap Some c.index-ids-count.is ∙ sym (last_at c.args.ids.now c.index-ids-count.result (omega (arith, c.if-count-eq0.false)))
