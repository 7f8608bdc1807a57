use Rattle.trace_lines.proofs.Common.{all_differ, contains, drop, lane_ids, nat_cmp, ◌≡◌}
use Rattle.trace_lines.proofs.ids.DistinctLemmas.{still_differ}
use Rattle.trace_lines.proofs.read.settings.require_distinct.Given as goal

abbrev pub invariant-loop-lane : goal.invariant-loop-lane
invariant-loop-lane l = still_differ (contains nat_cmp l.seen) (lane_ids (drop l.lane-index l.lanes)) ≡ all_differ (lane_ids l.lanes)
