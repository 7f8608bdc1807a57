-- The set is seen as a function: whether it has a number.
use Rattle.trace_lines.proofs.Common.{ap, arith, contains, is_at, lane_ids, list_any, nat_cmp, sym, unit_if, ◌∙◌}
use Rattle.trace_lines.proofs.ids.DistinctLemmas.{begins, next_lane, same_lane}
use Rattle.trace_lines.proofs.read.settings.require_distinct.Goals as goal

pub loop-lane-init : goal.loop-lane-init
loop-lane-init c = begins (contains nat_cmp c.new-seen.result) (lane_ids c.args.lanes.now) (λ q. ap (list_any (is_at (nat_cmp q))) c.new-seen.ensures.empty)

pub loop-lane-preserved : goal.loop-lane-preserved
loop-lane-preserved c =
    next_lane (contains nat_cmp c.loop-lane.seen) (contains nat_cmp c.insert.new.self) c.args.lanes.now c.loop-lane.lane-index c.lane-item.result (omega arith) c.lane-item.is
    c.in_ok-insert.field-0 c.in_ok-insert.ensures.added c.if-not-branch.false c.in_ok-insert.ensures.updates.0 ∙ c.loop-lane.invariant

pub returns-then-not-branch : goal.returns-then-not-branch
returns-then-not-branch c =
    ap unit_if (sym c.loop-lane.invariant
    ∙ same_lane (contains nat_cmp c.loop-lane.seen) (contains nat_cmp c.insert.new.self) c.args.lanes.now c.loop-lane.lane-index c.lane-item.result (omega arith) c.lane-item.is
    c.in_ok-insert.field-0 c.in_ok-insert.ensures.added c.if-not-branch.true)
