use Rattle.trace_lines.proofs.Common.{escape, length, take, ◌-◌, ◌≡◌, ◌≤◌}
use Rattle.trace_lines.proofs.write.escape.plain_run.Given as goal

abbrev pub invariant-loop-at : goal.invariant-loop-at
invariant-loop-at l = (l.at ≤ length l.bytes) × (escape (take l.at l.bytes) ≡ take l.at l.bytes)

abbrev pub decreases-loop-at : goal.decreases-loop-at
decreases-loop-at l = length l.bytes - l.at
