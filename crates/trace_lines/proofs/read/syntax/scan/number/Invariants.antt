use Rattle.std.proofs.Common.{◌≡◌, ◌<◌, ◌≤◌, ◌-◌, ◌^◌, ◌++◌, length, drop, decimal}
use Rattle.trace_lines.proofs.read.syntax.scan.number.Given as goal

abbrev pub invariant-loop-at : goal.invariant-loop-at
invariant-loop-at l = (0 < l.value) × (l.value < 2 ^ 64) × (l.at ≤ length l.text) × (l.text ≡ decimal l.value ++ drop l.at l.text)

abbrev pub decreases-loop-at : goal.decreases-loop-at
decreases-loop-at l = length l.text - l.at
