use Rattle.std.proofs.Common.{◌≤◌, ◌-◌, length}
use Rattle.trace_lines.proofs.readings.PlacesLemmas.{Puts}
use Rattle.trace_lines.proofs.read.syntax.flat.place_for.Given as goal

abbrev pub invariant-loop-at : goal.invariant-loop-at
invariant-loop-at l = (l.at ≤ length l.members) × Puts l.name l.members l.at

abbrev pub decreases-loop-at : goal.decreases-loop-at
decreases-loop-at l = length l.members - l.at
