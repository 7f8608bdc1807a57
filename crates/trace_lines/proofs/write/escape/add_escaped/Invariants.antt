-- what is written, and what stands for the rest, are all
use Rattle.trace_lines.proofs.Common.{escape, length, take, ◌++◌, ◌≡◌, ◌≤◌}
use Rattle.trace_lines.proofs.write.escape.add_escaped.Given as goal

abbrev pub invariant-loop-run : goal.invariant-loop-run
invariant-loop-run l =
    (l.run ≤ length l.rest) × (escape (take l.run l.rest) ≡ take l.run l.rest)
    × (l.out.items ++ escape l.rest ≡ l.initial.out.items ++ escape l.fn.bytes)

abbrev pub decreases-loop-run : goal.decreases-loop-run
decreases-loop-run l = length l.rest
