-- The lines so far were followed.
use Rattle.std.proofs.Common.{◌≡◌, ◌++◌, length, List, ℕ}
use Rattle.trace_records.proofs.Common.{lines_of, HasFollowed}
use Rattle.trace_records.proofs.follow.follow_lines.Given as goal

abbrev pub invariant-loop-rest : goal.invariant-loop-rest
invariant-loop-rest g l =
    (before : List (List ℕ)) × (lines_of l.fn.bytes ≡ before ++ lines_of l.rest) × HasFollowed g.K.FromRecord.of_record l.fn.most_lanes before l.run

abbrev pub decreases-loop-rest : goal.decreases-loop-rest
decreases-loop-rest g l = length l.rest
