-- What is read of the pieces that are left completes what was read.
use Rattle.std.proofs.Common.{List, ◌+◌, ◌++◌, drop}
use Rattle.env_filter.proofs.Common.{Directive, Ignored, texts_of, ReadsAll, ReadsText}
use Rattle.env_filter.proofs.pieces.read.Given as goal

abbrev pub invariant-loop-at : goal.invariant-loop-at
invariant-loop-at l = (ds : List Directive) (is : List Ignored) → ReadsAll l.patterns (l.at + 1) (drop l.at (texts_of l.piece-items)) ds is → ReadsText l.patterns l.text (l.directives.items ++ ds) (l.ignored.items ++ is)
