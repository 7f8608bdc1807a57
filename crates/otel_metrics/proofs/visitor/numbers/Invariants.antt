-- The numbers so far have been found.
use Rattle.std.proofs.Common.{◌≡◌, take}
use Rattle.std.specs.Prelude.{flat_map}
use Rattle.otel_metrics.specs.Measures.{numbers_at}
use Rattle.otel_metrics.proofs.visitor.numbers.Given as goal

abbrev pub invariant-loop-pair : goal.invariant-loop-pair
invariant-loop-pair l = l.found ≡ flat_map (numbers_at l.callsite) (take l.pair-index l.pairs)
