-- The numbers so far have their measures.
use Rattle.std.proofs.Common.{◌≡◌, take}
use Rattle.std.specs.Prelude.{map}
use Rattle.otel_metrics.specs.Measures.{measure_of}
use Rattle.otel_metrics.proofs.measure.of_numbers.Given as goal

abbrev pub invariant-loop-number : goal.invariant-loop-number
invariant-loop-number l = l.told.items ≡ map (measure_of l.attributes) (take l.number-index l.numbers)
