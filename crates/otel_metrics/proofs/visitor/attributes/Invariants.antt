-- The attributes so far have been found.
use Rattle.std.proofs.Common.{◌≡◌, take}
use Rattle.std.specs.Prelude.{flat_map}
use Rattle.otel_metrics.specs.Measures.{attributes_at}
use Rattle.otel_metrics.proofs.visitor.attributes.Given as goal

abbrev pub invariant-loop-pair : goal.invariant-loop-pair
invariant-loop-pair l = l.found ≡ flat_map (attributes_at l.callsite) (take l.pair-index l.pairs)
