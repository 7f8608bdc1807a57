-- The attributes so far have been copied.
use Rattle.std.proofs.Common.{◌≡◌, take}
use Rattle.otel_metrics.proofs.measure.copy_of.Given as goal

abbrev pub invariant-loop-attribute : goal.invariant-loop-attribute
invariant-loop-attribute l = l.copy ≡ take l.attribute-index l.attributes
