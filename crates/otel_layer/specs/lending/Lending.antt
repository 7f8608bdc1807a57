-- The tracer that is lent out of a layer.
use Rattle.std.specs.Borrow.{Lends, MutBor, Fml, RattleType}
use Rattle.otel_layer.specs.contracts.layer.OpenTelemetryLayer.{the_row}
use Rattle.otel_layer.specs.Core.{CoreWithRoom}

module _ (T : RattleType) where
  -- the layer ends with what is left behind the reference as its tracer
  abbrev pub LendsTracer : MutBor (CoreWithRoom T.Denot) → MutBor T.Denot → Fml
  LendsTracer layer r = Lends (the_row T) T layer r (λ t. record layer.now { core = record layer.now.core { tracer = t } })
