-- The tracer that is lent out of a layer that counts events.
use Rattle.std.specs.Borrow.{Lends, MutBor, Fml, RattleType}
use Rattle.otel_layer.specs.contracts.counting.FilteredOpenTelemetryLayer.{the_row}
use Rattle.otel_layer.specs.declared.counting.FilteredOpenTelemetryLayer.{FilteredOpenTelemetryLayer}

module _ (T F : RattleType) where
  -- the layer inside ends with what is left behind the reference as its tracer
  abbrev pub LendsCountingTracer : MutBor (FilteredOpenTelemetryLayer T.Denot F.Denot) → MutBor T.Denot → Fml
  LendsCountingTracer layer r =
      Lends (the_row T F) T layer r (λ t. record layer.now { inner = record layer.now.inner { core = record layer.now.inner.core { tracer = t } } })
