-- What the closure answers, which counts where there is a filter.
use Rattle.std.proofs.Common.{ap, ◌∙◌}
use Rattle.otel_layer.specs.Core.{CoreWithRoom}
use Rattle.otel_layer.specs.Counting.{counting_core}
use Rattle.otel_layer.proofs.counting.FilteredOpenTelemetryLayer.map_inner.Goals as goal

pub returns-clause-core : goal.returns-clause-core
returns-clause-core g c = (c.map.result, c.map.ensures, ap (λ (l : CoreWithRoom g.row.U.Denot). l.core) c.with_counting.ensures.value ∙ ap (λ b. counting_core b c.map.result.core) c.is_some.ensures)
