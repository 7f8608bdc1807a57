use Rattle.otel_metrics.proofs.Fronts.{stripped}
use Rattle.otel_metrics.proofs.family.behind.Goals as goal

pub returns : goal.returns
returns c = stripped _ _ _ c.strip_prefix.ensures.cases
