-- The laws of others.
use Rattle.trace_pipeline.proofs.laws.of_any.Goals as goal

pub returns : goal.returns
returns g c = record { calls = c.calls.ensures; alike = c.same.ensures; chains = c.chains.ensures; asks = c.asks_leave_spans.ensures }
