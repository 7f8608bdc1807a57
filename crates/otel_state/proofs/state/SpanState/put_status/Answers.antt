-- A status that is less leaves the one that is there.
use Rattle.std.proofs.Common.{ap, rules}
use Rattle.otel_base.specs.declared.status.Status.{Status}
use Rattle.otel_state.proofs.StatusOrderLemmas.{less_leaves}
use Rattle.otel_state.proofs.state.SpanState.put_status.Goals as goal

pub returns-else-ge-clause-span_data : goal.returns-else-ge-clause-span_data
returns-else-ge-clause-span_data c =
    ap (λ (s : Status). record c.args.self.now.span_data { status = s }) (less_leaves c.args.self.now.span_data.status c.args.status (search rules))
