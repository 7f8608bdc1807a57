-- A span is known where it has an entry.
use Rattle.std.proofs.Common.{ap, ◌∙◌}
use Rattle.otel_layer.proofs.Common.{knows_span, all_data}
use Rattle.otel_layer.proofs.table.Table.knows.Goals as goal

pub returns : goal.returns
returns c =
    c.is_known.ensures ∙ ap (λ xs. knows_span c.args.id (all_data xs)) c.as_slice.ensures.value ∙ ap (λ s. knows_span c.args.id s.spans) c.self.view_is
