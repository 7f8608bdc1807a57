-- No more are known than there are entries.
use Rattle.std.proofs.Common.{arith}
use Rattle.otel_layer.proofs.Gaps.{within}
use Rattle.otel_layer.proofs.table.Table.len.Goals as goal

pub returns-clause-most : goal.returns-clause-most
returns-clause-most c =
    let most = within (λ s. s.span_data) c.self.inside.entries.items in
    let counts = c.self.invariant.counts in
    let long = c.self.inside.entries.ok.0 in
    let fits = c.self.inside.entries.ok.1 in
    let small = c.self.inside.entries.small in
    omega (arith, most, counts, long, fits, small)
