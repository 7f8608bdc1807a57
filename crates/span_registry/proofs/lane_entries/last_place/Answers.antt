-- Past the loop the span stands nowhere, and it has to.
use Rattle.std.proofs.Common.{arith, ◌==◌}
use Rattle.span_registry.proofs.Lanes.{none_in}
use Rattle.span_registry.proofs.Common.{any_if_counted}
use Rattle.span_registry.proofs.lane_entries.last_place.Goals as goal

pub returns-clause-passes : goal.returns-clause-passes
returns-clause-passes c = absurd (none_in c.args.ids.now c.args.id (λ k within. c.loop-above.invariant.passed k (omega arith) within) (any_if_counted (λ x. x == c.args.id) c.args.ids.now c.requires))
