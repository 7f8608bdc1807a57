-- The pass is still its lane's sender's, and the item is of that lane.
use Rattle.std.proofs.Common.{◌∙◌, ap}
use Rattle.trace_batch.specs.declared.item.Sent.{Sent}
use Rattle.trace_batch.proofs.Steps.{puts, nothing}
use Rattle.trace_batch.proofs.sender.push.Goals as goal

pub push_as-requires-clause-rule : goal.push_as-requires-clause-rule
push_as-requires-clause-rule g c =
    (puts _ _ _ c.args.item.lane c.requires.lane.0 _ (c.loop.invariant.1 ∙ c.requires.lane.1) (ap (λ (s : Sent). s.lane) c.loop.invariant.2), nothing _ _)
