-- The pass knows what it knew, and the item is the same.
use Rattle.std.proofs.Common.{◌≡◌}
use Rattle.crossbeam_queue.specs.Passes.{view, IsPassOf}
use Rattle.trace_batch.proofs.sender.push.Given as goal

abbrev pub invariant-loop : goal.invariant-loop
invariant-loop g l = IsPassOf l.queue l.pass × (view l.pass ≡ view l.initial.pass) × (l.item ≡ l.initial.item)
