-- The callsites that were passed are added, and no subscriber is.
use Rattle.std.proofs.Common.{◌≡◌, ◌++◌, length}
use Rattle.trace_pipeline.proofs.opening.add_sites.Given as goal

abbrev pub invariant-loop-callsite : goal.invariant-loop-callsite
invariant-loop-callsite g l = record {
  sites : (l.world.sites ++ l.callsite-iterator.rest.items) ≡ l.fn.world.sites ++ l.fn.callsites.items;
  subscribers : length l.world.subscribers ≡ length l.fn.world.subscribers;
}
