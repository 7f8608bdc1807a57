-- Those that care of the directives that were passed.
use Rattle.std.proofs.Common.{◌≡◌, take}
use Rattle.env_filter.proofs.Common.{cares_of}
use Rattle.env_filter.proofs.watch.cares_of.Given as goal

abbrev pub invariant-loop-directive : goal.invariant-loop-directive
invariant-loop-directive l = l.cares.items ≡ cares_of l.callsite (take l.directive-index l.directives)
