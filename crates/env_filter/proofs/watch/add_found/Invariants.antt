-- What was found of those that were passed is added.
use Rattle.std.proofs.Common.{◌≡◌, ◌++◌, take, map}
use Rattle.env_filter.proofs.Common.{is_given}
use Rattle.env_filter.proofs.watch.add_found.Given as goal

abbrev pub invariant-loop-ask : goal.invariant-loop-ask
invariant-loop-ask l = l.found.items ≡ l.fn.found.items ++ map (is_given l.values) (take l.ask-index l.asks)
