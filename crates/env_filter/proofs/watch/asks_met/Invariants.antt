-- What was found of those that were passed.
use Rattle.std.proofs.Common.{◌≡◌, take}
use Rattle.env_filter.proofs.Common.{found_in}
use Rattle.env_filter.proofs.watch.asks_met.Given as goal

abbrev pub invariant-loop-care : goal.invariant-loop-care
invariant-loop-care l = l.found.items ≡ found_in l.values (take l.care-index l.cares)
