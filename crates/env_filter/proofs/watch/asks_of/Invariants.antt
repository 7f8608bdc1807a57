-- With what the fields that are left ask it is what all ask.
use Rattle.std.proofs.Common.{◌≡◌, ◌++◌, drop}
use Rattle.env_filter.proofs.Common.{asks_of}
use Rattle.env_filter.proofs.watch.asks_of.Given as goal

abbrev pub invariant-loop-at : goal.invariant-loop-at
invariant-loop-at l = l.asks.items ++ asks_of l.callsite (drop l.at l.fields) ≡ asks_of l.callsite l.fields
