-- What is left makes of the level so far what all make of the first.
use Rattle.std.proofs.Common.{◌≡◌, drop, length}
use Rattle.env_filter.proofs.Common.{all_asks, level_from}
use Rattle.env_filter.proofs.watch.level_from.Given as goal

abbrev pub invariant-loop-care : goal.invariant-loop-care
invariant-loop-care l = record {
  as_many : length l.rest ≡ length (all_asks (drop l.care-index l.cares));
  level : level_from l.now (drop l.care-index l.cares) l.rest ≡ level_from l.fn.level l.cares l.met;
}
