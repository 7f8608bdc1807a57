-- None of the values that were passed meets what is asked.
use Rattle.std.proofs.Common.{◌≡◌, take, false, ◌==◌, ◌&&◌}
use Rattle.env_filter.proofs.Common.{list_any, meets}
use Rattle.env_filter.proofs.watch.is_given.Given as goal

abbrev pub invariant-loop-pair : goal.invariant-loop-pair
invariant-loop-pair l = list_any (λ pair. pair.0 == l.ask.place && meets l.ask.value pair.1) (take l.pair-index l.values) ≡ false
