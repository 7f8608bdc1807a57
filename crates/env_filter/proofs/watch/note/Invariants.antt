-- What was passed is noted.
use Rattle.std.proofs.Common.{◌≡◌, take}
use Rattle.env_filter.proofs.Common.{more_met}
use Rattle.env_filter.proofs.watch.note.Given as goal

abbrev pub invariant-loop-at : goal.invariant-loop-at
invariant-loop-at l = l.met.items ≡ more_met l.initial.met.items (take l.at l.found)
