-- Those that were passed are fixed, and the others are as they were.
use Rattle.std.proofs.Common.{◌≡◌, ◌++◌, take, drop, map}
use Rattle.env_filter.proofs.Common.{fixed_field}
use Rattle.env_filter.proofs.tables.fix.Given as goal

abbrev pub invariant-loop-at : goal.invariant-loop-at
invariant-loop-at l = l.fields.items ≡ map fixed_field (take l.at l.initial.fields.items) ++ drop l.at l.initial.fields.items
