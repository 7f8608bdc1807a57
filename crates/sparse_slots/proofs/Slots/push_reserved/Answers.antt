-- The value that was given a number.
use Rattle.std.proofs.Common.{rules}
use Rattle.sparse_slots.proofs.SlotsLemmas.{kept_linked, kept_items}
use Rattle.sparse_slots.proofs.Slots.push_reserved.Goals as goal

pub invariant_of-self : goal.invariant_of-self
invariant_of-self g c = search (rules, kept_linked)

pub returns : goal.returns
returns g c = search (rules, kept_items)
