-- A number that has no value.
use Rattle.std.proofs.Common.{rules}
use Rattle.sparse_slots.proofs.SlotsLemmas.{none_taken}
use Rattle.sparse_slots.proofs.Slots.take.Goals as goal

pub returns-then-place-eq0-clause-spent : goal.returns-then-place-eq0-clause-spent
returns-then-place-eq0-clause-spent g c = search (rules, none_taken)
