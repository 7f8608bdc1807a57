-- The values so far are those of the fields that were passed.
use Rattle.std.proofs.Common.{◌≡◌, ◌++◌, filter_map}
use Rattle.trace_tasks.proofs.Common.{declared_value}
use Rattle.trace_tasks.proofs.fields.values_of.Given as goal

abbrev pub invariant-loop-name : goal.invariant-loop-name
invariant-loop-name l = (l.pairs.items ++ filter_map (declared_value l.fn.callsite) l.name-iterator.rest.items) ≡ filter_map (declared_value l.fn.callsite) l.fn.fields
