-- The texts so far have been copied.
use Rattle.std.proofs.Common.{◌≡◌, take}
use Rattle.otel_state.proofs.fields.copy_of.Given as goal

abbrev pub invariant-loop-text : goal.invariant-loop-text
invariant-loop-text l = l.copy ≡ take l.text-index l.items
