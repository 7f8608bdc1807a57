-- The callsites that were passed.
use Rattle.std.proofs.Common.{◌≡◌, take}
use Rattle.task_runs.proofs.copies.copied_callsites.Given as goal

abbrev pub invariant-loop-callsite : goal.invariant-loop-callsite
invariant-loop-callsite l = l.copy.items ≡ take l.callsite-index l.callsites
