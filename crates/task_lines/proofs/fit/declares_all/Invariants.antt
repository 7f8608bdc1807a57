-- The fields that are left decide.
use Rattle.std.proofs.Common.{◌≡◌, drop}
use Rattle.trace_tasks.specs.FieldNames.{declares_all}
use Rattle.task_lines.proofs.fit.declares_all.Given as goal

abbrev pub invariant-loop-name : goal.invariant-loop-name
invariant-loop-name l = declares_all l.callsite (drop l.name-index l.fields) ≡ declares_all l.callsite l.fn.fields
