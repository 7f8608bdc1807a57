-- What is summed, and what is to be, are all.
use Rattle.std.proofs.Common.{◌≡◌, ◌+◌, drop}
use Rattle.std.specs.List.{sum_by}
use Rattle.trace_run.proofs.Common.{busy_in}
use Rattle.trace_run.proofs.script.make.busy_of.Given as goal

abbrev pub invariant-loop-attribute : goal.invariant-loop-attribute
invariant-loop-attribute l = l.busy + sum_by busy_in (drop l.attribute-index l.fn.finished.attributes) ≡ sum_by busy_in l.fn.finished.attributes
