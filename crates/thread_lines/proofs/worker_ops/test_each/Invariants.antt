-- The calls that passed, in front of those that are to be tested.
use Rattle.std.proofs.Common.{◌≡◌, length, []}
use Rattle.thread_lines.specs.Steps.{ops_tested}
use Rattle.thread_lines.proofs.TestedLemmas.{in_front}
use Rattle.thread_lines.proofs.worker_ops.test_each.Given as goal

abbrev pub invariant-loop-op : goal.invariant-loop-op
invariant-loop-op l = record {
  len : length l.entered ≡ length l.fn.script.shared;
  tested : in_front l.tested (ops_tested l.fn.script l.before l.entered l.op-iterator.rest.items) ≡ in_front [] (ops_tested l.fn.script l.fn.made_at l.initial.entered l.fn.ops);
}
