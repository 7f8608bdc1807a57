use Rattle.std.proofs.Common.{arith}
use Rattle.thread_lines.proofs.BalanceLemmas.{op_there}
use Rattle.thread_lines.proofs.worker_ops.test_and_count.Goals as goal

pub count_entry-requires : goal.count_entry-requires
count_entry-requires c =
    let there = op_there c.args.script.now c.args.before c.args.entered.now c.args.op c.in_ok-op.op c.in_ok-op.ensures in
    let len = c.requires in
    omega (arith, there, len)
