use Rattle.std.proofs.Common.{arith, sym, length, ◌-◌}
use Rattle.thread_work.proofs.PreparedLemmas.{last_is}
use Rattle.thread_work.proofs.prepare.last_moment.Goals as goal

pub returns-in-Some : goal.returns-in-Some
returns-in-Some c = sym (last_is c.args.ops.now (length c.args.ops.now - 1) c.in-Some.op.now (omega (arith, c.in-Some.ensures.item.3.0)) c.in-Some.ensures.item.1)
