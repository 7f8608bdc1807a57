use Rattle.std.proofs.Common.{arith, sym, length, ◌-◌}
use Rattle.thread_lines.proofs.RunnableLemmas.{last_is}
use Rattle.thread_lines.proofs.added.last_shared_moment.Goals as goal

pub returns-in-Some : goal.returns-in-Some
returns-in-Some c = sym (last_is c.args.shared.now (length c.args.shared.now - 1) c.in-Some.line.now (omega (arith, c.in-Some.ensures.item.3.0)) c.in-Some.ensures.item.1)
