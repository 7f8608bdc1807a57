-- The last item's number is the one before the next.
use Rattle.std.proofs.Common.{arith, length, ◌-◌}
use Rattle.std.proofs.lemmas.Grind.{common_steps}
use Rattle.otel_base.proofs.Numbered.{last_number}
use Rattle.otel_base.proofs.stack.next_number.Goals as goal

pub returns-in-Some-clause-some : goal.returns-in-Some-clause-some
returns-in-Some-clause-some c = rw (last_number 0 c.args.items.now (length c.args.items.now - 1) c.in-Some.item.now (omega (arith, c.in-Some.ensures.item.3.0)) c.in-Some.ensures.item.1) (grind (arith, common_steps))

pub returns-in-Some-clause-none : goal.returns-in-Some-clause-none
returns-in-Some-clause-none c = rw (last_number 0 c.args.items.now (length c.args.items.now - 1) c.in-Some.item.now (omega (arith, c.in-Some.ensures.item.3.0)) c.in-Some.ensures.item.1) (grind (arith, common_steps))
