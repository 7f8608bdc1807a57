-- What is given has the order's moment.
use Rattle.traced.proofs.Programs.{arith, ready_late}
use Rattle.example_shop.proofs.take_order.Goals as goal

pub returns-in_err-given : goal.returns-in_err-given
returns-in_err-given c = ready_late c.requires.ready (omega arith)

pub order-requires : goal.order-requires
order-requires c = ready_late c.requires.ready (omega (arith, c.in_ok-given.ensures))

pub returns : goal.returns
returns c = ready_late c.order.ensures.ends.keeps.ready (omega (arith, c.in_ok-given.ensures))
