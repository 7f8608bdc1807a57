-- A span is made, and its parent set; what is done inside leaves all as it was, and the span is closed.
use Rattle.traced_futures.proofs.Programs.{arith, close_asked, with_asked, ends_unmade, ends_asked}
use Rattle.example_desk.proofs.desk.Desk.order.Goals as goal

pub returns-in_err-order-clause-ends : goal.returns-in_err-order-clause-ends
returns-in_err-order-clause-ends g c = ends_unmade c.requires c.in_err-order.ensures c.from_residual.ensures.0 (omega arith)

pub inside-told-requires : goal.inside-told-requires
inside-told-requires g c = with_asked c.requires c.in_ok-order.ensures c.set_parent.ensures.stays (omega arith)

pub close-requires : goal.close-requires
close-requires g c = close_asked c.requires c.in_ok-order.ensures c.set_parent.ensures.stays c.inside-told.ensures.ends.keeps

pub returns-clause-ends : goal.returns-clause-ends
returns-clause-ends g c = ends_asked c.requires c.in_ok-order.ensures c.set_parent.ensures.stays c.inside-told.ensures.ends c.close.ensures.closes (omega arith) (λ inside. (c.set_parent.new.world, c.set_parent.result, c.set_parent.ensures.asks, inside))
