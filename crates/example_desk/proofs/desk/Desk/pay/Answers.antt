-- A span is made, polls inside it leave all as it was, and it is closed. An event changes nothing that is read.
use Rattle.traced_futures.proofs.Programs.{refl, arith, tell_closed, ends_unmade, ends_done, ends_then_told, with_instrumented, keeps_under, runs_under}
use Rattle.example_desk.proofs.desk.Desk.pay.Goals as goal

pub returns-in_err-span-clause-ends : goal.returns-in_err-span-clause-ends
returns-in_err-span-clause-ends g c = ends_unmade c.requires c.in_err-span.ensures c.from_residual.ensures.0 (omega arith)

pub ask_twice-made-requires : goal.ask_twice-made-requires
ask_twice-made-requires g c = with_instrumented c.requires c.in_ok-span.ensures c.instrument-payment.ensures (omega arith)

pub event-requires : goal.event-requires
event-requires g c = tell_closed c.ask_twice-made.ensures.keeps.0.keeps c.into_inner.ensures.closes (omega arith)

pub returns-then-made-clause-ends : goal.returns-then-made-clause-ends
returns-then-made-clause-ends g c = ends_then_told (keeps_under c.requires c.in_ok-span.ensures c.instrument-payment.ensures c.ask_twice-made.ensures.keeps.0 c.into_inner.ensures.closes) c.event.ensures (omega arith)
    (λ tells. (c.ask_twice-made.result, c.into_inner.new.world, runs_under c.requires c.in_ok-span.ensures c.instrument-payment.ensures c.ask_twice-made.ensures.keeps.0 c.into_inner.ensures.closes c.ask_twice-made.ensures.asks_twice, rw c.if-made.true tells))

pub returns-else-made-clause-ends : goal.returns-else-made-clause-ends
returns-else-made-clause-ends g c = ends_done (keeps_under c.requires c.in_ok-span.ensures c.instrument-payment.ensures c.ask_twice-made.ensures.keeps.0 c.into_inner.ensures.closes) (omega arith)
    (c.ask_twice-made.result, c.into_inner.new.world, runs_under c.requires c.in_ok-span.ensures c.instrument-payment.ensures c.ask_twice-made.ensures.keeps.0 c.into_inner.ensures.closes c.ask_twice-made.ensures.asks_twice, rw c.if-made.false refl)
