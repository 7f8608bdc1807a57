-- The second poll, where the first didn't find it made.
use Rattle.traced_futures.proofs.Programs.{inr}
use Rattle.example_desk.proofs.desk.Desk.ask_twice.Goals as goal

pub returns-else-made-clause-asks_twice : goal.returns-else-made-clause-asks_twice
returns-else-made-clause-asks_twice g c = inr (c.poll_payment-made.new.payment, c.poll_payment-made.new.self, rw c.if-made.false at c.poll_payment-made.ensures.asks, c.poll_payment.ensures.asks)
