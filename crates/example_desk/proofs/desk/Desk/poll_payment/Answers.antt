-- What a poll inside the payment's span did.
use Rattle.traced_futures.proofs.Programs.{refl, arith, may_lend, future_polled}
use Rattle.example_desk.proofs.desk.Desk.poll_payment.Goals as goal

pub poll-polled-requires-clause-lends : goal.poll-polled-requires-clause-lends
poll-polled-requires-clause-lends g c = may_lend c.requires.ready.ready

pub returns-clause-keeps : goal.returns-clause-keeps
returns-clause-keeps g c = (future_polled c.requires.ready c.poll-polled.ensures.polls c.poll-polled.ensures.span (omega arith), refl)
