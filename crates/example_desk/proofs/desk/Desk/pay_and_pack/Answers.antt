-- A payment, and then a packing.
use Rattle.traced_futures.proofs.Programs.{ends_turned}
use Rattle.example_desk.proofs.desk.Desk.pay_and_pack.Goals as goal

pub returns-clause-ends : goal.returns-clause-ends
returns-clause-ends g c = ends_turned c.pay.ensures.ends.keeps c.pack.ensures.ends (λ packs. (c.pay.new.self, c.pay.ensures.back, c.pay.ensures.ends.did c.in_ok-pay.was, c.pack.ensures.front, packs))
