-- What is cached is what is registered.
use Rattle.trace_base.proofs.InterestLemmas.{fresh_admits}
use Rattle.trace_base.proofs.laws.fresh.Goals as goal

pub returns : goal.returns
returns g c = fresh_admits g.S.Subscriber.interest g.S.Subscriber.hint g.S.Subscriber.enables
