-- By the trait's laws.
use Rattle.span_handles.proofs.ToldClosesLemmas.{told_world}
use Rattle.span_handles.proofs.laws.chain_changes.Goals as goal

pub returns : goal.returns
returns g c = λ read none close tells old new dispatch at id. told_world g.S.Subscriber.spans g.S.Subscriber.does g.met.S.Subscriber.allowed g.met.S.Subscriber.shows read none close tells at old new dispatch id
