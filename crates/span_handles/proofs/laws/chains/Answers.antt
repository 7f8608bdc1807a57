-- By the trait's laws.
use Rattle.span_handles.proofs.ChangedSubscriberLemmas.{chain_shown}
use Rattle.span_handles.proofs.laws.chains.Goals as goal

pub returns : goal.returns
returns g c = λ old new dispatch at id. chain_shown g.S.Subscriber.spans g.S.Subscriber.attaches g.S.Subscriber.kept g.S.Subscriber.is_whole g.S.Subscriber.does g.met.S.Subscriber.allowed g.met.S.Subscriber.shows g.met.S.Subscriber.keeps_lanes g.met.S.Subscriber.keeps_attaches g.met.S.Subscriber.keeps_whole at old new dispatch id
