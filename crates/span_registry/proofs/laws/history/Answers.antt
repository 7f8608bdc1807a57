-- By the trait's laws.
use Rattle.span_registry.proofs.SpanCountLemmas.{history}
use Rattle.span_registry.proofs.laws.history.Goals as goal

pub returns : goal.returns
returns g c = history g.S.Subscriber.spans g.S.Subscriber.does g.S.Subscriber.same_but_room g.met.S.Subscriber.same_spans g.met.S.Subscriber.allowed g.met.S.Subscriber.shows
