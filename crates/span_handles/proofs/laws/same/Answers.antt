-- By the trait's laws.
use Rattle.span_handles.proofs.ChangedSubscriberLemmas.{alike}
use Rattle.span_handles.proofs.laws.same.Goals as goal

pub returns : goal.returns
returns g c = alike g.S.Subscriber.spans g.S.Subscriber.attaches g.S.Subscriber.kept g.S.Subscriber.is_whole g.S.Subscriber.same_but_room g.met.S.Subscriber.same_spans g.met.S.Subscriber.same_attaches g.met.S.Subscriber.same_kept g.met.S.Subscriber.same_whole
