-- By the trait's laws.
use Rattle.span_handles.proofs.ChangedSubscriberLemmas.{shown}
use Rattle.span_handles.proofs.laws.calls.Goals as goal

pub returns : goal.returns
returns g c = shown g.S.Subscriber.spans g.S.Subscriber.attaches g.S.Subscriber.kept g.S.Subscriber.is_whole g.S.Subscriber.does g.met.S.Subscriber.shows g.met.S.Subscriber.keeps_lanes g.met.S.Subscriber.keeps_attaches g.met.S.Subscriber.keeps_whole
