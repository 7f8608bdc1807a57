-- A filter hears at each call the hook of that call.
use Rattle.span_stack.proofs.hooks.HeardSpansLemmas.{one_call, one_chain, one_room}
use Rattle.span_stack.proofs.filters.calls.Goals as goal

pub returns : goal.returns
returns g c = record {
  call = λ old new dispatch call r. one_call g.S.Subscriber.spans g.S.Subscriber.does g.S.Subscriber.attaches g.S.Subscriber.kept g.met.S.Subscriber.allowed g.met.S.Subscriber.shows g.met.S.Subscriber.keeps_lanes old new dispatch call r;
  same = λ old new dispatch r. one_room g.S.Subscriber.same_but_room old new dispatch r;
  chain = λ old new dispatch at id r. one_chain g.S.Subscriber.spans g.S.Subscriber.does g.S.Subscriber.attaches g.S.Subscriber.kept g.met.S.Subscriber.allowed g.met.S.Subscriber.shows g.met.S.Subscriber.keeps_lanes at old new dispatch id r;
}
