-- The layer hears at each call the hook of that call.
use Rattle.span_stack.proofs.hooks.GaugesLemmas.{one_call, one_chain, one_room}
use Rattle.span_stack.proofs.measured.calls.Goals as goal

pub returns : goal.returns
returns g c = record {
  call = λ old new dispatch call r. one_call g.S.Subscriber.spans g.S.Subscriber.does g.S.Subscriber.attaches g.S.Subscriber.kept g.met.S.Subscriber.keeps_lanes old new dispatch call r;
  same = λ old new dispatch r. one_room g.S.Subscriber.same_but_room old new dispatch r;
  chain = λ old new dispatch at id r. one_chain g.S.Subscriber.spans g.S.Subscriber.does at old new dispatch id r;
}
