-- By the subscriber's laws.
use Rattle.span_stack.proofs.gate.room_leaves_spans.Goals as goal

pub returns : goal.returns
returns g c = λ s t h. record {
  spans_same = g.met.S.Subscriber.same_spans s t h;
  kept_same = g.met.S.Subscriber.same_kept s t h;
  attaches_same = g.met.S.Subscriber.same_attaches s t h;
  whole = g.met.S.Subscriber.same_whole s t h;
}
