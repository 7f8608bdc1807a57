-- By the subscriber's laws.
use Rattle.span_stack.proofs.worlds.FreshInterestsLemmas.{fresh_later, chain_keeps}
use Rattle.span_stack.proofs.interests.stay_fresh.Goals as goal

pub returns : goal.returns
returns g c = record {
  call = λ old new dispatch call r. fresh_later g.S.Subscriber.interest _ (λ s t d. (g.met.S.Subscriber.keeps_gate s call t d).0) old new dispatch r;
  same = λ old new dispatch r. fresh_later g.S.Subscriber.interest _ (λ s t h. (g.met.S.Subscriber.same_gate s t h).0) old new dispatch r;
  chain = λ old new dispatch at id r. fresh_later g.S.Subscriber.interest _ (λ s t d. chain_keeps g.S.Subscriber.spans g.S.Subscriber.does g.S.Subscriber.interest (λ p k q e. (g.met.S.Subscriber.keeps_gate p k q e).0) at _ s t d) old new dispatch r;
}
