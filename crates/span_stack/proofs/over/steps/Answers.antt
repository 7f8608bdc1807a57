-- By the laws of what lies below each outer layer, of these layers, and of the interests.
use Rattle.std.proofs.Common.{refl}
use Rattle.span_stack.proofs.Common.{inner_worlds}
use Rattle.span_stack.proofs.worlds.NestsLemmas.{attaches_none}
use Rattle.span_stack.proofs.over.steps.Goals as goal

pub returns : goal.returns
returns g c = record {
  calls = λ old new dispatch call r. (
      let under = c.calls.ensures.call (λ l. attaches_none l.inner) old new dispatch call r in
      record {
        inner = c.calls-2.ensures.call (λ l. refl) (inner_worlds old) (inner_worlds new) dispatch call under;
        filter = c.calls-3.ensures.call old new dispatch call r;
        measures = c.calls-4.ensures.call (inner_worlds old) (inner_worlds new) dispatch call under;
        fresh = c.stay_fresh.ensures.call old new dispatch call r;
      });
  same = λ old new dispatch r. (
      let under = c.calls.ensures.same old new dispatch r in
      record {
        inner = c.calls-2.ensures.same (inner_worlds old) (inner_worlds new) dispatch under;
        filter = c.calls-3.ensures.same old new dispatch r;
        measures = c.calls-4.ensures.same (inner_worlds old) (inner_worlds new) dispatch under;
        fresh = c.stay_fresh.ensures.same old new dispatch r;
      });
  chains = λ old new dispatch at id r. (
      let under = c.calls.ensures.chain old new dispatch at id r in
      record {
        inner = c.calls-2.ensures.chain (inner_worlds old) (inner_worlds new) dispatch at id under;
        filter = c.calls-3.ensures.chain old new dispatch at id r;
        measures = c.calls-4.ensures.chain (inner_worlds old) (inner_worlds new) dispatch at id under;
        fresh = c.stay_fresh.ensures.chain old new dispatch at id r;
      });
  asks = λ old new dispatch call r. (
      let under = c.asks.ensures.call (λ l. refl) old new dispatch call r in
      record {
        inner = c.asks-2.ensures.call (λ l. refl) (inner_worlds old) (inner_worlds new) dispatch call under;
        filter = c.asks.ensures.outer (λ l. refl) old new dispatch call r;
        measures = c.asks-2.ensures.outer (λ l. refl) (inner_worlds old) (inner_worlds new) dispatch call under;
      });
}
