-- What lies below is asked first, and the layer leaves lanes as they are.
use Rattle.span_stack.proofs.worlds.NestsLemmas.{both_below, chain_below}
use Rattle.span_stack.proofs.worlds.ViewsLemmas.{replaced_below, has_below}
use Rattle.span_stack.proofs.through.calls.Goals as goal

pub returns : goal.returns
returns g c = record {
  call = λ never old new dispatch call r. replaced_below _ _ (λ s t d. both_below g.S.Subscriber.spans g.S.Subscriber.does g.L.Layer.does g.L.Layer.same_but_room g.L.Layer.attaches g.L.Layer.kept g.met.L.Layer.keeps_lanes never s.inner s.layer call t.inner t.layer d) old new dispatch r;
  same = λ old new dispatch r. replaced_below _ _ (λ s t d. d.0) old new dispatch r;
  chain = λ old new dispatch at id r. replaced_below _ _ (λ s t d. chain_below g.S.Subscriber.spans g.S.Subscriber.does _ (λ p n when q k. k.first) at _ s t d) old new dispatch r;
  whole = λ world dispatch has. has_below _ g.S.Subscriber.is_whole (λ s w. w.inner) world dispatch has;
}
