-- The part below is asked, where the outer one has no layer.
use Rattle.span_stack.proofs.worlds.NestsLemmas.{first_below}
use Rattle.span_stack.proofs.worlds.ViewsLemmas.{replaced_below, replaced_as}
use Rattle.span_stack.proofs.through.asks.Goals as goal

pub returns : goal.returns
returns g c = record {
  call = λ never old new dispatch call r. replaced_below _ _ (λ s t d. (first_below (g.L.OtelPart.has_layer s.layer) g.L.OtelPart.touches g.S.OtelPart.touches s.layer s.inner call t.layer t.inner (never s.layer) d).1) old new dispatch r;
  outer = λ never old new dispatch call r. replaced_as _ _ (λ s t d. (first_below (g.L.OtelPart.has_layer s.layer) g.L.OtelPart.touches g.S.OtelPart.touches s.layer s.inner call t.layer t.inner (never s.layer) d).0) old new dispatch r;
}
