use Rattle.std.proofs.Common.{◌≡◌, List, [], ◌∷◌, ◌++◌, refl, sym, ap, ◌∙◌, append_assoc}
use Rattle.std.specs.Vec.Iter.{into_iter_items}
use Rattle.trace_run.proofs.Common.{Request}
use Rattle.trace_run.proofs.MakingLemmas.{serves_on}
use Rattle.trace_run.proofs.script.make.serve_all.Goals as goal

pub loop-request-preserved : goal.loop-request-preserved
loop-request-preserved c h counts =
    let before = c.loop-request.invariant h counts in
    let done = before.0 in
    let step : into_iter_items c.loop-request.request-iterator ≡ c.in-Some.request ∷ into_iter_items c.next.new.self = c.in-Some.ensures.steps.0 in (
      done ++ c.in-Some.request ∷ [],
      append_assoc done (c.in-Some.request ∷ []) (into_iter_items c.next.new.self) ∙ ap (λ (rest : List Request). done ++ rest) (sym step) ∙ before.1,
      serves_on done (c.in-Some.request ∷ []) (done ++ c.in-Some.request ∷ []) h _ _ _ _ before.2 (c.in_ok-serve.ensures before.2.history before.2.counts) refl,
    )
