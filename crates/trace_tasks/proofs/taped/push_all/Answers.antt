-- One request more.
use Rattle.std.proofs.Common.{◌≡◌, ◌∷◌, ◌++◌, ◌∙◌, [], List, append_assoc, sym, ap, refl, reverse}
use Rattle.std.proofs.lemmas.List.{reverse-append, reverse-reverse}
use Rattle.trace_tasks.proofs.Common.{Request}
use Rattle.trace_tasks.proofs.tapes.HandingOnLemmas.{takes_after}
use Rattle.trace_tasks.proofs.taped.push_all.Goals as goal

pub loop-request-init : goal.loop-request-init
loop-request-init g c = ([], ap reverse c.reverse.ensures.items ∙ reverse-reverse c.args.requests.now.items, refl)

pub loop-request-preserved : goal.loop-request-preserved
loop-request-preserved g c =
    let last : c.loop-request.requests.items ≡ c.pop.new.self.items ++ c.in-Some.request ∷ [] = c.in-Some.ensures.items in
    let first : reverse c.loop-request.requests.items ≡ c.in-Some.request ∷ reverse c.pop.new.self.items = ap reverse last ∙ reverse-append c.pop.new.self.items (c.in-Some.request ∷ []) in
    let done : List Request = c.loop-request.invariant.0 in (
      done ++ c.in-Some.request ∷ [],
      append_assoc done (c.in-Some.request ∷ []) (reverse c.pop.new.self.items) ∙ ap (λ (rs : List Request). done ++ rs) (sym first) ∙ c.loop-request.invariant.1,
      takes_after g.K.RequestSink.takes done (c.in-Some.request ∷ []) c.args.sink.now c.loop-request.sink c.push.new.self c.loop-request.invariant.2 (c.push.new.self, c.in_ok-push.ensures, refl),
    )
