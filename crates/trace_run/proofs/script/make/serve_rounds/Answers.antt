use Rattle.std.proofs.Common.{◌≡◌, ◌+◌, List, [], ◌++◌, sym, ap, ◌∙◌, arith}
use Rattle.trace_run.proofs.Common.{Request, requests_of_round, requests_of_rounds}
use Rattle.trace_run.proofs.MakingLemmas.{serves_on, rounds_more}
use Rattle.trace_run.proofs.script.make.serve_rounds.Goals as goal

pub loop-i-preserved : goal.loop-i-preserved
loop-i-preserved c counts =
    let before = c.loop-i.invariant counts in
    let i = c.loop-i.i in
    let here : 0 + i ≡ i = omega arith in
    let next = c.in_ok-serve_all.ensures before.history before.counts in
    serves_on (requests_of_rounds 0 i) c.in_ok-requests.requests.items (requests_of_rounds 0 (i + 1)) [] _ _ _ _ before next
    (ap (λ (rs : List Request). requests_of_rounds 0 i ++ rs) (c.in_ok-requests.ensures ∙ ap requests_of_round (sym here)) ∙ sym (rounds_more 0 i))
