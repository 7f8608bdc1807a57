use Rattle.std.proofs.Common.{rules, ◌≡◌, ◌<◌, ◌++◌, [], ◌∷◌, ℕ, List, length, sym, ap, subst, ◌∙◌, IfOk}
use Rattle.trace_stream.proofs.Common.{lines_of, report_from, whole_lines}
use Rattle.trace_stream.proofs.ProgressLemmas.{lines_kept}
use Rattle.trace_stream.proofs.progress.Progress.end.Goals as goal

pub returns : goal.returns
returns c put front k =
    let some : 0 < length c.args.self.now.partial_line.items = search rules in
    let lines : lines_of front ≡ whole_lines front ++ c.as_slice.result.now ∷ [] =
    lines_kept front c.args.self.now.partial_line.items k.parts k.rest some ∙ ap (λ (l : List ℕ). whole_lines front ++ l ∷ []) (sym c.as_slice.ensures.value) in
    subst (λ (ls : List (List ℕ)). IfOk c.end-2.result (λ accepted. report_from c.args.signal 0 ls ≡ record { written = put ++ c.end-2.new.self.written.text.items; accepted = accepted })) (sym lines)
    (c.end-2.ensures put _ (c.in_ok-answer_line.ensures put (whole_lines front) k.answered))
