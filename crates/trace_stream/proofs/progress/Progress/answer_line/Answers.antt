use Rattle.std.proofs.Common.{rules, ◌≡◌, ◌++◌, [], ◌∷◌, ℕ, List, length, subst, ◌∙◌}
use Rattle.trace_stream.proofs.Common.{nil_from_length, AnswersTo, whole_lines}
use Rattle.trace_stream.proofs.ProgressLemmas.{ended, ended_whole, on_ok_then}
use Rattle.trace_stream.proofs.progress.Progress.answer_line.Goals as goal

pub returns-then-is_empty : goal.returns-then-is_empty
returns-then-is_empty c put front k =
    let size : length c.args.self.now.partial_line.items ≡ 0 = search rules in
    let none : c.args.self.now.partial_line.items ≡ [] = nil_from_length c.args.self.now.partial_line.items size in
    on_ok_then c.answer_line.result (ended_whole c.args.signal put front c.args.line.now c.args.self.now c.answer_line.new.self k c.requires none)
    (c.answer_line.ensures put (whole_lines front) k.answered)

pub returns : goal.returns
returns c put front k =
    ended c.args.signal put front c.args.line.now c.args.self.now _ k c.requires c.clear.ensures.items
    (subst (λ (l : List ℕ). AnswersTo c.args.signal put (whole_lines front ++ l ∷ []) c.answer_line-2.new.self) (c.as_slice.ensures.value ∙ c.in_ok-extend_from_slice.ensures.items)
    (c.in_ok-answer_line.ensures put (whole_lines front) k.answered))
