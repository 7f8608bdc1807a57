use Rattle.thread_lines.proofs.TextLemmas.{is_read, is_unread}
use Rattle.thread_lines.proofs.added.test_directives.Goals as goal
use Rattle.thread_lines.proofs.added.test_directives.Goals.{in-Ok, in-Err-Directive, in-Err-Memory}

pub returns-clause-directives : goal.returns-clause-directives
returns-clause-directives c = elim c.match-read.branch [
  | in-Ok w ↦ (let h = rw c.as_str.ensures at w.in-Ok.ensures.refused in rw w.result-is (is_read c.args.counting c.args.text.now h.0 h.1))
  | in-Err-Directive w ↦ (let h = rw (w.in-Err-Directive.field-0-is, c.as_str.ensures) at w.in-Err-Directive.ensures.refused in rw w.result-is (is_unread c.args.counting c.args.text.now w.in-Err-Directive.piece h.0 h.1))
  | in-Err-Memory w ↦ rw w.result-is tt
]
