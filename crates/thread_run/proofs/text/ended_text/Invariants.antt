-- The lines of the spans so far are written.
use Rattle.std.proofs.Common.{◌≡◌, ◌++◌, drop}
use Rattle.thread_run.specs.Texts.{spans_text}
use Rattle.thread_run.proofs.text.ended_text.Given as goal

abbrev pub invariant-loop-place : goal.invariant-loop-place
invariant-loop-place l = l.out.items ++ spans_text l.place (drop l.place l.ended) ≡ spans_text 0 l.ended
