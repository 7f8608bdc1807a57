-- What is written for a script of tasks is of what its lines come to.
use Rattle.std.proofs.Common.{◌≡◌, ℕ, List, refl, sym, ap, ◌∙◌, inl, inr, Vec, Global}
use Rattle.std.specs.Prelude.{Option, Some, None, Result, Ok, Err, true, false, not, is_ok, IfOk, IfSome}
use Rattle.trace_lines.specs.text.Texts.{refusal_text}
use Rattle.input_lines.specs.declared.answer.Answer.{Answer}
use Rattle.input_lines.specs.declared.refused_line.RefusedLine.{RefusedLine}
use Rattle.input_lines.specs.Refusals.{Refuses, NoneRefused}
use Rattle.trace_tasks.specs.declared.script.TaskScript.{TaskScript}
use Rattle.task_runs.specs.Reading.{EndsAs, IsRefusedBy, IsStopped}
use Rattle.task_runs.specs.Scripts.{task_script_of}
use Rattle.task_runs.specs.Texts.{tasks_outcome, TellsOutcome, TellsTasks, accepts_tasks}

pub tells_outcome : (lines : List (List ℕ)) (script : TaskScript) (text : List ℕ) → EndsAs lines (Ok script) → TellsOutcome (tasks_outcome script) text → TellsTasks lines text
tells_outcome lines script text ends told = rw ends.0 told

pub accepted : (lines : List (List ℕ)) (script : TaskScript) → EndsAs lines (Ok script) → accepts_tasks lines ≡ true
accepted lines script ends = ap is_ok ends.0

-- ---- a refused line

pub answer_text : {E : Type 0} (lines : List (List ℕ)) (refused : RefusedLine) (r : Result Answer E) → EndsAs lines (Err refused)
    → IfOk r (λ a. a.text.items ≡ refusal_text refused.line refused.told) → IfOk r (λ a. TellsTasks lines a.text.items)
answer_text lines refused (Ok a) ends is = rw ends.0 is
answer_text lines refused (Err why) ends is = tt

pub answer_refused : {E : Type 0} (lines : List (List ℕ)) (refused : RefusedLine) (r : Result Answer E) → EndsAs lines (Err refused)
    → IfOk r (λ a. a.refused ≡ true) → IfOk r (λ a. accepts_tasks lines ≡ not a.refused)
answer_refused lines refused (Ok a) ends is = ap is_ok ends.0 ∙ sym (ap not is)
answer_refused lines refused (Err why) ends is = tt

-- ---- where the input breaks off

pub refuses : (lines : List (List ℕ)) (refused : RefusedLine) (text : List ℕ) → IsStopped lines refused → text ≡ refusal_text refused.line refused.told → Refuses accepts_tasks TellsTasks lines text
refuses lines refused text s is = record {
  some = s.some;
  refused = λ more. ap is_ok (s.lines_are more);
  whole = λ more. rw (s.lines_are more) is;
}

pub none_refused : (lines : List (List ℕ)) → IsRefusedBy lines None → NoneRefused accepts_tasks lines
none_refused lines (inl blank) = inl blank
none_refused lines (inr all) = inr (ap is_ok all.1)
