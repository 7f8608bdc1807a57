-- One line more is read, and the lines end.
use Rattle.std.proofs.Common.{◌≡◌, ℕ, List, [], ◌∷◌, ◌++◌, refl, sym, ap, ◌∙◌, append_assoc, ◌+◌, inl, inr}
use Rattle.std.specs.Prelude.{Option, Some, None, Result, Ok, Err, OnOk, true, false, Bool}
use Rattle.std.specs.List.{All}
use Rattle.std.proofs.lemmas.List.{append-nil}
use Rattle.std.proofs.lemmas.List.Elements.{All-nil, All-cons, All-append}
use Rattle.span_script.specs.declared.settings.Settings.{Settings}
use Rattle.trace_lines.specs.declared.told.Told.{Told}
use Rattle.trace_lines.specs.declared.told.Told.TheVariants as told
use Rattle.trace_lines.specs.Lines.{is_blank}
use Rattle.input_lines.specs.declared.refused_line.RefusedLine.{RefusedLine}
use Rattle.input_lines.specs.Refusals.{HasRefusalLine, are_blank}
use Rattle.input_lines.proofs.BlankLemmas.{some_before, all_blank, one_not_blank}
use Rattle.trace_tasks.specs.declared.script.Task.{Task}
use Rattle.trace_tasks.specs.declared.script.TaskScript.{TaskScript}
use Rattle.task_runs.specs.declared.script.ReadStage.{ReadStage}
use Rattle.task_runs.specs.declared.script.ReadStage.TheVariants as stage
use Rattle.task_lines.specs.Fit.{missing_name}
use Rattle.task_runs.specs.Scripts.{TaskScriptResult, settings_on, task_on, task_script_on, task_script_from, task_script_of}
use Rattle.task_runs.specs.Reading.{CanOpen, IsFit, IsOpening, IsReading, IsStopped, StandsAt, IsRefusedBy, EndsAs}

-- what holds behind one line more
on_line : (lines more : List (List ℕ)) (line : List ℕ) (r : TaskScriptResult) → task_script_of (lines ++ line ∷ more) ≡ r → task_script_of ((lines ++ line ∷ []) ++ more) ≡ r
on_line lines more line r is = ap task_script_of (append_assoc lines (line ∷ []) more) ∙ is

-- no line changes what came of a refused line
pub stays_stopped : (lines more : List (List ℕ)) (refused : RefusedLine) → IsStopped lines refused → IsStopped (lines ++ more) refused
stays_stopped lines more refused s = record {
  some = some_before lines more s.some;
  is_told = s.is_told;
  lines_are = λ later. ap task_script_of (append_assoc lines more later) ∙ s.lines_are (more ++ later);
}

-- the settings line
pub opened_on : (lines : List (List ℕ)) (count next : ℕ) (line : List ℕ) (settings : Settings) → IsOpening lines count → next ≡ count + 1 → is_blank line ≡ false → settings_on line ≡ Ok settings → CanOpen settings
    → IsReading (lines ++ line ∷ []) next (record { settings = settings; tasks = [] })
opened_on lines count next line settings o counted is reads opens = record {
  some = one_not_blank lines line o.blank is;
  fit = record { opens = opens; tasks = All-nil (λ task. missing_name settings task ≡ None) };
  lines_are = λ more. on_line lines more line _ (o.lines_are (line ∷ more) ∙ rw (is, reads, counted) refl);
}

-- a task line
pub task_read_on : (lines : List (List ℕ)) (count next : ℕ) (line : List ℕ) (old new : TaskScript) (task : Task) → IsReading lines count old → next ≡ count + 1 → is_blank line ≡ false → task_on old.settings line ≡ Ok task → missing_name old.settings task ≡ None
    → new.settings ≡ old.settings → new.tasks ≡ old.tasks ++ task ∷ [] → IsReading (lines ++ line ∷ []) next new
task_read_on lines count next line old new task r counted is reads fits settings tasks = rw (settings, tasks) (record {
  some = some_before lines (line ∷ []) r.some;
  fit = record { opens = r.fit.opens; tasks = All-append (λ t. missing_name old.settings t ≡ None) old.tasks (task ∷ []) r.fit.tasks (All-cons (λ t. missing_name old.settings t ≡ None) task [] fits (All-nil (λ t. missing_name old.settings t ≡ None))) };
  lines_are = λ more. on_line lines more line _ (r.lines_are (line ∷ more) ∙ rw (is, reads, counted) refl);
})

-- what holds where a task was pushed
pub on_ok : {A E : Type 0} (r : Result A E) (P : TaskScript → Type 0) (new : TaskScript) {Q : Type 0} → (Q → P new) → OnOk r Q → OnOk r (P new)
on_ok (Ok x) P new go holds = go holds
on_ok (Err why) P new go holds = tt

-- ---- the end of the lines

with_none : (lines : List (List ℕ)) → task_script_of lines ≡ task_script_of (lines ++ [])
with_none lines = ap task_script_of (sym (append-nil lines))

pub opening_end : (lines : List (List ℕ)) (count next : ℕ) → IsOpening lines count → next ≡ count + 1 → EndsAs lines (Err (record { line = next; told = told.BadLine }))
opening_end lines count next o counted = (with_none lines ∙ o.lines_are [] ∙ rw counted refl, λ is. cc)

pub reading_end : (lines : List (List ℕ)) (count : ℕ) (script : TaskScript) → IsReading lines count script → EndsAs lines (Ok script)
reading_end lines count script r = (with_none lines ∙ r.lines_are [], r.fit)

pub stopped_end : (lines : List (List ℕ)) (refused : RefusedLine) → IsStopped lines refused → EndsAs lines (Err refused)
stopped_end lines refused s = (with_none lines ∙ s.lines_are [], s.is_told)

pub reading_refuses_none : (lines : List (List ℕ)) (count : ℕ) (script : TaskScript) → IsReading lines count script → IsRefusedBy lines None
reading_refuses_none lines count script r = inr (script, with_none lines ∙ r.lines_are [])
