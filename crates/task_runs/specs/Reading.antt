-- What a reader stands for that has read some lines, whichever lines come behind them.
use Rattle.std.specs.Prelude.{◌≡◌, ℕ, List, [], ◌++◌, ◌⊎◌, Bool, true, false, map, Option, Some, None, Result, Ok, Err}
use Rattle.std.specs.List.{All}
use Rattle.span_script.specs.declared.settings.Settings.{Settings}
use Rattle.span_script.specs.Admission.{opening_read}
use Rattle.span_script.specs.Setups.{HaveDistinctIds}
use Rattle.trace_lines.specs.declared.told.Told.{Told}
use Rattle.input_lines.specs.declared.refused_line.RefusedLine.{RefusedLine}
use Rattle.input_lines.specs.Refusals.{HasRefusalLine, are_blank}
use Rattle.trace_tasks.specs.declared.script.Task.{Task}
use Rattle.trace_tasks.specs.declared.script.TaskScript.{TaskScript}
use Rattle.task_runs.specs.declared.script.ReadStage.{ReadStage}
use Rattle.task_runs.specs.declared.script.ReadStage.TheVariants as stage
use Rattle.task_runs.specs.declared.script.TaskReader.{TaskReader}
use Rattle.task_lines.specs.Fit.{missing_name}
use Rattle.task_runs.specs.Scripts.{TaskScriptResult, settings_on, task_on, task_script_on, task_script_from, task_script_of}

-- settings that can be run: lanes have ids of their own, and the texts of directives are read
pub record CanOpen (settings : Settings) : Type 0 where
  pub ids : HaveDistinctIds (map (λ l. l.0) settings.lanes)
  pub read : opening_read settings.filter settings.counting ≡ Ok tt

-- all tasks of a script fit its settings, which can be run
pub record IsFit (script : TaskScript) : Type 0 where
  pub opens : CanOpen script.settings
  pub tasks : All (λ task. missing_name script.settings task ≡ None) script.tasks

-- all lines are blank
pub record IsOpening (lines : List (List ℕ)) (count : ℕ) : Type 0 where
  pub blank : are_blank lines ≡ true
  pub lines_are : (more : List (List ℕ)) → task_script_of (lines ++ more) ≡ task_script_from count more

-- the script so far goes on with the lines that follow
pub record IsReading (lines : List (List ℕ)) (count : ℕ) (script : TaskScript) : Type 0 where
  pub some : are_blank lines ≡ false
  pub fit : IsFit script
  pub lines_are : (more : List (List ℕ)) → task_script_of (lines ++ more) ≡ task_script_on script.settings script.tasks count more

-- a line is refused, whichever lines follow
pub record IsStopped (lines : List (List ℕ)) (refused : RefusedLine) : Type 0 where
  pub some : are_blank lines ≡ false
  pub is_told : HasRefusalLine refused.told
  pub lines_are : (more : List (List ℕ)) → task_script_of (lines ++ more) ≡ Err refused

abbrev pub StandsAt : ReadStage → List (List ℕ) → ℕ → Type 0
StandsAt stage.Opening lines count = IsOpening lines count
StandsAt (stage.Reading script) lines count = IsReading lines count script
StandsAt (stage.Refused refused) lines count = IsStopped lines refused

abbrev pub HasReadLines : List (List ℕ) → TaskReader → Type 0
HasReadLines lines reader = StandsAt reader.stage lines reader.line_count

-- the line that is refused whatever lines follow, if there is one; else all are blank or a script
abbrev pub IsRefusedBy : List (List ℕ) → Option RefusedLine → Type 0
IsRefusedBy lines (Some refused) = IsStopped lines refused
IsRefusedBy lines None = (are_blank lines ≡ true) ⊎ ((script : TaskScript) × (task_script_of lines ≡ Ok script))

-- what came of the lines, where none follows
abbrev pub EndsAs : List (List ℕ) → Result TaskScript RefusedLine → Type 0
EndsAs lines (Ok script) = (task_script_of lines ≡ Ok script) × IsFit script
EndsAs lines (Err refused) = (task_script_of lines ≡ Err refused) × HasRefusalLine refused.told

-- ---- one line

abbrev pub ReadsSettings : List ℕ → Result Settings Told → Type 0
ReadsSettings text (Ok settings) = (settings_on text ≡ Ok settings) × CanOpen settings
ReadsSettings text (Err why) = (settings_on text ≡ Err why) × HasRefusalLine why

abbrev pub ReadsTask : Settings → List ℕ → Result Task Told → Type 0
ReadsTask settings text (Ok task) = (task_on settings text ≡ Ok task) × (missing_name settings task ≡ None)
ReadsTask settings text (Err why) = (task_on settings text ≡ Err why) × HasRefusalLine why
