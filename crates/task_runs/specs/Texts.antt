-- What is written of a script of tasks.
use Rattle.std.specs.Prelude.{◌≡◌, ℕ, List, ◌++◌, length, Bool, None, Result, Ok, Err, is_ok}
use Rattle.span_script.specs.declared.outcome.Outcome.{Outcome}
use Rattle.span_script.specs.Outcomes.{outcome_of}
use Rattle.span_script.specs.Setups.{setup_by}
use Rattle.task_runs.specs.Scripts.{TaskScriptResult, task_script_of}
use Rattle.trace_lines.specs.Report.{record_lines}
use Rattle.trace_lines.specs.text.Texts.{refusal_text, end_text}
use Rattle.trace_tasks.specs.declared.script.TaskScript.{TaskScript}
use Rattle.trace_tasks.specs.Flat.{flat_list}

-- the lines of an outcome's records, and the end line
abbrev pub outcome_text : Outcome → List ℕ
outcome_text outcome = record_lines 1 outcome.records ++ end_text outcome.left_open (length outcome.records)

-- what tasks give that are polled in turn: the outcome of the flat list of their requests
abbrev pub tasks_outcome : TaskScript → Outcome
tasks_outcome script = outcome_of (setup_by script.settings) (flat_list script.settings.callsites script.tasks)

-- no request is refused, and the text is that of the outcome
abbrev pub TellsOutcome : Outcome → List ℕ → Type 0
TellsOutcome outcome text = (outcome.refused ≡ None) × (text ≡ outcome_text outcome)

-- the text of a script's outcome, or the refusal line alone
abbrev pub TellsScript : TaskScriptResult → List ℕ → Type 0
TellsScript (Ok script) text = TellsOutcome (tasks_outcome script) text
TellsScript (Err refused) text = text ≡ refusal_text refused.line refused.told

abbrev pub TellsTasks : List (List ℕ) → List ℕ → Type 0
TellsTasks lines text = TellsScript (task_script_of lines) text

-- none of the lines is refused, and a settings line is among them
abbrev pub accepts_tasks : List (List ℕ) → Bool
accepts_tasks lines = is_ok (task_script_of lines)
