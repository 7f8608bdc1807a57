-- What the lines of a script of tasks come to: the script, or the first line that is refused.
use Rattle.std.specs.Prelude.{ℕ, ◌+◌, List, [], ◌∷◌, ◌++◌, Bool, Option, Some, None, Result, Ok, Err, if◌then◌else◌}
use Rattle.span_script.specs.declared.reply.Refusal.TheVariants as refusal
use Rattle.span_script.specs.declared.reply.What.{What}
use Rattle.span_script.specs.declared.settings.Settings.{Settings}
use Rattle.span_script.specs.Admission.{OpeningRead, opening_read}
use Rattle.trace_lines.specs.declared.told.Told.{Told}
use Rattle.trace_lines.specs.declared.told.Told.TheVariants as told
use Rattle.trace_lines.specs.Lines.{is_blank}
use Rattle.trace_lines.specs.reading.Spelled.{settings_spelled}
use Rattle.input_lines.specs.declared.refused_line.RefusedLine.{RefusedLine}
use Rattle.trace_tasks.specs.declared.script.Task.{Task}
use Rattle.trace_tasks.specs.declared.script.TaskScript.{TaskScript}
use Rattle.task_lines.specs.Fit.{missing_name}
use Rattle.task_lines.specs.TaskForm.{task_spelled}

-- the script, or the line that is refused
abbrev pub TaskScriptResult : Type 0
TaskScriptResult = Result TaskScript RefusedLine

-- goes on, or is refused at a line
abbrev pub script_unless_refused : {A : Type 0} → Result A Told → ℕ → (A → TaskScriptResult) → TaskScriptResult
script_unless_refused (Ok x) line go = go x
script_unless_refused (Err why) line go = Err (record { line = line; told = why })

-- settings whose texts of directives are read
abbrev pub if_read : OpeningRead → Settings → Result Settings Told
if_read (Ok read) settings = Ok settings
if_read (Err unread) settings = Err (told.Directive unread.0 unread.1)

abbrev pub settings_if_read : Result Settings Told → Result Settings Told
settings_if_read (Ok settings) = if_read (opening_read settings.filter settings.counting) settings
settings_if_read (Err why) = Err why

-- the settings on a line, or why the line is refused
unfoldable pub settings_on : List ℕ → Result Settings Told
settings_on text = settings_if_read (settings_spelled text)

-- a task that names nothing that isn't there
abbrev pub unless_missing : Option What → Task → Result Task Told
unless_missing None task = Ok task
unless_missing (Some missing) task = Err (told.Step (refusal.UnknownName missing))

abbrev pub task_if_declared : Settings → Result Task Told → Result Task Told
task_if_declared settings (Ok task) = unless_missing (missing_name settings task) task
task_if_declared settings (Err why) = Err why

-- the task on a line, or why the line is refused
unfoldable pub task_on : Settings → List ℕ → Result Task Told
task_on settings text = task_if_declared settings (task_spelled text)

-- the script whose task lines follow, so many lines having come before
abbrev pub task_script_on : Settings → List Task → ℕ → List (List ℕ) → TaskScriptResult
task_script_on settings tasks n [] = Ok (record { settings = settings; tasks = tasks })
task_script_on settings tasks n (text ∷ lines) =
    if is_blank text then task_script_on settings tasks (n + 1) lines else
    script_unless_refused (task_on settings text) (n + 1) (λ task. task_script_on settings (tasks ++ task ∷ []) (n + 1) lines)

-- The first line that isn't blank is the settings line. If there is none, the lines are refused at their end.
abbrev pub task_script_from : ℕ → List (List ℕ) → TaskScriptResult
task_script_from n [] = Err (record { line = n + 1; told = told.BadLine })
task_script_from n (text ∷ lines) =
    if is_blank text then task_script_from (n + 1) lines else
    script_unless_refused (settings_on text) (n + 1) (λ settings. task_script_on settings [] (n + 1) lines)

-- what lines come to
abbrev pub task_script_of : List (List ℕ) → TaskScriptResult
task_script_of lines = task_script_from 0 lines
