-- What a line spells decides what it gives a script of tasks.
use Rattle.std.proofs.Common.{◌≡◌, ℕ, List, refl}
use Rattle.std.specs.Prelude.{Bool, Option, Some, None, Ok, Err}
use Rattle.span_script.specs.declared.reply.Refusal.TheVariants as refusal
use Rattle.span_script.specs.declared.reply.What.{What}
use Rattle.span_script.specs.declared.settings.Settings.{Settings}
use Rattle.span_script.specs.Admission.{opening_read}
use Rattle.trace_lines.specs.declared.told.Told.{Told}
use Rattle.trace_lines.specs.declared.told.Told.TheVariants as told
use Rattle.trace_lines.specs.reading.Spelled.{settings_spelled}
use Rattle.trace_tasks.specs.declared.script.Task.{Task}
use Rattle.task_lines.specs.Fit.{missing_name}
use Rattle.task_lines.specs.TaskForm.{task_spelled}
use Rattle.task_runs.specs.Scripts.{settings_on, task_on}

-- ---- the settings line

pub settings_read : (text : List ℕ) (settings : Settings) → settings_spelled text ≡ Ok settings → opening_read settings.filter settings.counting ≡ Ok tt → settings_on text ≡ Ok settings
unfolding settings_on
settings_read text settings is read = rw (is, read) refl

pub settings_unread : (text : List ℕ) (settings : Settings) (counting : Bool) (piece : ℕ) → settings_spelled text ≡ Ok settings → opening_read settings.filter settings.counting ≡ Err (counting, piece)
    → settings_on text ≡ Err (told.Directive counting piece)
unfolding settings_on
settings_unread text settings counting piece is why = rw (is, why) refl

pub no_settings : (text : List ℕ) (why : Told) → settings_spelled text ≡ Err why → settings_on text ≡ Err why
unfolding settings_on
no_settings text why is = rw is refl

-- ---- a task line

pub task_read : (settings : Settings) (text : List ℕ) (task : Task) → task_spelled text ≡ Ok task → missing_name settings task ≡ None → task_on settings text ≡ Ok task
unfolding task_on
task_read settings text task is fits = rw (is, fits) refl

pub task_misses : (settings : Settings) (text : List ℕ) (task : Task) (what : What) → task_spelled text ≡ Ok task → missing_name settings task ≡ Some what → task_on settings text ≡ Err (told.Step (refusal.UnknownName what))
unfolding task_on
task_misses settings text task what is misses = rw (is, misses) refl

pub no_task : (settings : Settings) (text : List ℕ) (why : Told) → task_spelled text ≡ Err why → task_on settings text ≡ Err why
unfolding task_on
no_task settings text why is = rw is refl
