-- Tasks and scripts that can be run over a tape.
use Rattle.std.specs.Prelude.{ℕ, ◌<◌, ◌^◌, List, length, Option, Some, None}
use Rattle.trace_base.specs.declared.callsite.Callsite.{Callsite}
use Rattle.trace_tasks.specs.declared.script.Task.{Task}
use Rattle.trace_tasks.specs.declared.script.TaskScript.{TaskScript}
use Rattle.trace_tasks.specs.Begun.{AllHaveCallsites}
use Rattle.trace_tasks.specs.Flat.{poll_count, tasks_at_first}
use Rattle.trace_tasks.specs.Spelled.{TasksAreDeclared}
use Rattle.task_runs.specs.Reading.{IsFit}

-- the callsites are there and declare what tasks give, and the tasks and their polls aren't too many
pub record CanSpell (sites : List Callsite) (tasks : List Task) : Type 0 where
  pub sited : AllHaveCallsites (length sites) tasks
  pub tested : TasksAreDeclared sites tasks
  pub few : length tasks < 2 ^ 63
  pub few_polls : poll_count (tasks_at_first 0 tasks) < 2 ^ 60

-- a script is there that fits, and whose tasks can be run
abbrev pub CanRun : Option TaskScript → Type 0
CanRun None = ⊥
CanRun (Some script) = IsFit script × CanSpell script.settings.callsites script.tasks
