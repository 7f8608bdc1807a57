-- Whether a task fits its settings.
use Rattle.std.specs.Prelude.{List, [], ◌∷◌, Bool, true, false, ◌&&◌, if◌then◌else◌, Option, Some, None, is_some}
use Rattle.std.specs.List.{list_all}
use Rattle.trace_base.specs.declared.callsite.Callsite.{Callsite}
use Rattle.span_script.specs.declared.reply.What.{What}
use Rattle.span_script.specs.declared.reply.What.TheVariants as what
use Rattle.span_script.specs.declared.settings.Settings.{Settings}
use Rattle.span_script.specs.Setups.{span_site, event_site}
use Rattle.trace_tasks.specs.declared.script.Step.{Step}
use Rattle.trace_tasks.specs.declared.script.Step.TheVariants as step
use Rattle.trace_tasks.specs.declared.script.Task.{Task}
use Rattle.trace_tasks.specs.FieldNames.{declares_by}

-- there is a lane
abbrev pub has_lane : {A : Type 0} → List A → Bool
has_lane [] = false
has_lane (lane ∷ lanes) = true

-- the callsite of a step's event is there
abbrev pub has_site_of_step : List Callsite → Step → Bool
has_site_of_step sites (step.Event site fields) = is_some (event_site sites site)
has_site_of_step sites (step.Record fields) = true
has_site_of_step sites (step.SetAttribute key value) = true
has_site_of_step sites step.Yield = true

-- the callsites of a task's span and of its events are there
abbrev pub has_sites : List Callsite → Task → Bool
has_sites sites task = is_some (span_site sites task.site) && list_all (λ s. has_site_of_step sites s) task.steps

-- the callsite of a step's event declares its fields
abbrev pub declares_event_fields : List Callsite → Step → Bool
declares_event_fields sites (step.Event site fields) = declares_by sites site fields
declares_event_fields sites (step.Record fields) = true
declares_event_fields sites (step.SetAttribute key value) = true
declares_event_fields sites step.Yield = true

-- the callsites of a task's span and of its events declare their fields
abbrev pub declares_task_fields : List Callsite → Task → Bool
declares_task_fields sites task = declares_by sites task.site task.fields && list_all (λ s. declares_event_fields sites s) task.steps

-- what a task names that isn't there, if there is something
abbrev pub missing_name : Settings → Task → Option What
missing_name settings task =
    if has_lane settings.lanes then
    (if has_sites settings.callsites task then
    (if declares_task_fields settings.callsites task then None else Some what.Field)
    else Some what.Site)
    else Some what.Lane
