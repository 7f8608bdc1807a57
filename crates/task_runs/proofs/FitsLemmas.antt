-- Tasks that fit their settings can be polled over a tape.
use Rattle.std.proofs.Common.{◌≡◌, ℕ, zero, suc, ◌+◌, ◌<◌, ◌^◌, List, [], ◌∷◌, length, Bool, true, false, Option, Some, None, refl, sym, ap, ◌∙◌, arith, slice_get}
use Rattle.std.specs.Prelude.{◌&&◌, if◌then◌else◌, is_some, option_and_then, sum_by}
use Rattle.std.specs.List.{All, list_all}
use Rattle.std.specs.Option.{option_map_or}
use Rattle.std.proofs.lemmas.Bool.{true≢false}
use Rattle.trace_base.specs.declared.callsite.Callsite.{Callsite}
use Rattle.span_script.specs.declared.reply.What.{What}
use Rattle.span_script.specs.declared.reply.What.TheVariants as what
use Rattle.span_script.specs.declared.settings.Settings.{Settings}
use Rattle.span_script.specs.Fields.{Fields}
use Rattle.span_script.specs.Setups.{span_site}
use Rattle.trace_tasks.specs.declared.script.Step.{Step}
use Rattle.trace_tasks.specs.declared.script.Step.TheVariants as step
use Rattle.trace_tasks.specs.declared.script.Task.{Task}
use Rattle.trace_tasks.specs.declared.script.TaskScript.{TaskScript}
use Rattle.trace_tasks.specs.Begun.{AllHaveCallsites}
use Rattle.trace_tasks.specs.FieldNames.{declares_all, declares_by}
use Rattle.trace_tasks.specs.Flat.{poll_count, tasks_at_first, yield_count}
use Rattle.trace_tasks.specs.Spelled.{IsDeclared, StepsAreDeclared, TasksAreDeclared}
use Rattle.trace_tasks.proofs.queues.BegunTasksLemmas.{answer_is}
use Rattle.task_lines.specs.Fit.{has_lane, has_sites, declares_task_fields, declares_event_fields, missing_name}
use Rattle.task_runs.specs.Reading.{IsFit}
use Rattle.task_runs.specs.Runs.{CanSpell}

both : (a b : Bool) → (a && b) ≡ true → (a ≡ true) × (b ≡ true)
both true true is = (refl, refl)
both true false is = absurd (true≢false (sym is))
both false b is = absurd (true≢false (sym is))

-- nothing is missing only where there is a lane, all callsites and all fields
none_missing : (lane sites fields : Bool) → ◌≡◌ {A = Option What} (if lane then (if sites then (if fields then None else Some what.Field) else Some what.Site) else Some what.Lane) None → (sites ≡ true) × (fields ≡ true)
none_missing true true true is = (refl, refl)
none_missing true true false is = absurd (cc is)
none_missing true false fields is = absurd (cc is)
none_missing false sites fields is = absurd (cc is)

within : {A B : Type 0} (f : A → Option B) (xs : List A) (n : ℕ) → is_some (option_and_then f (slice_get xs n)) ≡ true → n < length xs
within f [] n is = absurd (true≢false (sym is))
within f (x ∷ xs) zero is = omega arith
within f (x ∷ xs) (suc n) is = (let r = within f xs n is in omega (arith, r))

declared : (o : Option Callsite) (fields : Fields) → option_map_or (λ c. declares_all c fields) o false ≡ true → IsDeclared o fields
declared None fields is = absurd (true≢false (sym is))
declared (Some c) fields is = is

tested : (sites : List Callsite) (steps : List Step) → list_all (λ s. declares_event_fields sites s) steps ≡ true → StepsAreDeclared sites steps
tested sites [] is = tt
tested sites (step.Event site fields ∷ steps) is =
    let b = both (declares_by sites site fields) (list_all (λ s. declares_event_fields sites s) steps) is in
    (declared (slice_get sites site) fields b.0, tested sites steps b.1)
tested sites (step.Record fields ∷ steps) is = tested sites steps (both true (list_all (λ s. declares_event_fields sites s) steps) is).1
tested sites (step.SetAttribute key value ∷ steps) is = tested sites steps (both true (list_all (λ s. declares_event_fields sites s) steps) is).1
tested sites (step.Yield ∷ steps) is = tested sites steps (both true (list_all (λ s. declares_event_fields sites s) steps) is).1

-- one task
one_fits : (settings : Settings) (task : Task) → missing_name settings task ≡ None → (task.site < length settings.callsites) × IsDeclared (slice_get settings.callsites task.site) task.fields × StepsAreDeclared settings.callsites task.steps
one_fits settings task none =
    let all = none_missing (has_lane settings.lanes) (has_sites settings.callsites task) (declares_task_fields settings.callsites task) none in
    let sites = both _ _ all.0 in
    let fields = both _ _ all.1 in
    (within _ settings.callsites task.site sites.0, declared (slice_get settings.callsites task.site) task.fields fields.0, tested settings.callsites task.steps fields.1)

all_sited : (settings : Settings) (tasks : List Task) → All (λ task. missing_name settings task ≡ None) tasks → AllHaveCallsites (length settings.callsites) tasks
all_sited settings [] all = tt
all_sited settings (t ∷ tasks) all = ((one_fits settings t (all 0 t (omega arith))).0, all_sited settings tasks (λ k d less. all (suc k) d (omega (arith, less))))

are_tested : (settings : Settings) (tasks : List Task) → All (λ task. missing_name settings task ≡ None) tasks → TasksAreDeclared settings.callsites tasks
are_tested settings [] all = tt
are_tested settings (t ∷ tasks) all =
    let one = one_fits settings t (all 0 t (omega arith)) in
    (one.1, one.2, are_tested settings tasks (λ k d less. all (suc k) d (omega (arith, less))))

pub can_spell : (script : TaskScript) (polls : ℕ) → IsFit script → polls ≡ sum_by (λ t. yield_count t.steps) script.tasks + length script.tasks → polls < 2 ^ 60 → CanSpell script.settings.callsites script.tasks
can_spell script polls fit is few = record {
  sited = all_sited script.settings script.tasks fit.tasks;
  tested = are_tested script.settings script.tasks fit.tasks;
  few = omega (arith, is, few);
  few_polls = (let a = answer_is 0 script.tasks in omega (arith, a, is, few));
}
