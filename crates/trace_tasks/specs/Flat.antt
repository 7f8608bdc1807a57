-- The flat list of a task script: a request for each call that the tasks make, all on lane 0.
use Rattle.std.specs.Prelude.{ℕ, zero, suc, ◌+◌, ◌*◌, if◌then◌else◌, List, [], ◌∷◌, ◌++◌, map, filter_map, length, sum_by, Option, Some, None, slice_get}
use Rattle.std.specs.Option.{option_map}
use Rattle.trace_base.specs.declared.callsite.Callsite.{Callsite}
use Rattle.span_script.specs.declared.request.Call.{Call}
use Rattle.span_script.specs.declared.request.Call.TheVariants as call
use Rattle.span_script.specs.declared.request.RequestParent.TheVariants as request_parent
use Rattle.span_script.specs.declared.request.Request.{Request}
use Rattle.trace_tape.specs.Tapes.{on_first_lane}
use Rattle.trace_tasks.specs.declared.script.Step.{Step}
use Rattle.trace_tasks.specs.declared.script.Step.TheVariants as step
use Rattle.trace_tasks.specs.declared.script.Task.{Task}
use Rattle.trace_tasks.specs.Acts.{steps_now, steps_left}
use Rattle.span_script.specs.Fields.{Fields, declared_by}

-- a task that isn't finished: its handle, the callsite of its span, and the steps that are left
pub record UnfinishedTask : Type 0 where
  pub number : ℕ
  pub site : ℕ
  pub steps : List Step

-- the declared ones of some fields
abbrev pub declared_ones : Option Callsite → Fields → Fields
declared_ones callsite fields = filter_map (λ field. if declared_by callsite field.0 then Some field else None) fields

-- a step's request on a task's handle
abbrev pub step_call : List Callsite → UnfinishedTask → Step → Call
step_call sites t (step.Event site fields) = call.Event site request_parent.Contextual fields
step_call sites t (step.Record fields) = call.Record t.number (declared_ones (slice_get sites t.site) fields)
step_call sites t (step.SetAttribute key value) = call.SetAttribute t.number key value
step_call sites t step.Yield = call.Current

-- the moment of the poll after k polls
abbrev pub moment_of : ℕ → ℕ
moment_of k = 10 * (k + 1)

-- a task that is finished drops its handle
abbrev pub drop_at_end : ℕ → ℕ → Option (List Step) → List Request
drop_at_end k number None = on_first_lane (moment_of k) (call.Drop number) ∷ []
drop_at_end k number (Some steps) = []

-- the poll after k polls, of a task: its entry and its steps, which may be refused, and then its exit
abbrev pub entry_and_steps : List Callsite → ℕ → UnfinishedTask → List Request
entry_and_steps sites k t = on_first_lane (moment_of k) (call.Enter t.number) ∷ map (λ s. on_first_lane (moment_of k) (step_call sites t s)) (steps_now t.steps)

abbrev pub poll_requests : List Callsite → ℕ → UnfinishedTask → List Request
poll_requests sites k t = entry_and_steps sites k t ++ on_first_lane (moment_of k) (call.Exit k) ∷ drop_at_end k t.number (steps_left t.steps)

-- a task after a poll, if it isn't finished
abbrev pub after_poll : UnfinishedTask → Option UnfinishedTask
after_poll t = option_map (λ steps. record t { steps = steps }) (steps_left t.steps)

-- a round after k polls: each task is polled once, in order
abbrev pub round_requests : List Callsite → ℕ → List UnfinishedTask → List Request
round_requests sites k [] = []
round_requests sites k (t ∷ ts) = poll_requests sites k t ++ round_requests sites (k + 1) ts

-- some rounds after k polls
abbrev pub rounds_requests : List Callsite → ℕ → ℕ → List UnfinishedTask → List Request
rounds_requests sites zero k ts = []
rounds_requests sites (suc n) k ts = round_requests sites k ts ++ rounds_requests sites n (k + length ts) (filter_map after_poll ts)

-- how many yields some steps have
abbrev pub yield_count : List Step → ℕ
yield_count [] = 0
yield_count (step.Yield ∷ steps) = yield_count steps + 1
yield_count (step.Event site fields ∷ steps) = yield_count steps
yield_count (step.Record fields ∷ steps) = yield_count steps
yield_count (step.SetAttribute key value ∷ steps) = yield_count steps

-- as many polls as they take
abbrev pub polls_left : UnfinishedTask → ℕ
polls_left t = yield_count t.steps + 1

abbrev pub poll_count : List UnfinishedTask → ℕ
poll_count ts = sum_by polls_left ts

-- the tasks at first, numbered in order
abbrev pub tasks_at_first : ℕ → List Task → List UnfinishedTask
tasks_at_first number [] = []
tasks_at_first number (t ∷ ts) = record { number = number; site = t.site; steps = t.steps } ∷ tasks_at_first (number + 1) ts

-- a span for each task
abbrev pub makings : List Task → List Request
makings tasks = map (λ t. on_first_lane 0 (call.New t.site request_parent.Contextual t.fields)) tasks

-- the whole list: the makings, and then rounds until all tasks are finished, which they are after as many rounds as polls
abbrev pub flat_list : List Callsite → List Task → List Request
flat_list sites tasks = makings tasks ++ rounds_requests sites (poll_count (tasks_at_first 0 tasks)) 0 (tasks_at_first 0 tasks)

-- the same, with the tasks in a queue: the first is polled, and goes to the end if it isn't finished
abbrev pub requeue : List UnfinishedTask → Option UnfinishedTask → List UnfinishedTask
requeue ts None = ts
requeue ts (Some t) = ts ++ t ∷ []

abbrev pub turns_requests : List Callsite → ℕ → ℕ → List UnfinishedTask → List Request
turns_requests sites zero k ts = []
turns_requests sites (suc n) k [] = []
turns_requests sites (suc n) k (t ∷ ts) = poll_requests sites k t ++ turns_requests sites n (k + 1) (requeue ts (after_poll t))
