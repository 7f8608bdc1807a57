-- Tasks that were begun.
use Rattle.std.specs.Prelude.{◌≡◌, ℕ, ◌+◌, ◌<◌, ◌≤◌, Bool, List, [], ◌∷◌, ◌++◌, length, Option, Some, slice_get}
use Rattle.trace_base.specs.declared.callsite.Callsite.{Callsite}
use Rattle.trace_base.specs.declared.lane.Lane.{Lane}
use Rattle.trace_base.specs.declared.level.LevelFilter.{LevelFilter}
use Rattle.trace_base.specs.Calls.{SubscriberCall}
use Rattle.trace_base.specs.Gate.{WorldValue, Admits}
use Rattle.trace_base.specs.Spans.{Spans, span_at}
use Rattle.span_handles.specs.Worlds.{spans_in}
use Rattle.span_handles.specs.Handles.{Handle, HeldSpan, IsKnown, id_of}
use Rattle.span_futures.specs.declared.instrument.Instrumented.{Instrumented}
use Rattle.otel_layer.specs.Parts.{PartCall}
use Rattle.trace_tasks.specs.declared.running.TaskFuture.{TaskFuture}
use Rattle.trace_tasks.specs.declared.script.Task.{Task}
use Rattle.trace_tasks.specs.Carrying.{MakesGated, CarriesNew, Carries}
use Rattle.span_script.specs.Fields.{Fields}
use Rattle.trace_tasks.specs.Flat.{tasks_at_first, makings, poll_count, flat_list}
use Rattle.trace_tasks.specs.Turning.{IsAlone, ReadyToPoll, dispatch_serving}
use Rattle.trace_tasks.specs.Waiting.{AllWait, AllStand}

-- a span was made at 0, if it was let through, and nothing else happened
pub record MakesTaskSpan {S : Type 0} (spans : S → Spans) (hint : S → Option LevelFilter) (enables : S → ℕ → Callsite → Bool) (does : S → SubscriberCall → S → Type 0) (touches : S → PartCall → S → Type 0)
    (site : ℕ) (fields : Fields) (lane : Lane) (old new : WorldValue S) (span : Handle) : Type 0 where
  pub callsite : Callsite
  pub is : slice_get old.sites site ≡ Some callsite
  pub admitted : Bool
  pub gate : Admits hint enables old lane.id site (Some (dispatch_serving lane)) admitted
  pub made : MakesGated spans hint enables does touches (dispatch_serving lane) admitted old new lane 0 site callsite fields span

-- a task was begun: its span was made, and nothing else happened
pub record Begins {S : Type 0} (spans : S → Spans) (hint : S → Option LevelFilter) (enables : S → ℕ → Callsite → Bool) (kept : S → ℕ → ℕ → ℕ) (is_whole : S → Type 0) (does : S → SubscriberCall → S → Type 0) (touches : S → PartCall → S → Type 0)
    (task : Task) (lane : Lane) (old new : WorldValue S) (f : Instrumented TaskFuture) : Type 0 where
  pub steps : f.inner.steps.items ≡ task.steps
  pub site : f.span.site ≡ Some task.site
  pub made : (handles : List Handle) (guards : List HeldSpan) → CarriesNew spans hint enables does touches (dispatch_serving lane) 0 task.site task.fields
      (record { world = old; lane = lane; handles = handles; guards = guards }) (record { world = new; lane = lane; handles = handles ++ f.span ∷ []; guards = guards })
  pub known : IsKnown spans new f.span.held
  pub lone : IsAlone (spans_in spans new (dispatch_serving lane)).made (dispatch_serving lane) task.site f.span
  pub fresh : (id : ℕ) → id_of f.span.held ≡ Some id → length (spans_in spans old (dispatch_serving lane)).made ≤ id
  pub stay : (q : ℕ) → q < length (spans_in spans old (dispatch_serving lane)).made → span_at (spans_in spans new (dispatch_serving lane)).made q ≡ span_at (spans_in spans old (dispatch_serving lane)).made q
  pub count : length (spans_in spans new (dispatch_serving lane)).made ≤ length (spans_in spans old (dispatch_serving lane)).made + 1
  pub ready : ReadyToPoll spans kept is_whole new lane
  pub sites : new.sites ≡ old.sites

-- all callsites of the tasks' spans are there
abbrev pub AllHaveCallsites : ℕ → List Task → Type 0
AllHaveCallsites n [] = Unit {0}
AllHaveCallsites n (t ∷ ts) = (t.site < n) × AllHaveCallsites n ts

-- the first tasks were begun
pub record AreBegun {S : Type 0} (spans : S → Spans) (hint : S → Option LevelFilter) (enables : S → ℕ → Callsite → Bool) (kept : S → ℕ → ℕ → ℕ) (is_whole : S → Type 0) (does : S → SubscriberCall → S → Type 0) (touches : S → PartCall → S → Type 0)
    (tasks : List Task) (lane : Lane) (old new : WorldValue S) (fs : List (Instrumented TaskFuture)) : Type 0 where
  pub handles : List Handle
  pub count : length handles ≡ length tasks
  pub stand : AllStand handles (tasks_at_first 0 tasks) fs
  pub wait : AllWait spans new (dispatch_serving lane) fs
  pub ready : ReadyToPoll spans kept is_whole new lane
  pub sites : new.sites ≡ old.sites
  pub few : length (spans_in spans new (dispatch_serving lane)).made ≤ length (spans_in spans old (dispatch_serving lane)).made + length tasks
  pub carried : Carries spans hint enables does touches (dispatch_serving lane) (makings tasks) (record { world = old; lane = lane; handles = []; guards = [] }) (record { world = new; lane = lane; handles = handles; guards = [] })

-- what a run of tasks did: exactly the requests of the flat list, in order
pub record RunsTasks {S : Type 0} (spans : S → Spans) (hint : S → Option LevelFilter) (enables : S → ℕ → Callsite → Bool) (does : S → SubscriberCall → S → Type 0) (touches : S → PartCall → S → Type 0)
    (sites : List Callsite) (tasks : List Task) (old new : WorldValue S) (before later : Lane) (polls : ℕ) : Type 0 where
  pub answer : polls ≡ poll_count (tasks_at_first 0 tasks)
  pub handles : List Handle
  pub guards : List HeldSpan
  pub carried : Carries spans hint enables does touches (dispatch_serving before) (flat_list sites tasks) (record { world = old; lane = before; handles = []; guards = [] }) (record { world = new; lane = later; handles = handles; guards = guards })
