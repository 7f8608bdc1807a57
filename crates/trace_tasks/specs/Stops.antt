-- A run of tasks that was refused: what was carried out before, and how what was open then was left.
use Rattle.std.specs.Prelude.{◌≡◌, ℕ, zero, suc, List, [], ◌∷◌, ◌++◌, map, length, slice_get, Bool, true, Option, Some}
use Rattle.std.proofs.Common.{◌⊎◌}
use Rattle.otel_base.specs.declared.enter_error.EnterError.{EnterError}
use Rattle.otel_base.specs.declared.enter_error.EnterError.TheVariants.{Full, Memory}
use Rattle.trace_base.specs.declared.callsite.Callsite.{Callsite}
use Rattle.trace_base.specs.declared.lane.Lane.{Lane}
use Rattle.trace_base.specs.declared.level.LevelFilter.{LevelFilter}
use Rattle.trace_base.specs.Calls.{SubscriberCall}
use Rattle.trace_base.specs.lanes.Contexts.{IsFull}
use Rattle.trace_base.specs.Gate.{WorldValue}
use Rattle.trace_base.specs.Spans.{Spans}
use Rattle.span_handles.specs.Handles.{Handle, HeldSpan}
use Rattle.span_handles.specs.Entries.{KeepsLaneButRoom}
use Rattle.span_futures.specs.declared.instrument.Instrumented.{Instrumented}
use Rattle.otel_layer.specs.Parts.{PartCall}
use Rattle.span_script.specs.declared.request.Call.TheVariants as call
use Rattle.span_script.specs.declared.request.Request.{Request}
use Rattle.trace_tape.specs.Tapes.{on_first_lane}
use Rattle.trace_tasks.specs.declared.running.TaskFuture.{TaskFuture}
use Rattle.trace_tasks.specs.declared.script.Task.{Task}
use Rattle.trace_tasks.specs.Acts.{WantsMemory}
use Rattle.trace_tasks.specs.Begun.{AreBegun}
use Rattle.trace_tasks.specs.Carrying.{TaskScene, Carries}
use Rattle.trace_tasks.specs.Flat.{UnfinishedTask, poll_count, tasks_at_first, makings, flat_list, moment_of, entry_and_steps, requeue, after_poll, turns_requests}
use Rattle.trace_tasks.specs.Turning.{dispatch_serving, unfinished_task}
use Rattle.trace_tasks.specs.Waiting.{AllStand}

-- the tasks that are left after so many polls, the next one first
abbrev pub left_after : ℕ → List UnfinishedTask → List UnfinishedTask
left_after zero ts = ts
left_after (suc n) [] = []
left_after (suc n) (t ∷ ts) = left_after n (requeue ts (after_poll t))

-- at a moment an exit of the guard of a poll, if its task was entered, and a drop of the handle of each task that is left
abbrev pub exit_if : ℕ → ℕ → List Request → List Request
exit_if at k [] = []
exit_if at k (r ∷ part) = on_first_lane at (call.Exit k) ∷ []

abbrev pub drops_of_tasks : ℕ → List UnfinishedTask → List Request
drops_of_tasks at left = map (λ t. on_first_lane at (call.Drop t.number)) left

abbrev pub leaving_requests : ℕ → ℕ → List Request → List UnfinishedTask → List Request
leaving_requests at k part left = exit_if at k part ++ drops_of_tasks at left

-- the part of the poll after so many polls that went out: all before its entry, or before one of its steps, which was refused
abbrev pub IsRefusedPart : List Callsite → ℕ → UnfinishedTask → List Request → Type 0
IsRefusedPart sites polls t part = (refused : Request) × (others : List Request) × (part ++ refused ∷ others ≡ entry_and_steps sites polls t)

-- the same of the first of the tasks that are left
abbrev pub IsPartOfPoll : List Callsite → ℕ → List UnfinishedTask → List Request → Type 0
IsPartOfPoll sites polls [] part = ⊥
IsPartOfPoll sites polls (t ∷ waiting) part = IsRefusedPart sites polls t part

-- the first of some tasks, with one behind them at least
abbrev pub IsFrontOf : List Task → List Task → Type 0
IsFrontOf first tasks = (refused : Task) × (others : List Task) × (first ++ refused ∷ others ≡ tasks)

-- where a run stops: in the poll after so many polls, at whose moment it does, with all tasks begun; or at 0, as the span of the
-- next task is made, where memory is wanted
abbrev pub StopsAt : List Callsite → (tasks first : List Task) (polls : ℕ) (part : List Request) → EnterError → ℕ → Type 0
StopsAt sites tasks first polls part e at =
    ((at ≡ moment_of polls) × (first ≡ tasks) × IsPartOfPoll sites polls (left_after polls (tasks_at_first 0 first)) part)
    ⊎ ((at ≡ 0) × (polls ≡ 0) × (part ≡ []) × (e ≡ Memory) × IsFrontOf first tasks)

module _ {S : Type 0} (spans : S → Spans) (hint : S → Option LevelFilter) (enables : S → ℕ → Callsite → Bool) (does : S → SubscriberCall → S → Type 0) (touches : S → PartCall → S → Type 0) (at : ℕ) where
  -- the handles of some tasks were dropped, one after another, and nothing else happened
  abbrev pub Drops : List UnfinishedTask → List Handle → WorldValue S → WorldValue S → Type 0
  Drops ts handles old new = (d : ℕ) (lane : Lane) (guards : List HeldSpan)
      → Carries spans hint enables does touches d (drops_of_tasks at ts) (record { world = old; lane = lane; handles = handles; guards = guards }) (record { world = new; lane = lane; handles = handles; guards = guards })

  -- those of all tasks of a queue
  abbrev pub DropsAll : List (Instrumented TaskFuture) → WorldValue S → WorldValue S → Type 0
  DropsAll fs old new = (handles : List Handle) (ts : List UnfinishedTask) → AllStand handles ts fs → Drops ts handles old new

module _ {S : Type 0} (spans : S → Spans) (hint : S → Option LevelFilter) (enables : S → ℕ → Callsite → Bool) (activates : S → ℕ → Bool) (does : S → SubscriberCall → S → Type 0) (touches : S → PartCall → S → Type 0) (same : S → S → Type 0) (d : ℕ) where
  -- memory was wanted, or a full lane was met: nothing more than room and a denied op tells the stages apart
  pub record Fails (at : ℕ) (s t : TaskScene S) : Type 0 where
    pub world : WantsMemory spans hint enables does touches same at s.world t.world
    pub lane : KeepsLaneButRoom s.lane t.lane
    pub handles : t.handles ≡ s.handles
    pub guards : t.guards ≡ s.guards

  -- an entry that attaches a context meets a lane that has as many as may be
  pub record MeetsFull (s : TaskScene S) : Type 0 where
    pub subscriber : S
    pub there : slice_get s.world.subscribers d ≡ Some subscriber
    pub id : ℕ
    pub attaches : activates subscriber id ≡ true
    pub full : IsFull s.lane

  -- A front of some requests was carried out, then it failed, and what was left was let go. Full comes only where an entry met a
  -- full lane.
  pub record Stopped (front leaving : List Request) (at : ℕ) (e : EnterError) (s : TaskScene S) (new : WorldValue S) (later : Lane) : Type 0 where
    pub here : TaskScene S
    pub carried : Carries spans hint enables does touches d front s here
    pub failed : TaskScene S
    pub fails : Fails at here failed
    pub guards : List HeldSpan
    pub closed : Carries spans hint enables does touches d leaving failed (record { world = new; lane = later; handles = failed.handles; guards = guards })
    pub full : e ≡ Full → MeetsFull here

  -- the same in a poll, after so many polls, of a task
  pub record StopsPoll (sites : List Callsite) (at k : ℕ) (t : UnfinishedTask) (e : EnterError) (s : TaskScene S) (new : WorldValue S) (later : Lane) : Type 0 where
    pub part : List Request
    pub in_poll : IsRefusedPart sites k t part
    pub not_entered : e ≡ Full → part ≡ []
    pub stopped : Stopped part (leaving_requests at k part (t ∷ [])) at e s new later
    pub handles : stopped.failed.handles ≡ s.handles

  -- the same in the turns of some tasks: in the poll after so many polls; the lane was as full when the first one began
  pub record StopsTurns (sites : List Callsite) (ts : List UnfinishedTask) (e : EnterError) (s : TaskScene S) (new : WorldValue S) (later : Lane) : Type 0 where
    pub polls : ℕ
    pub t : UnfinishedTask
    pub waiting : List UnfinishedTask
    pub next : left_after polls ts ≡ t ∷ waiting
    pub part : List Request
    pub others : List Request
    pub within : turns_requests sites polls 0 ts ++ part ++ others ≡ turns_requests sites (poll_count ts) 0 ts
    pub in_poll : IsRefusedPart sites polls t part
    pub not_entered : e ≡ Full → part ≡ []
    pub full_at_first : e ≡ Full → IsFull s.lane
    pub stopped : Stopped (turns_requests sites polls 0 ts ++ part) (leaving_requests (moment_of polls) polls part (t ∷ waiting)) (moment_of polls) e s new later

  -- A run that was refused, as it made a span or in a poll: all requests of the flat list before the one that was refused were
  -- carried out, and then the poll's entry, if it was made, was exited, and the handles of all tasks that were begun and not
  -- finished were dropped, at once. With Full the poll's entry was refused, and the lane was full before the run.
  pub record GaveUp (sites : List Callsite) (tasks : List Task) (e : EnterError) (s : TaskScene S) (new : WorldValue S) (later : Lane) : Type 0 where
    pub first : List Task
    pub polls : ℕ
    pub part : List Request
    pub others : List Request
    pub within : makings first ++ turns_requests sites polls 0 (tasks_at_first 0 first) ++ part ++ others ≡ flat_list sites tasks
    pub at : ℕ
    pub moment : StopsAt sites tasks first polls part e at
    pub not_entered : e ≡ Full → part ≡ []
    pub full_at_call : e ≡ Full → IsFull s.lane
    pub stopped : Stopped (makings first ++ turns_requests sites polls 0 (tasks_at_first 0 first) ++ part) (leaving_requests at polls part (left_after polls (tasks_at_first 0 first))) at e s new later

-- the first of some tasks were begun, and the next one wanted memory
pub record StopsBeginning {S : Type 0} (spans : S → Spans) (hint : S → Option LevelFilter) (enables : S → ℕ → Callsite → Bool) (kept : S → ℕ → ℕ → ℕ) (is_whole : S → Type 0) (does : S → SubscriberCall → S → Type 0) (touches : S → PartCall → S → Type 0) (same : S → S → Type 0)
    (tasks : List Task) (lane : Lane) (old new : WorldValue S) (fs : List (Instrumented TaskFuture)) : Type 0 where
  pub first : List Task
  pub within : IsFrontOf first tasks
  pub world : WorldValue S
  pub so_far : AreBegun spans hint enables kept is_whole does touches first lane old world fs
  pub wants : WantsMemory spans hint enables does touches same 0 world new

-- a task's poll was refused, and its handle closed
pub record TurnStops {S : Type 0} (spans : S → Spans) (hint : S → Option LevelFilter) (enables : S → ℕ → Callsite → Bool) (activates : S → ℕ → Bool) (does : S → SubscriberCall → S → Type 0) (touches : S → PartCall → S → Type 0) (same : S → S → Type 0)
    (at : ℕ) (f : Instrumented TaskFuture) (old : WorldValue S) (before : Lane) (e : EnterError) (new : WorldValue S) (later : Lane) : Type 0 where
  pub stops : (number site k : ℕ) (handles : List Handle) (guards : List HeldSpan) → at ≡ moment_of k → slice_get handles number ≡ Some f.span → length guards ≡ k → f.span.site ≡ Some site
      → StopsPoll spans hint enables activates does touches same (dispatch_serving before) old.sites at k (unfinished_task number site f.inner) e (record { world = old; lane = before; handles = handles; guards = guards }) new later

-- the poll of the first task of a queue was refused, and the handles of all tasks were closed
pub record StopsInTurn {S : Type 0} (spans : S → Spans) (hint : S → Option LevelFilter) (enables : S → ℕ → Callsite → Bool) (activates : S → ℕ → Bool) (does : S → SubscriberCall → S → Type 0) (touches : S → PartCall → S → Type 0) (same : S → S → Type 0)
    (at : ℕ) (first : List (Instrumented TaskFuture)) (old : WorldValue S) (before : Lane) (e : EnterError) (new : WorldValue S) (later : Lane) : Type 0 where
  pub f : Instrumented TaskFuture
  pub others : List (Instrumented TaskFuture)
  pub is : first ≡ f ∷ others
  pub world : WorldValue S
  pub stops : TurnStops spans hint enables activates does touches same at f old before e world later
  pub dropped : DropsAll spans hint enables does touches at others world new
