-- Tasks in a queue.
use Rattle.std.specs.Prelude.{◌≡◌, ℕ, ◌+◌, List, [], ◌∷◌, ◌++◌, Bool, true, false, Option, Some, None, slice_get, sum_by}
use Rattle.trace_base.specs.declared.callsite.Callsite.{Callsite}
use Rattle.trace_base.specs.declared.lane.Lane.{Lane}
use Rattle.trace_base.specs.declared.level.LevelFilter.{LevelFilter}
use Rattle.trace_base.specs.Calls.{SubscriberCall}
use Rattle.trace_base.specs.Gate.{WorldValue}
use Rattle.trace_base.specs.Spans.{Spans}
use Rattle.span_handles.specs.Worlds.{spans_in}
use Rattle.span_handles.specs.Handles.{Handle, HeldSpan, IsKnown, id_of}
use Rattle.span_futures.specs.declared.instrument.Instrumented.{Instrumented}
use Rattle.otel_layer.specs.Parts.{PartCall}
use Rattle.trace_tasks.specs.declared.running.TaskFuture.{TaskFuture}
use Rattle.trace_tasks.specs.Carrying.{Carries}
use Rattle.trace_tasks.specs.Flat.{UnfinishedTask, yield_count, poll_count, turns_requests}
use Rattle.trace_tasks.specs.Turning.{IsAlone, PollsTask, dispatch_serving}

-- a task whose handle is known and alone holds its span
pub record Waits {S : Type 0} (spans : S → Spans) (world : WorldValue S) (d : ℕ) (f : Instrumented TaskFuture) : Type 0 where
  pub known : IsKnown spans world f.span.held
  pub site : ℕ
  pub lone : IsAlone (spans_in spans world d).made d site f.span

-- two tasks of different spans
abbrev pub IsApart : HeldSpan → HeldSpan → Type 0
IsApart held other = (id : ℕ) → id_of held ≡ Some id → id_of other ≡ Some id → ⊥

abbrev pub AreApart : Instrumented TaskFuture → List (Instrumented TaskFuture) → Type 0
AreApart f [] = Unit {0}
AreApart f (g ∷ gs) = IsApart f.span.held g.span.held × AreApart f gs

-- all tasks of a queue wait, each of a span of its own
abbrev pub AllWait : {S : Type 0} → (S → Spans) → WorldValue S → ℕ → List (Instrumented TaskFuture) → Type 0
AllWait spans world d [] = Unit {0}
AllWait spans world d (f ∷ fs) = Waits spans world d f × AreApart f fs × AllWait spans world d fs

-- the handles of all tasks of a queue are known
abbrev pub AllKnownAndApart : {S : Type 0} → (S → Spans) → WorldValue S → List (Instrumented TaskFuture) → Type 0
AllKnownAndApart spans world [] = Unit {0}
AllKnownAndApart spans world (f ∷ fs) = IsKnown spans world f.span.held × AreApart f fs × AllKnownAndApart spans world fs

-- the handles of all spans but one stay known
abbrev pub KeepsKnownBut : {S : Type 0} → (S → Spans) → WorldValue S → WorldValue S → HeldSpan → Type 0
KeepsKnownBut spans old new closed = (held : HeldSpan) → (held ≡ closed → ⊥) → IsKnown spans old held → IsKnown spans new held

-- tasks, and where they stand in a script
pub record TaskStands (handles : List Handle) (t : UnfinishedTask) (f : Instrumented TaskFuture) : Type 0 where
  pub handle : slice_get handles t.number ≡ Some f.span
  pub site : f.span.site ≡ Some t.site
  pub steps : t.steps ≡ f.inner.steps.items

abbrev pub AllStand : List Handle → List UnfinishedTask → List (Instrumented TaskFuture) → Type 0
AllStand handles [] [] = Unit {0}
AllStand handles [] (f ∷ fs) = ⊥
AllStand handles (t ∷ ts) [] = ⊥
AllStand handles (t ∷ ts) (f ∷ fs) = TaskStands handles t f × AllStand handles ts fs

-- a task goes to the end of a queue, if it isn't finished
abbrev pub queue_with : List (Instrumented TaskFuture) → Option (Instrumented TaskFuture) → List (Instrumented TaskFuture)
queue_with fs None = fs
queue_with fs (Some g) = fs ++ g ∷ []

-- as many polls as a queue takes
abbrev pub polls_in : List (Instrumented TaskFuture) → ℕ
polls_in fs = sum_by (λ f. yield_count f.inner.steps.items + 1) fs

-- the first task of a queue was polled once, and went to the end if it wasn't finished
pub record TakesTurn {S : Type 0} (spans : S → Spans) (hint : S → Option LevelFilter) (enables : S → ℕ → Callsite → Bool) (kept : S → ℕ → ℕ → ℕ) (is_whole : S → Type 0) (does : S → SubscriberCall → S → Type 0) (touches : S → PartCall → S → Type 0)
    (at : ℕ) (first : List (Instrumented TaskFuture)) (old : WorldValue S) (before : Lane) (last : List (Instrumented TaskFuture)) (new : WorldValue S) (later : Lane) : Type 0 where
  pub f : Instrumented TaskFuture
  pub others : List (Instrumented TaskFuture)
  pub is : first ≡ f ∷ others
  pub left : Option (Instrumented TaskFuture)
  pub queue : last ≡ queue_with others left
  pub turned : PollsTask spans hint enables kept is_whole does touches at f old before left new later
  pub wait : AllWait spans new (dispatch_serving later) last

-- the same if there is a task
abbrev pub TakesTurnIf : {S : Type 0} → (S → Spans) → (S → Option LevelFilter) → (S → ℕ → Callsite → Bool) → (S → ℕ → ℕ → ℕ) → (S → Type 0) → (S → SubscriberCall → S → Type 0) → (S → PartCall → S → Type 0)
    → ℕ → Bool → List (Instrumented TaskFuture) → WorldValue S → Lane → List (Instrumented TaskFuture) → WorldValue S → Lane → Type 0
TakesTurnIf spans hint enables kept is_whole does touches at true first old before last new later = TakesTurn spans hint enables kept is_whole does touches at first old before last new later
TakesTurnIf spans hint enables kept is_whole does touches at false first old before last new later = (first ≡ []) × (last ≡ []) × (new ≡ old) × (later ≡ before)

-- the tasks of a queue were polled in turn until all were finished
pub record TakesTurns {S : Type 0} (spans : S → Spans) (hint : S → Option LevelFilter) (enables : S → ℕ → Callsite → Bool) (does : S → SubscriberCall → S → Type 0) (touches : S → PartCall → S → Type 0)
    (handles : List Handle) (ts : List UnfinishedTask) (old new : WorldValue S) (before later : Lane) (polls : ℕ) : Type 0 where
  pub guards : List HeldSpan
  pub polled : polls ≡ poll_count ts
  pub carried : Carries spans hint enables does touches (dispatch_serving before) (turns_requests old.sites (poll_count ts) 0 ts)
      (record { world = old; lane = before; handles = handles; guards = [] }) (record { world = new; lane = later; handles = handles; guards = guards })
