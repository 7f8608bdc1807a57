-- Tasks that wait for their next poll.
use Rattle.std.specs.Prelude.{◌≡◌, ℕ, ◌<◌, Bool, List, [], ◌∷◌, ◌++◌, length, Option, Some, None, slice_get}
use Rattle.std.specs.Option.{option_map}
use Rattle.trace_base.specs.declared.callsite.Callsite.{Callsite}
use Rattle.trace_base.specs.declared.lane.Lane.{Lane}
use Rattle.trace_base.specs.declared.level.LevelFilter.{LevelFilter}
use Rattle.trace_base.specs.Calls.{SubscriberCall}
use Rattle.trace_base.specs.Gate.{WorldValue}
use Rattle.trace_base.specs.lanes.Contexts.{attached_count}
use Rattle.trace_base.specs.Spans.{Span, Spans, span_at, entries_on}
use Rattle.span_handles.specs.Worlds.{spans_in}
use Rattle.span_handles.specs.Handles.{Handle, HeldSpan}
use Rattle.span_futures.specs.declared.instrument.Instrumented.{Instrumented}
use Rattle.span_futures.specs.Lent.{HasAll, AreAllAttached}
use Rattle.otel_layer.specs.Parts.{PartCall}
use Rattle.trace_tasks.specs.declared.running.TaskFuture.{TaskFuture}
use Rattle.trace_tasks.specs.Acts.{steps_left}
use Rattle.trace_tasks.specs.Carrying.{Carries}
use Rattle.trace_tasks.specs.Flat.{UnfinishedTask, poll_requests, moment_of}

-- the subscriber that serves a lane by the lane's default
abbrev pub dispatch_of_default : Option ℕ → ℕ
dispatch_of_default None = 0
dispatch_of_default (Some d) = d

abbrev pub dispatch_serving : Lane → ℕ
dispatch_serving lane = dispatch_of_default lane.default

-- a world and a lane between polls: the lane has a default of the world, and no entry is open on it there
pub record ReadyToPoll {S : Type 0} (spans : S → Spans) (kept : S → ℕ → ℕ → ℕ) (is_whole : S → Type 0) (world : WorldValue S) (lane : Lane) : Type 0 where
  pub default : lane.default ≡ Some (dispatch_serving lane)
  pub there : dispatch_serving lane < length world.subscribers
  pub whole : HasAll is_whole world
  pub still : AreAllAttached kept world lane
  pub none_open : entries_on lane.id (spans_in spans world (dispatch_serving lane)).lanes ≡ []

-- a root that one handle holds
abbrev pub root_of_one_handle : ℕ → Span
root_of_one_handle site = record { holds = 1; parent = None; site = site }

-- a handle with a callsite: it is the only hold of a root, or it is disabled
abbrev pub IsAloneAs : List Span → ℕ → ℕ → HeldSpan → Type 0
IsAloneAs made d site None = Unit {0}
IsAloneAs made d site (Some held) = (held.0 ≡ d) × (span_at made held.1 ≡ root_of_one_handle site)

pub record IsAlone (made : List Span) (d site : ℕ) (handle : Handle) : Type 0 where
  pub site_is : handle.site ≡ Some site
  pub held_is : IsAloneAs made d site handle.held

-- the task of a handle's number
abbrev pub unfinished_task : ℕ → ℕ → TaskFuture → UnfinishedTask
unfinished_task number site f = record { number = number; site = site; steps = f.steps.items }

-- what becomes of a task that is polled: it has the steps behind the yield left, or it is finished
abbrev pub IsAfterPoll : Option (Instrumented TaskFuture) → Instrumented TaskFuture → Type 0
IsAfterPoll None f = steps_left f.inner.steps.items ≡ None
IsAfterPoll (Some g) f = (steps_left f.inner.steps.items ≡ Some g.inner.steps.items) × (g.span ≡ f.span)

-- the spans after a poll: all are the same, but for one that closed
abbrev pub OtherSpansStay : Option (Instrumented TaskFuture) → HeldSpan → List Span → List Span → Type 0
OtherSpansStay None held old new = (q : ℕ) → (option_map (λ h. h.1) held ≡ Some q → ⊥) → span_at new q ≡ span_at old q
OtherSpansStay (Some g) held old new = new ≡ old

-- the same contexts are attached to a lane, by their numbers
abbrev pub SameAttached : Lane → Lane → Type 0
SameAttached before later = (number : ℕ) → attached_count number later ≡ attached_count number before

-- a poll of a task, and its end if it is finished, are the requests of its poll
pub record PollsTask {S : Type 0} (spans : S → Spans) (hint : S → Option LevelFilter) (enables : S → ℕ → Callsite → Bool) (kept : S → ℕ → ℕ → ℕ) (is_whole : S → Type 0) (does : S → SubscriberCall → S → Type 0) (touches : S → PartCall → S → Type 0)
    (at : ℕ) (f : Instrumented TaskFuture) (old : WorldValue S) (before : Lane) (left : Option (Instrumented TaskFuture)) (new : WorldValue S) (later : Lane) : Type 0 where
  pub left_is : IsAfterPoll left f
  pub ready : ReadyToPoll spans kept is_whole new later
  pub lane_id : later.id ≡ before.id
  pub default : later.default ≡ before.default
  pub attached : SameAttached before later
  pub sites : new.sites ≡ old.sites
  pub count : length new.subscribers ≡ length old.subscribers
  pub stay : OtherSpansStay left f.span.held (spans_in spans old (dispatch_serving before)).made (spans_in spans new (dispatch_serving before)).made
  pub carried : (number site k : ℕ) (handles : List Handle) (guards : List HeldSpan) → at ≡ moment_of k → length guards ≡ k → slice_get handles number ≡ Some f.span → f.span.site ≡ Some site
      → Carries spans hint enables does touches (dispatch_serving before) (poll_requests old.sites k (unfinished_task number site f.inner))
      (record { world = old; lane = before; handles = handles; guards = guards }) (record { world = new; lane = later; handles = handles; guards = guards ++ f.span.held ∷ [] })
