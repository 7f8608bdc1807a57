-- Tasks that wait for their next poll over a tape, whose requests are handed on after each poll.
use Rattle.std.specs.Prelude.{◌≡◌, ℕ, ◌<◌, List, [], ◌∷◌, length, None, Some, slice_get, slice_set}
use Rattle.trace_base.specs.declared.callsite.Callsite.{Callsite}
use Rattle.trace_base.specs.declared.lane.Lane.{Lane}
use Rattle.trace_base.specs.declared.subscriber.Interest.TheVariants as interests
use Rattle.trace_base.specs.Gate.{WorldValue, cached_at}
use Rattle.trace_base.specs.Spans.{span_at, entries_on}
use Rattle.span_handles.specs.Worlds.{Replaced}
use Rattle.span_handles.specs.Handles.{Handle, HeldSpan, handle_of}
use Rattle.span_futures.specs.declared.instrument.Instrumented.{Instrumented}
use Rattle.span_script.specs.declared.request.Request.{Request}
use Rattle.trace_tape.specs.Tapes.{TapeValue, handle_count_of}
use Rattle.trace_tasks.specs.declared.running.TaskFuture.{TaskFuture}
use Rattle.trace_tasks.specs.Carrying.{TaskScene}
use Rattle.trace_tasks.specs.Flat.{UnfinishedTask, poll_count, turns_requests}
use Rattle.trace_tasks.specs.Spelled.{StepsAreDeclared}
use Rattle.trace_tasks.specs.Turning.{root_of_one_handle}
use Rattle.trace_tasks.specs.Waiting.{AllStand}

-- a tape between polls, after k of them
pub record BetweenPolls (d : ℕ) (sites : List Callsite) (k : ℕ) (s : TaskScene TapeValue) (tape : TapeValue) : Type 0 where
  pub there : slice_get s.world.subscribers d ≡ Some tape
  pub sites_are : s.world.sites ≡ sites
  pub cached : (n : ℕ) → n < length sites → cached_at s.world.cached d n ≡ interests.Always
  pub no_due : tape.due ≡ None
  pub no_entries : tape.entries ≡ []
  pub guards : tape.made_guard_count ≡ k
  pub guard_count : length s.guards ≡ k
  pub none_open : entries_on s.lane.id tape.below.spans.lanes ≡ []

-- a task that waits, on a tape
pub record HeldOnce (d : ℕ) (s : TaskScene TapeValue) (tape : TapeValue) (t : UnfinishedTask) : Type 0 where
  pub handle : slice_get s.handles t.number ≡ Some (handle_of d t.number t.site)
  pub lone : span_at tape.below.spans.made t.number ≡ root_of_one_handle t.site
  pub once : handle_count_of tape.handle_counts t.number ≡ 1

-- a task that waits on a tape, with steps that were tested
pub record CanBePolled (d : ℕ) (sites : List Callsite) (s : TaskScene TapeValue) (tape : TapeValue) (t : UnfinishedTask) : Type 0 where
  pub waits : HeldOnce d s tape t
  pub callsite : Callsite
  pub is : slice_get sites t.site ≡ Some callsite
  pub tested : StepsAreDeclared sites t.steps

abbrev pub HasOwnNumber : UnfinishedTask → List UnfinishedTask → Type 0
HasOwnNumber t [] = Unit {0}
HasOwnNumber t (u ∷ us) = (u.number ≡ t.number → ⊥) × HasOwnNumber t us

abbrev pub AllCanBePolled : ℕ → List Callsite → TaskScene TapeValue → TapeValue → List UnfinishedTask → Type 0
AllCanBePolled d sites s tape [] = Unit {0}
AllCanBePolled d sites s tape (t ∷ ts) = CanBePolled d sites s tape t × HasOwnNumber t ts × AllCanBePolled d sites s tape ts

-- tasks of a queue that wait on a tape after k polls, all requests having been handed on
pub record WaitOnTape (d : ℕ) (sites : List Callsite) (k : ℕ) (ts : List UnfinishedTask) (world : WorldValue TapeValue) (lane : Lane) (fs : List (Instrumented TaskFuture)) : Type 0 where
  pub handles : List Handle
  pub guards : List HeldSpan
  pub stand : AllStand handles ts fs
  pub tape : TapeValue
  pub between : BetweenPolls d sites k (record { world = world; lane = lane; handles = handles; guards = guards }) tape
  pub waiting : AllCanBePolled d sites (record { world = world; lane = lane; handles = handles; guards = guards }) tape ts
  pub none : tape.requests ≡ []

-- ---- handing on

-- a sink took requests, one after another
abbrev pub TakesAll : {K : Type 0} → (K → Request → K → Type 0) → List Request → K → K → Type 0
TakesAll takes [] old new = new ≡ old
TakesAll {K} takes (r ∷ rs) old new = (m : K) × takes old r m × TakesAll takes rs m new

-- only what was spelled on the tape is another
abbrev pub OnlyRequestsChange : ℕ → WorldValue TapeValue → WorldValue TapeValue → Type 0
OnlyRequestsChange d old new = Replaced (λ s t. t ≡ record s { requests = t.requests }) old new d

-- the requests on the tape were handed on, and none is left on it
pub record HandsOn {K : Type 0} (takes : K → Request → K → Type 0) (d : ℕ) (old new : WorldValue TapeValue) (before later : K) : Type 0 where
  pub tape : TapeValue
  pub there : slice_get old.subscribers d ≡ Some tape
  pub emptied : new ≡ record old { subscribers = slice_set old.subscribers d (record tape { requests = [] }) }
  pub taken : TakesAll takes tape.requests before later

-- the turns of some tasks were taken over a tape, and their requests handed on
pub record HandsTurnsOn {K : Type 0} (takes : K → Request → K → Type 0) (sites : List Callsite) (ts : List UnfinishedTask) (polls : ℕ) (before later : K) : Type 0 where
  pub polled : polls ≡ poll_count ts
  pub taken : TakesAll takes (turns_requests sites (poll_count ts) 0 ts) before later
