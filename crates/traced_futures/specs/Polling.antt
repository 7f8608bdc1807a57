-- Polls inside spans, in a world that stands.
use Rattle.std.specs.Prelude.{◌≡◌, ◌+◌, ◌⊎◌, ℕ, Bool, true, false, List, ◌∷◌, length, Ok, Err, IsOk}
use Rattle.futures.specs.declared.task.Poll.TheVariants.{Ready, Pending}
use Rattle.trace_base.specs.declared.field.ValueSet.{ValueSet}
use Rattle.trace_base.specs.declared.lane.Lane.{Lane}
use Rattle.trace_base.specs.declared.span.Parent.{Parent}
use Rattle.trace_base.specs.declared.subscriber.Subscriber.{Ghosts}
use Rattle.trace_base.specs.Gate.{WorldValue, IsInWorld}
use Rattle.span_handles.specs.Handles.{Handle}
pub use Rattle.span_futures.specs.declared.instrument.Instrumented.{Instrumented}
pub use Rattle.span_futures.specs.declared.plain.Plain.{Plain}
use Rattle.span_futures.specs.Lent.{HasAll, AreAllAttached}
use Rattle.span_futures.specs.Polls.{PollResult, FailsToEnter, PollsInside}
use Rattle.traced.specs.Standing.{StandsReady, IsHeld}
use Rattle.traced.specs.AsBefore.{IsAsBefore}
use Rattle.traced.specs.Between.{MakesAndCloses}
use Rattle.traced.specs.Keeping.{RestoresWorld}

-- A world and a lane can be lent to a future, which may call any subscriber: each is whole, and what it keeps attached to
-- the lane is attached there.
pub record CanLend {S : Type 0} (sub : Ghosts S) (world : WorldValue S) (lane : Lane) : Type 0 where
  pub whole : HasAll sub.is_whole world
  pub in_world : IsInWorld world lane.default
  pub still : AreAllAttached sub.kept world lane

-- a poll that leaves world and lane alone
abbrev pub ChangesNothing : {T S A : Type 0} → T → WorldValue S → Lane → ℕ → PollResult A → T → WorldValue S → Lane → Type 0
ChangesNothing future old before at result next new later = (new ≡ old) × (later ≡ before) × IsOk result

-- such a future was polled inside its span, or that couldn't be entered and the future wasn't polled
abbrev pub PollsPlain : {T S A : Type 0} → Ghosts S → Instrumented T → WorldValue S → Lane → ℕ → PollResult A → Instrumented T → WorldValue S → Lane → Type 0
PollsPlain sub future old before at result next new later =
    FailsToEnter sub.same_but_room sub.activates future old before result next new later
    ⊎ PollsInside sub.does sub.activates ChangesNothing future old before at result next new later

-- whether a poll came to a value
abbrev pub is_ready : {A : Type 0} → PollResult A → Bool
is_ready (Ok (Ready value)) = true
is_ready (Ok Pending) = false
is_ready (Err error) = false

-- such a poll, and whether it came to a value
abbrev pub PollsOnce : {T S : Type 0} → (A : Type 0) → Ghosts S → Instrumented T → WorldValue S → Lane → ℕ → Bool → Instrumented T → WorldValue S → Lane → Type 0
PollsOnce A sub future old before at ready next new later = (polled : PollResult A) × (ready ≡ is_ready polled) × PollsPlain sub future old before at polled next new later

-- A poll leaves all as it was. The world stands with an entry more.
pub record Polls {S : Type 0} (sub : Ghosts S) (old new : WorldValue S) (before left : Lane) (handle : Handle) : Type 0 where
  pub lane_id : left.id ≡ before.id
  pub count : length new.subscribers ≡ length old.subscribers
  pub stands : (most dispatch sites : ℕ) (others : List Lane) → IsHeld sub dispatch old handle → StandsReady sub most dispatch sites old (before ∷ others) → StandsReady sub (most + 1) dispatch sites new (left ∷ others)
  pub as_before : (dispatch : ℕ) → IsHeld sub dispatch old handle → IsAsBefore sub dispatch old new

-- the same of some polls: the future is under the span that it was under, and that is held on
pub record KeepsFuture {T S : Type 0} (sub : Ghosts S) (most sites : ℕ) (future : Instrumented T) (old : WorldValue S) (lanes : List Lane) (later : Instrumented T) (new : WorldValue S) (left : List Lane) : Type 0 where
  pub keeps : RestoresWorld sub most sites old lanes new left
  pub span : later.span ≡ future.span
  pub held : IsHeld sub 0 new later.span

-- a span is made under a parent at a moment, a future is put under it, and it is closed at another behind what is done with that
pub record RunsUnder {T S : Type 0} (sub : Ghosts S) (lane : Lane) (parent : Parent) (site : ℕ) (values : ValueSet) (begins ends : ℕ) (inner : T) (between : Instrumented T → WorldValue S → Instrumented T → WorldValue S → Type 0) (old new : WorldValue S) : Type 0 where
  pub runs : MakesAndCloses sub lane parent site values begins ends (λ span begun ended. (later : Instrumented T) × between (record { inner = inner; span = span }) begun later ended) old new
