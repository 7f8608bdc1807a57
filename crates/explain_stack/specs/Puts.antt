-- What is put under a span, and closed again.
use Rattle.std.specs.Prelude.{◌≡◌, ◌⊎◌, ℕ, Bool, Some}
use Rattle.trace_base.specs.declared.lane.Lane.{Lane}
use Rattle.trace_base.specs.Gate.{WorldValue}
use Rattle.trace_base.specs.Spans.{Spans}
use Rattle.trace_base.specs.Calls.{SubscriberCall}
use Rattle.span_handles.specs.Worlds.{Chain}
use Rattle.span_handles.specs.Handles.{Handle, HeldSpan, ReplacedOn, CopiesCurrent, same_held}
use Rattle.span_futures.specs.declared.instrument.Instrumented.{Instrumented}
use Rattle.span_futures.specs.Polls.{PollResult, FailsToEnter, PollsInside}

-- the span of a handle is released at a moment, and its parents behind it where it closes
abbrev pub ClosesHeld : {S : Type 0} → (S → Spans) → (S → SubscriberCall → S → Type 0) → ℕ → WorldValue S → WorldValue S → HeldSpan → Type 0
ClosesHeld spans does at old new held = ReplacedOn (λ id s t. Chain spans does at (Some id) s t) old new held

-- a handle of the lane's current span is made, compared with another one, and closed
pub record PutsAround {S : Type 0} (spans : S → Spans) (does : S → SubscriberCall → S → Type 0) (old new : WorldValue S) (lane dispatch at : ℕ) (held : HeldSpan) (is_around : Bool) : Type 0 where
  pub current : Handle
  pub between : WorldValue S
  pub put : CopiesCurrent spans does old between lane (Some dispatch) current
  pub is : is_around ≡ same_held current.held held
  pub closed : ClosesHeld spans does at between new current.held

-- a future is polled under its span, where this can be entered
pub record PollsUnder {S T A : Type 0} (same : S → S → Type 0) (does : S → SubscriberCall → S → Type 0) (activates : S → ℕ → Bool) (polls : T → WorldValue S → Lane → ℕ → PollResult A → T → WorldValue S → Lane → Type 0)
    (future : Instrumented T) (old : WorldValue S) (before : Lane) (at : ℕ) (result : PollResult A) (new : WorldValue S) (later : Lane) : Type 0 where
  pub next : Instrumented T
  pub did : FailsToEnter same activates future old before result next new later ⊎ PollsInside does activates polls future old before at result next new later
