-- What is made is closed, and what is entered is exited.
use Rattle.std.specs.Prelude.{◌≡◌, ◌<◌, ℕ, length, Option, Some, None}
use Rattle.trace_base.specs.declared.subscriber.Subscriber.{Ghosts}
use Rattle.trace_base.specs.Gate.{WorldValue}
use Rattle.trace_base.specs.Spans.{Spans, span_at, entries_on, times_in}
use Rattle.trace_base.specs.Calls.{with_new_span, with_span_entry}
use Rattle.span_handles.specs.Worlds.{spans_in}
use Rattle.span_handles.specs.Handles.{HeldSpan, Handle, IsKnown}
use Rattle.span_handles.specs.Knowing.{KeepsKnown}
use Rattle.span_handles.specs.Entries.{EntryGuard}
use Rattle.traced.specs.Standing.{IsHeld}

-- Each span is as it was: one with a hold more has given it back, and a new one has closed. Each lane's entries are those
-- that were open: one that was made since has been exited.
pub record AreAsBefore (x y : Spans) : Type 0 where
  pub spans : (id : ℕ) → span_at y.made id ≡ span_at x.made id
  pub entries : (lane : ℕ) → entries_on lane y.lanes ≡ entries_on lane x.lanes

-- the same of a world's subscriber, and all handles that were known are
pub record IsAsBefore {S : Type 0} (sub : Ghosts S) (dispatch : ℕ) (old new : WorldValue S) : Type 0 where
  pub known : KeepsKnown sub.spans old new
  pub as_before : AreAsBefore (spans_in sub.spans old dispatch) (spans_in sub.spans new dispatch)

-- of spans that are as they were but for one, the newest, which has one hold
pub record IsNewest (x y : Spans) (id : ℕ) : Type 0 where
  pub above : Option ℕ
  pub site : ℕ
  pub is : id ≡ length x.made
  pub live : (p : ℕ) → above ≡ Some p → 0 < (span_at x.made p).holds
  pub made : AreAsBefore (with_new_span x above site) y

-- a handle is of the newest span, and nothing was made where it is disabled
abbrev pub IsOfNewest : Spans → Spans → HeldSpan → Type 0
IsOfNewest x y None = AreAsBefore x y
IsOfNewest x y (Some held) = IsNewest x y held.1

-- nobody had a handle of the span before
abbrev pub HadNoHandle : {S : Type 0} → Ghosts S → WorldValue S → HeldSpan → Type 0
HadNoHandle sub old None = Unit {0}
HadNoHandle sub old (Some held) = IsKnown sub.spans old (Some held) → ⊥

-- a span was made, of which there is this handle, and else all is as before
pub record HasMade {S : Type 0} (sub : Ghosts S) (dispatch : ℕ) (old new : WorldValue S) (handle : Handle) : Type 0 where
  pub known : KeepsKnown sub.spans old new
  pub held : IsHeld sub dispatch new handle
  pub is_new : HadNoHandle sub old handle.held
  pub newest : IsOfNewest (spans_in sub.spans old dispatch) (spans_in sub.spans new dispatch) handle.held

-- the span has a hold
abbrev pub IsLiveOn : HeldSpan → Spans → Type 0
IsLiveOn None x = Unit {0}
IsLiveOn (Some held) x = 0 < (span_at x.made held.1).holds

-- spans are as they were but for one entry more
abbrev pub GainsEntry : HeldSpan → ℕ → Spans → Spans → Type 0
GainsEntry None lane x y = AreAsBefore x y
GainsEntry (Some held) lane x y = AreAsBefore (with_span_entry x held.1 lane) y

-- a span was entered, of which there is this guard, and else all is as before
pub record HasEntered {S : Type 0} (sub : Ghosts S) (dispatch : ℕ) (old new : WorldValue S) (guard : EntryGuard) : Type 0 where
  pub known : KeepsKnown sub.spans old new
  pub held : IsHeld sub dispatch new guard.span
  pub live : IsLiveOn guard.span.held (spans_in sub.spans old dispatch)
  pub entered_once : GainsEntry guard.span.held guard.lane (spans_in sub.spans old dispatch) (spans_in sub.spans new dispatch)

-- the span of a guard, if it is enabled, has an open entry on the guard's lane
abbrev pub IsOpen : HeldSpan → ℕ → Spans → Type 0
IsOpen None lane x = Unit {0}
IsOpen (Some held) lane x = 0 < times_in held.1 (entries_on lane x.lanes)

-- a guard of the subscriber, whose entry is open
pub record IsInside {S : Type 0} (sub : Ghosts S) (dispatch : ℕ) (world : WorldValue S) (guard : EntryGuard) : Type 0 where
  pub held : IsHeld sub dispatch world guard.span
  pub open_still : IsOpen guard.span.held guard.lane (spans_in sub.spans world dispatch)
