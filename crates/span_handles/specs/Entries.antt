-- Entries of handles.
use Rattle.std.specs.Prelude.{◌≡◌, ◌<◌, ℕ, Bool, true, length, Some, None}
use Rattle.trace_base.specs.declared.lane.Lane.{Lane}
use Rattle.trace_base.specs.Gate.{WorldValue}
use Rattle.trace_base.specs.lanes.Contexts.{AreAttached, IsFull}
use Rattle.trace_base.specs.Spans.{Spans, entries_on, times_in}
use Rattle.trace_base.specs.Calls.{SubscriberCall, Enter}
use Rattle.span_handles.specs.Worlds.{Has}
use Rattle.span_handles.specs.Handles.{Handle, HeldSpan, IsKnown, HasOn, ReplacedOn}

-- the subscriber of an enabled handle is there
abbrev pub IsThere : {S : Type 0} → WorldValue S → HeldSpan → Type 0
IsThere world None = Unit {0}
IsThere world (Some held) = held.0 < length world.subscribers

-- a lane is the same but for room for contexts
pub record KeepsLaneButRoom (before later : Lane) : Type 0 where
  pub id : later.id ≡ before.id
  pub name : later.name ≡ before.name
  pub default : later.default ≡ before.default
  pub live : later.contexts.live ≡ before.contexts.live

-- an entry of an enabled handle's span attaches a context, and the lane has as many as may be
abbrev pub MeetsFullLane : {S : Type 0} → (S → ℕ → Bool) → WorldValue S → Lane → HeldSpan → Type 0
MeetsFullLane activates world lane None = ⊥
MeetsFullLane activates world lane (Some held) = Has (λ s. activates s held.1 ≡ true) world held.0 × IsFull lane

-- a guard: the handle whose span was entered, and the lane
pub record EntryGuard : Type 0 where
  pub span : Handle
  pub lane : ℕ

-- the span of an enabled handle has an open entry on a lane
abbrev pub IsOpenOn : {S : Type 0} → (S → Spans) → ℕ → WorldValue S → HeldSpan → Type 0
IsOpenOn spans lane world held = HasOn (λ s id. 0 < times_in id (entries_on lane (spans s).lanes)) world held

-- what the subscriber of an enabled handle keeps attached to a lane is attached there
abbrev pub IsAttachedOn : {S : Type 0} → (S → ℕ → ℕ → ℕ) → Lane → WorldValue S → HeldSpan → Type 0
IsAttachedOn kept lane world held = HasOn (λ s id. AreAttached (kept s) lane) world held

-- inside a handle's span: it was entered, and nothing else happened
pub record BeginsInside {S : Type 0} (does : S → SubscriberCall → S → Type 0) (at : ℕ) (held : HeldSpan) (old : WorldValue S) (before : Lane) (world : WorldValue S) (lane : Lane) : Type 0 where
  pub entered : ReplacedOn (λ id s t. does s (Enter id at before lane) t) old world held
  pub none : held ≡ None → lane ≡ before

-- what runs inside a handle's span keeps the handle known and its entry open, and what is kept attached stays so
pub record KeepsEntry {S : Type 0} (spans : S → Spans) (kept : S → ℕ → ℕ → ℕ) (is_whole : S → Type 0) (held : HeldSpan) (world : WorldValue S) (lane : Lane) (later : WorldValue S) (left : Lane) : Type 0 where
  pub known : IsKnown spans world held → IsKnown spans later held
  pub whole : HasOn (λ s id. is_whole s) world held → HasOn (λ s id. is_whole s) later held
  pub lane_id : left.id ≡ lane.id
  pub open_still : IsOpenOn spans lane.id world held → IsOpenOn spans lane.id later held
  pub attached : IsAttachedOn kept lane world held → IsAttachedOn kept left later held
