-- Which handles a world goes on to know.
use Rattle.std.specs.Prelude.{◌≡◌, ◌+◌, ℕ}
use Rattle.trace_base.specs.Gate.{WorldValue}
use Rattle.trace_base.specs.Spans.{Spans}
use Rattle.trace_base.specs.Calls.{SubscriberCall, NewSpan, Records, Follows, Event, Enter, Exit, CloneSpan, TryClose}
use Rattle.span_handles.specs.Handles.{HeldSpan, IsKnown, IsKnownBeside}

-- all handles that were known are known
abbrev pub KeepsKnown : {S : Type 0} → (S → Spans) → WorldValue S → WorldValue S → Type 0
KeepsKnown spans old new = (held : HeldSpan) → IsKnown spans old held → IsKnown spans new held

-- all handles that were known are known, each beside as many others
pub record KeepsHandles {S : Type 0} (spans : S → Spans) (old new : WorldValue S) : Type 0 where
  pub known : KeepsKnown spans old new
  pub beside : (others : ℕ) (held : HeldSpan) → IsKnownBeside spans others old held → IsKnownBeside spans others new held

-- the same of all handles but those of one span
pub record KeepsOthers {S : Type 0} (spans : S → Spans) (old new : WorldValue S) (closed : HeldSpan) : Type 0 where
  pub known : (held : HeldSpan) → (held ≡ closed → ⊥) → IsKnown spans old held → IsKnown spans new held
  pub beside : (others : ℕ) (held : HeldSpan) → (held ≡ closed → ⊥) → IsKnownBeside spans others old held → IsKnownBeside spans others new held

-- beside a handle of a span there is one other more
pub record GainsOne {S : Type 0} (spans : S → Spans) (old new : WorldValue S) (held : HeldSpan) : Type 0 where
  pub first : IsKnown spans old held → IsKnownBeside spans 1 new held
  pub more : (others : ℕ) → IsKnownBeside spans others old held → IsKnownBeside spans (others + 1) new held

-- and one less
pub record LosesOne {S : Type 0} (spans : S → Spans) (old new : WorldValue S) (held : HeldSpan) : Type 0 where
  pub last : IsKnownBeside spans 1 old held → IsKnown spans new held
  pub fewer : (others : ℕ) → IsKnownBeside spans (others + 1) old held → IsKnownBeside spans others new held

-- a call that isn't a close
abbrev pub IsNoClose : SubscriberCall → Type 0
IsNoClose (NewSpan lane at parent site callsite values) = Unit {0}
IsNoClose (TryClose id at) = ⊥
IsNoClose (Records id at callsite values) = Unit {0}
IsNoClose (Follows id from at) = Unit {0}
IsNoClose (Event lane at parent site callsite values) = Unit {0}
IsNoClose (Enter id at before later) = Unit {0}
IsNoClose (Exit id at before later) = Unit {0}
IsNoClose (CloneSpan id) = Unit {0}
