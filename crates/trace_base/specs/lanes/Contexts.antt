-- The contexts that something keeps attached to lanes.
use Rattle.std.specs.Prelude.{◌≡◌, ℕ, ◌+◌, ◌≤◌, ◌==◌, if◌then◌else◌, Bool, false, length, count_by}
use Rattle.otel_base.specs.declared.stack.TheConstants.{MAX_CONTEXTS}
use Rattle.trace_base.specs.declared.lane.Lane.{Lane}
use Rattle.trace_base.specs.Calls.{SubscriberCall, NewSpan, Records, Follows, Event, Enter, Exit, CloneSpan, TryClose}

-- how many live contexts of a lane have the number of an attach: one or none
abbrev pub attached_count : ℕ → Lane → ℕ
attached_count number lane = count_by (λ item. item.0 == number) lane.contexts.live

-- the same, of the lane with an id
abbrev pub attached_count_on : ℕ → ℕ → Lane → ℕ
attached_count_on id number lane = if lane.id == id then attached_count number lane else 0

-- as many contexts are live as may be
abbrev pub IsFull : Lane → Type 0
IsFull lane = length lane.contexts.live ≡ MAX_CONTEXTS

-- all that is kept attached to a lane, by lane and number, is still attached there
abbrev pub AreAttached : (ℕ → ℕ → ℕ) → Lane → Type 0
AreAttached kept lane = (number : ℕ) → kept lane.id number ≤ attached_count number lane

-- what was attached or detached between two moments of a lane is what is kept more or less
abbrev pub TracksAttached : (ℕ → ℕ → ℕ) → Lane → Lane → (ℕ → ℕ → ℕ) → Type 0
TracksAttached kept before later now = (lane number : ℕ) → now lane number + attached_count_on lane number before ≡ kept lane number + attached_count_on lane number later

-- the lane has the same id, name and default; and where nothing can be attached the same contexts and room
pub record KeepsLane (attaches : Bool) (before later : Lane) : Type 0 where
  pub id : later.id ≡ before.id
  pub name : later.name ≡ before.name
  pub default : later.default ≡ before.default
  pub as_it_is : attaches ≡ false → later ≡ before

-- the same, and the same contexts too: only their room may differ
pub record KeepsLive (attaches : Bool) (before later : Lane) : Type 0 where
  pub keeps : KeepsLane attaches before later
  pub live : later.contexts.live ≡ before.contexts.live

-- what a call makes of lanes and of what is kept attached
abbrev pub CallKeepsLanes : Bool → (ℕ → ℕ → ℕ) → SubscriberCall → (ℕ → ℕ → ℕ) → Type 0
CallKeepsLanes attaches kept (Enter id at before later) now = KeepsLane attaches before later × TracksAttached kept before later now
CallKeepsLanes attaches kept (Exit id at before later) now = KeepsLane attaches before later × TracksAttached kept before later now
CallKeepsLanes attaches kept (NewSpan lane at parent site callsite values) now = now ≡ kept
CallKeepsLanes attaches kept (Records id at callsite values) now = now ≡ kept
CallKeepsLanes attaches kept (Follows id from at) now = now ≡ kept
CallKeepsLanes attaches kept (Event lane at parent site callsite values) now = now ≡ kept
CallKeepsLanes attaches kept (CloneSpan id) now = now ≡ kept
CallKeepsLanes attaches kept (TryClose id at) now = now ≡ kept
