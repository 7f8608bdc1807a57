-- The hooks of a layer, and what they make of the spans that it knows.
use Rattle.std.specs.Prelude.{◌≡◌, ℕ, ◌+◌, ◌==◌, ◌&&◌, if◌then◌else◌, Bool, true, false, Option}
use Rattle.trace_base.specs.declared.callsite.Callsite.{Callsite}
use Rattle.trace_base.specs.declared.field.ValueSet.{ValueSet}
use Rattle.trace_base.specs.declared.lane.Lane.{Lane}
use Rattle.trace_base.specs.declared.span.Parent.{Parent}
use Rattle.trace_base.specs.lanes.Contexts.{KeepsLane, TracksAttached}

-- the hooks; an entry and an exit tell the lane before and after
pub data Hook : Type 0 where
  OnNewSpan : (id : ℕ) → (lane : Lane) → (at : ℕ) → (parent : Parent) → (current : Option ℕ) → (callsite : Callsite) → (values : ValueSet) → Hook
  OnRecord : (id at : ℕ) → (callsite : Callsite) → (values : ValueSet) → Hook
  OnFollows : (id from at : ℕ) → Hook
  OnEvent : (reached : Option ℕ) → (lane : Lane) → (at : ℕ) → (callsite : Callsite) → (values : ValueSet) → Hook
  OnEnter : (id at : ℕ) → (before later : Lane) → Hook
  OnExit : (id at : ℕ) → (before later : Lane) → Hook
  OnClose : (id at : ℕ) → Hook

-- what a prepare is for: the arguments of its hook as far as it takes them
pub data Preparation : Type 0 where
  ForNewSpan : (lane : Lane) → (callsite : Callsite) → (values : ValueSet) → Preparation
  ForRecord : (id : ℕ) → (callsite : Callsite) → (values : ValueSet) → Preparation
  ForFollows : (id from : ℕ) → Preparation
  ForEvent : (reached : Option ℕ) → (callsite : Callsite) → (values : ValueSet) → Preparation
  ForEnter : (id lane : ℕ) → Preparation

-- what a layer knows: which spans, and how many entries of a span it has open on a lane
pub record KnownSpans : Type 0 where
  pub knows : ℕ → Bool
  pub entries : ℕ → ℕ → ℕ

-- whether a hook makes, or closes, a span
abbrev pub makes : Hook → ℕ → Bool
makes (OnNewSpan id lane at parent current callsite values) other = id == other
makes (OnRecord id at callsite values) other = false
makes (OnFollows id from at) other = false
makes (OnEvent reached lane at callsite values) other = false
makes (OnEnter id at before later) other = false
makes (OnExit id at before later) other = false
makes (OnClose id at) other = false

abbrev pub closes : Hook → ℕ → Bool
closes (OnNewSpan id lane at parent current callsite values) other = false
closes (OnRecord id at callsite values) other = false
closes (OnFollows id from at) other = false
closes (OnEvent reached lane at callsite values) other = false
closes (OnEnter id at before later) other = false
closes (OnExit id at before later) other = false
closes (OnClose id at) other = id == other

abbrev pub one_if : Bool → ℕ
one_if b = if b then 1 else 0

-- 1 where a hook enters, or exits, that span on that lane
abbrev pub one_if_entered : Hook → ℕ → ℕ → ℕ
one_if_entered (OnEnter id at before later) lane other = one_if (before.id == lane && id == other)
one_if_entered (OnNewSpan id lane at parent current callsite values) l other = 0
one_if_entered (OnRecord id at callsite values) lane other = 0
one_if_entered (OnFollows id from at) lane other = 0
one_if_entered (OnEvent reached lane at callsite values) l other = 0
one_if_entered (OnExit id at before later) lane other = 0
one_if_entered (OnClose id at) lane other = 0

abbrev pub one_if_exited : Hook → ℕ → ℕ → ℕ
one_if_exited (OnExit id at before later) lane other = one_if (before.id == lane && id == other)
one_if_exited (OnEnter id at before later) lane other = 0
one_if_exited (OnNewSpan id lane at parent current callsite values) l other = 0
one_if_exited (OnRecord id at callsite values) lane other = 0
one_if_exited (OnFollows id from at) lane other = 0
one_if_exited (OnEvent reached lane at callsite values) l other = 0
one_if_exited (OnClose id at) lane other = 0

-- A layer comes to know only spans that are made, forgets only those that close, and follows the entries of those it
-- knows.
pub record Sees (old : KnownSpans) (hook : Hook) (new : KnownSpans) : Type 0 where
  pub gains : (id : ℕ) → new.knows id ≡ true → old.knows id ≡ false → makes hook id ≡ true
  pub loses : (id : ℕ) → old.knows id ≡ true → new.knows id ≡ false → closes hook id ≡ true
  pub known : (lane id : ℕ) → old.knows id ≡ true → new.entries lane id + one_if_exited hook lane id ≡ old.entries lane id + one_if_entered hook lane id
  pub unknown : (lane id : ℕ) → old.knows id ≡ false → new.entries lane id ≡ old.entries lane id

-- what a hook makes of lanes and of what is kept attached
abbrev pub HookKeepsLanes : Bool → (ℕ → ℕ → ℕ) → Hook → (ℕ → ℕ → ℕ) → Type 0
HookKeepsLanes attaches kept (OnEnter id at before later) now = KeepsLane attaches before later × TracksAttached kept before later now
HookKeepsLanes attaches kept (OnExit id at before later) now = KeepsLane attaches before later × TracksAttached kept before later now
HookKeepsLanes attaches kept (OnNewSpan id lane at parent current callsite values) now = now ≡ kept
HookKeepsLanes attaches kept (OnRecord id at callsite values) now = now ≡ kept
HookKeepsLanes attaches kept (OnFollows id from at) now = now ≡ kept
HookKeepsLanes attaches kept (OnEvent reached lane at callsite values) now = now ≡ kept
HookKeepsLanes attaches kept (OnClose id at) now = now ≡ kept
