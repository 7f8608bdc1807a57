-- Handles, and what a call on one makes of its world.
use Rattle.std.specs.Prelude.{◌≡◌, ◌<◌, ◌+◌, ◌==◌, ◌&&◌, ℕ, Bool, false, [], ◌∷◌, length, Option, Some, None, IfSome, option_map, slice_get}
use Rattle.trace_base.specs.declared.callsite.Callsite.{Callsite}
use Rattle.trace_base.specs.declared.field.Field.{Field}
use Rattle.trace_base.specs.declared.field.Value.{Value}
use Rattle.trace_base.specs.declared.field.ValueSet.{ValueSet}
use Rattle.trace_base.specs.declared.lane.Lane.{Lane}
use Rattle.trace_base.specs.declared.span.Parent.{Parent}
use Rattle.trace_base.specs.declared.span.Parent.TheVariants as parent
use Rattle.trace_base.specs.Gate.{WorldValue}
use Rattle.trace_base.specs.Spans.{Spans, span_at, current_on, bound_holds}
use Rattle.trace_base.specs.Calls.{SubscriberCall, NewSpan, Records, Follows, CloneSpan}
use Rattle.trace_base.specs.Conditions.{HasUnboundHold, ParentHasFewHolds, AreFew, IsLiveParent}
use Rattle.span_handles.specs.Worlds.{Has, Replaced}

-- what an enabled handle or an entry stands for: the dispatch and the id of a span; nothing where it is disabled
abbrev pub HeldSpan : Type 0
HeldSpan = Option (ℕ × ℕ)

-- a handle: its span, if it is enabled, and the site of its callsite, if it has one
pub record Handle : Type 0 where
  pub held : HeldSpan
  pub site : Option ℕ

abbrev pub no_handle : Handle
no_handle = record { held = None; site = None }

-- a handle of a span of a subscriber
abbrev pub handle_of : ℕ → ℕ → ℕ → Handle
handle_of dispatch id site = record { held = Some (dispatch, id); site = Some site }

abbrev pub id_of : HeldSpan → Option ℕ
id_of held = option_map (λ h. h.1) held

-- two enabled handles of one span
abbrev pub same_held : HeldSpan → HeldSpan → Bool
same_held None other = false
same_held (Some held) None = false
same_held (Some held) (Some other) = held.0 == other.0 && held.1 == other.1

-- An enabled handle is known to a world: its subscriber is there, and its span has a hold beside those of its entries
-- and its open children.
abbrev pub IsKnown : {S : Type 0} → (S → Spans) → WorldValue S → HeldSpan → Type 0
IsKnown spans world None = Unit {0}
IsKnown spans world (Some held) = (held.0 < length world.subscribers) × Has (λ s. HasUnboundHold (spans s) held.1) world held.0

-- it is known beside some other handles of its span: there is a hold more for each of them
abbrev pub IsKnownBeside : {S : Type 0} → (S → Spans) → ℕ → WorldValue S → HeldSpan → Type 0
IsKnownBeside spans others world None = Unit {0}
IsKnownBeside spans others world (Some held) = (held.0 < length world.subscribers) × Has (λ s. bound_holds (spans s) held.1 + others < (span_at (spans s).made held.1).holds) world held.0

-- something holds of the subscriber and of the id of an enabled handle
abbrev pub HasOn : {S : Type 0} → (S → ℕ → Type 0) → WorldValue S → HeldSpan → Type 0
HasOn P world None = Unit {0}
HasOn P world (Some held) = Has (λ s. P s held.1) world held.0

-- something holds of the subscriber that serves a lane, if one does
abbrev pub HasIf : {S : Type 0} → (S → Type 0) → WorldValue S → Option ℕ → Type 0
HasIf P world None = Unit {0}
HasIf P world (Some dispatch) = Has P world dispatch

-- a callsite, if a handle has one, is of the world
abbrev pub IsSite : {S : Type 0} → WorldValue S → Option ℕ → Type 0
IsSite world site = IfSome site (λ k. k < length world.sites)

-- an enabled handle is of a dispatch, and two of one
abbrev pub IsOf : HeldSpan → ℕ → Type 0
IsOf held dispatch = IfSome held (λ h. h.0 ≡ dispatch)

abbrev pub AreOfOne : HeldSpan → HeldSpan → Type 0
AreOfOne held other = IfSome held (λ h. IsOf other h.0)

-- one call of the subscriber of an enabled handle, and nothing on a disabled one
abbrev pub ReplacedOn : {S : Type 0} → (ℕ → S → S → Type 0) → WorldValue S → WorldValue S → HeldSpan → Type 0
ReplacedOn R old new None = new ≡ old
ReplacedOn R old new (Some held) = Replaced (R held.1) old new held.0

-- one call of the subscriber that serves a lane, and nothing where none does
abbrev pub ReplacedIf : {S : Type 0} → (S → S → Type 0) → WorldValue S → WorldValue S → Option ℕ → Type 0
ReplacedIf R old new None = new ≡ old
ReplacedIf R old new (Some dispatch) = Replaced R old new dispatch

-- a subscriber may be asked for a new span under a parent on a lane
pub record MayMake {S : Type 0} (spans : S → Spans) (is_whole : S → Type 0) (world : WorldValue S) (lane : ℕ) (parent : Parent) (dispatch : ℕ) : Type 0 where
  pub there : dispatch < length world.subscribers
  pub whole : Has is_whole world dispatch
  pub live : Has (λ s. IsLiveParent (spans s).made parent) world dispatch
  pub few : Has (λ s. AreFew (spans s)) world dispatch
  pub few_holds : Has (λ s. ParentHasFewHolds (spans s) lane parent) world dispatch

abbrev pub MayMakeIf : {S : Type 0} → (S → Spans) → (S → Type 0) → WorldValue S → ℕ → Parent → Option ℕ → Type 0
MayMakeIf spans is_whole world lane parent None = Unit {0}
MayMakeIf spans is_whole world lane parent (Some dispatch) = MayMake spans is_whole world lane parent dispatch

-- a span was made by one call, and a handle of it
pub record Makes {S : Type 0} (spans : S → Spans) (does : S → SubscriberCall → S → Type 0) (old new : WorldValue S) (lane : Lane) (at : ℕ) (parent : Parent) (site : ℕ) (values : ValueSet) (dispatch : ℕ) (handle : Handle) : Type 0 where
  pub callsite : Callsite
  pub is : slice_get old.sites site ≡ Some callsite
  pub id : ℕ
  pub handle_is : handle ≡ handle_of dispatch id site
  pub made : Replaced (λ s t. (id ≡ length (spans s).made) × does s (NewSpan lane at parent site callsite values) t) old new dispatch

-- the same by the subscriber that serves a lane; without one nothing happens
abbrev pub MakesIf : {S : Type 0} → (S → Spans) → (S → SubscriberCall → S → Type 0) → WorldValue S → WorldValue S → Lane → ℕ → Parent → ℕ → ValueSet → Option ℕ → Handle → Type 0
MakesIf spans does old new lane at parent site values None handle = (handle ≡ no_handle) × (new ≡ old)
MakesIf spans does old new lane at parent site values (Some dispatch) handle = Makes spans does old new lane at parent site values dispatch handle

-- the parent that a handle is: a disabled one makes a root
abbrev pub as_parent : HeldSpan → Parent
as_parent None = parent.Root
as_parent (Some held) = parent.Of held.1

-- a handle of a span with its callsite's site, by one hold more; none where there is no span
abbrev pub Copies : {S : Type 0} → (S → SubscriberCall → S → Type 0) → WorldValue S → WorldValue S → ℕ → Option (ℕ × ℕ) → Handle → Type 0
Copies does old new dispatch None handle = (handle ≡ no_handle) × (new ≡ old)
Copies does old new dispatch (Some current) handle = (handle ≡ handle_of dispatch current.0 current.1) × Replaced (λ s t. does s (CloneSpan current.0) t) old new dispatch

-- the handle is one of the lane's current span
abbrev pub CopiesCurrent : {S : Type 0} → (S → Spans) → (S → SubscriberCall → S → Type 0) → WorldValue S → WorldValue S → ℕ → Option ℕ → Handle → Type 0
CopiesCurrent spans does old new lane None handle = (handle ≡ no_handle) × (new ≡ old)
CopiesCurrent {S} spans does old new lane (Some dispatch) handle = (s : S) → slice_get old.subscribers dispatch ≡ Some s → Copies does old new dispatch (current_on lane (spans s)) handle

-- the callsite of a handle
abbrev pub callsite_in : {S : Type 0} → WorldValue S → Option ℕ → Option Callsite
callsite_in world None = None
callsite_in world (Some site) = slice_get world.sites site

-- the field that something names at a callsite, and at that of a handle
abbrev pub field_at : (Callsite → Option Field) → Option Callsite → Option Field
field_at named None = None
field_at named (Some callsite) = named callsite

abbrev pub field_in : {S : Type 0} → (ℕ → Callsite → Option Field) → WorldValue S → Option ℕ → Option Field
field_in named world None = None
field_in named world (Some site) = field_at (named site) (slice_get world.sites site)

-- values are recorded on the span of an enabled handle with a callsite
abbrev pub RecordsAt : {S : Type 0} → (S → SubscriberCall → S → Type 0) → WorldValue S → WorldValue S → ℕ → ValueSet → HeldSpan → Option Callsite → Type 0
RecordsAt does old new at values None callsite = new ≡ old
RecordsAt does old new at values (Some held) None = new ≡ old
RecordsAt does old new at values (Some held) (Some callsite) = Replaced (λ s t. does s (Records held.1 at callsite values) t) old new held.0

abbrev pub RecordsOn : {S : Type 0} → (S → SubscriberCall → S → Type 0) → WorldValue S → WorldValue S → ℕ → ValueSet → Handle → Type 0
RecordsOn does old new at values handle = RecordsAt does old new at values handle.held (callsite_in old handle.site)

-- a value is recorded where the callsite has a field of that name
abbrev pub RecordsField : {S : Type 0} → (S → SubscriberCall → S → Type 0) → WorldValue S → WorldValue S → ℕ → Option Field → Value → Handle → Type 0
RecordsField does old new at None value handle = new ≡ old
RecordsField does old new at (Some field) value handle = RecordsOn does old new at (record { pairs = (field.place, value) ∷ [] }) handle

-- a span follows from another, where both handles are enabled
abbrev pub FollowsOn : {S : Type 0} → (S → SubscriberCall → S → Type 0) → WorldValue S → WorldValue S → ℕ → HeldSpan → HeldSpan → Type 0
FollowsOn does old new at None from = new ≡ old
FollowsOn does old new at (Some held) None = new ≡ old
FollowsOn does old new at (Some held) (Some from) = Replaced (λ s t. does s (Follows held.1 from.1 at) t) old new held.0

-- a release closes the span of an enabled handle if it was its last hold
abbrev pub ClosesOn : {S : Type 0} → (S → Spans) → WorldValue S → HeldSpan → Bool → Type 0
ClosesOn spans world None closed = closed ≡ false
ClosesOn {S} spans world (Some held) closed = (s : S) → slice_get world.subscribers held.0 ≡ Some s → closed ≡ ((span_at (spans s).made held.1).holds == 1)
