-- A layer over a subscriber: what a call makes of both, and what ties the layer's entries to the subscriber's.
use Rattle.std.specs.Prelude.{◌≡◌, ℕ, ◌<◌, ◌≤◌, if◌then◌else◌, Bool, true, false, ◌||◌, ◌&&◌, length, Option, Some, None, nat_le}
use Rattle.trace_base.specs.declared.callsite.Callsite.{Callsite}
use Rattle.trace_base.specs.declared.level.LevelFilter.{LevelFilter}
use Rattle.trace_base.specs.declared.subscriber.Interest.{Interest}
use Rattle.trace_base.specs.declared.subscriber.Interest.TheVariants as interests
use Rattle.trace_base.specs.declared.lane.Lane.{Lane}
use Rattle.trace_base.specs.Spans.{Spans, span_at, entries_on, times_in, current_of, parent_on}
use Rattle.trace_base.specs.Calls.{SubscriberCall, NewSpan, Records, Follows, Event, Enter, Exit, CloneSpan, TryClose}
use Rattle.trace_base.specs.layers.Hooks.{Hook, OnNewSpan, OnRecord, OnFollows, OnEvent, OnEnter, OnExit, OnClose, KnownSpans}
use Rattle.trace_base.specs.lanes.Contexts.{KeepsLive}
use Rattle.trace_base.specs.words.Level.{greatest_verbosity}

-- the hook of the layer comes after the subscriber's call; at an entry the room on the lane was taken before
pub record EntersBoth {S L : Type 0} (inner : S → SubscriberCall → S → Type 0) (outer : L → Hook → L → Type 0) (attaches : Bool) (s : S) (l : L) (id at : ℕ) (before later : Lane) (t : S) (m : L) : Type 0 where
  pub prepared : Lane
  pub between : Lane
  pub room : KeepsLive attaches before prepared
  pub first : inner s (Enter id at prepared between) t
  pub second : outer l (OnEnter id at between later) m

pub record ExitsBoth {S L : Type 0} (inner : S → SubscriberCall → S → Type 0) (outer : L → Hook → L → Type 0) (s : S) (l : L) (id at : ℕ) (before later : Lane) (t : S) (m : L) : Type 0 where
  pub between : Lane
  pub first : inner s (Exit id at before between) t
  pub second : outer l (OnExit id at between later) m

-- the layer is told of a close, and of nothing where the span stays open
pub record ClosesBoth {S L : Type 0} (inner : S → SubscriberCall → S → Type 0) (outer : L → Hook → L → Type 0) (same : L → L → Type 0) (holds : ℕ) (s : S) (l : L) (id at : ℕ) (t : S) (m : L) : Type 0 where
  pub first : inner s (TryClose id at) t
  pub closed : holds ≡ 1 → outer l (OnClose id at) m
  pub open_still : (holds ≡ 1 → ⊥) → same l m

abbrev pub DoesBoth : {S L : Type 0} → (S → Spans) → (S → SubscriberCall → S → Type 0) → (L → Hook → L → Type 0) → (L → L → Type 0) → (L → Bool) → S → L → SubscriberCall → S → L → Type 0
DoesBoth spans inner outer same attaches s l (NewSpan lane at parent site callsite values) t m =
    inner s (NewSpan lane at parent site callsite values) t × outer l (OnNewSpan (length (spans s).made) lane at parent (current_of (entries_on lane.id (spans s).lanes)) callsite values) m
DoesBoth spans inner outer same attaches s l (Records id at callsite values) t m = inner s (Records id at callsite values) t × outer l (OnRecord id at callsite values) m
DoesBoth spans inner outer same attaches s l (Follows id from at) t m = inner s (Follows id from at) t × outer l (OnFollows id from at) m
DoesBoth spans inner outer same attaches s l (Event lane at parent site callsite values) t m =
    inner s (Event lane at parent site callsite values) t × outer l (OnEvent (parent_on (entries_on lane.id (spans s).lanes) parent) lane at callsite values) m
DoesBoth spans inner outer same attaches s l (Enter id at before later) t m = EntersBoth inner outer (attaches l) s l id at before later t m
DoesBoth spans inner outer same attaches s l (Exit id at before later) t m = ExitsBoth inner outer s l id at before later t m
DoesBoth spans inner outer same attaches s l (CloneSpan id) t m = inner s (CloneSpan id) t × same l m
DoesBoth spans inner outer same attaches s l (TryClose id at) t m = ClosesBoth inner outer same (span_at (spans s).made id).holds s l id at t m

-- The layer is in step: it knows spans that were made, and has open of each that it knows the entries that the
-- subscriber has. Only spans that were made have entries.
pub record InStep (spans : Spans) (seen : KnownSpans) : Type 0 where
  pub made : (id : ℕ) → seen.knows id ≡ true → id < length spans.made
  pub entries : (lane id : ℕ) → seen.entries lane id ≡ (if seen.knows id then times_in id (entries_on lane spans.lanes) else 0)
  pub below : (lane id : ℕ) → length spans.made ≤ id → times_in id (entries_on lane spans.lanes) ≡ 0

-- what an exchange of a part can lose
pub record IsWholeBoth (is_inner is_outer : Type 0) (spans : Spans) (seen : KnownSpans) (inner_attaches attaches : Bool) : Type 0 where
  pub inner : is_inner
  pub outer : is_outer
  pub in_step : InStep spans seen
  pub one_attaches : (attaches && inner_attaches) ≡ false

-- the layer's interest, and the subscriber's where the layer always takes what the callsite makes
abbrev pub joint_interest : Interest → Interest → Interest
joint_interest interests.Never inner = interests.Never
joint_interest interests.Sometimes inner = interests.Sometimes
joint_interest interests.Always inner = inner

abbrev pub interest_both : (Callsite → Interest) → (Callsite → Interest) → Callsite → Interest
interest_both layer inner = λ c. joint_interest (layer c) (inner c)

-- the greater of both hints, and the one where the other part has none
abbrev pub greater : LevelFilter → LevelFilter → LevelFilter
greater layer inner = if nat_le (greatest_verbosity layer) (greatest_verbosity inner) then inner else layer

abbrev pub hint_both : Option LevelFilter → Option LevelFilter → Option LevelFilter
hint_both None inner = inner
hint_both (Some layer) None = Some layer
hint_both (Some layer) (Some inner) = Some (greater layer inner)

-- both parts have to take what a callsite makes on a lane
abbrev pub enables_both : (ℕ → Callsite → Bool) → (ℕ → Callsite → Bool) → ℕ → Callsite → Bool
enables_both layer inner = λ lane c. layer lane c && inner lane c

-- an entry of a span attaches a context where that of one part does
abbrev pub activates_both : Bool → KnownSpans → (ℕ → Bool) → ℕ → Bool
activates_both attaches seen inner = λ id. (attaches && seen.knows id) || inner id

-- a layer that knows no span yet
pub record KnowsNone (seen : KnownSpans) : Type 0 where
  pub none : (id : ℕ) → seen.knows id ≡ false
  pub no_entries : (lane id : ℕ) → seen.entries lane id ≡ 0
