-- What a call on a subscriber makes of its world.
use Rattle.std.specs.Prelude.{◌≡◌, ◌==◌, if◌then◌else◌, ℕ, Bool, false, List, [], ◌∷◌, fold, length, Option, Some, None, slice_get, slice_set}
use Rattle.std.specs.Option.{option_map_or}
use Rattle.trace_base.specs.Gate.{WorldValue}
use Rattle.trace_base.specs.Spans.{Spans, parent_to_release, span_at, without_hold}
use Rattle.trace_base.specs.Calls.{SubscriberCall, TryClose, spans_after_call}
use Rattle.trace_base.specs.Conditions.{HasUnboundHold}
use Rattle.trace_base.specs.lanes.Contexts.{CallKeepsLanes}

-- something holds of the subscriber of a number
abbrev pub Has : {S : Type 0} → (S → Type 0) → WorldValue S → ℕ → Type 0
Has {S} P world dispatch = (s : S) → slice_get world.subscribers dispatch ≡ Some s → P s

-- the subscriber of a number is another one, which is so to the one before; nothing else in the world changed
pub record Replaced {S : Type 0} (R : S → S → Type 0) (old new : WorldValue S) (dispatch : ℕ) : Type 0 where
  pub before : S
  pub later : S
  pub there : slice_get old.subscribers dispatch ≡ Some before
  pub did : R before later
  pub others : new ≡ record old { subscribers = slice_set old.subscribers dispatch later }

-- A chain of closes: of a span, and where that was its last hold of its parent, and so on up.
pub data Chain {S : Type 0} (spans : S → Spans) (does : S → SubscriberCall → S → Type 0) (at : ℕ) : Option ℕ → S → S → Type 0 where
  ended : (s : S) → Chain spans does at None s s
  closes : (id : ℕ) → (s m t : S) → does s (TryClose id at) m → Chain spans does at (parent_to_release (spans s).made id) m t → Chain spans does at (Some id) s t

-- a member of the subscriber of a number
abbrev pub read_subscriber : {S A : Type 0} → (S → A) → A → WorldValue S → ℕ → A
read_subscriber read none world dispatch = option_map_or read (slice_get world.subscribers dispatch) none

abbrev pub no_spans : Spans
no_spans = record { made = []; lanes = [] }

abbrev pub spans_in : {S : Type 0} → (S → Spans) → WorldValue S → ℕ → Spans
spans_in spans world dispatch = read_subscriber spans no_spans world dispatch

abbrev pub kept_in : {S : Type 0} → (S → ℕ → ℕ → ℕ) → WorldValue S → ℕ → ℕ → ℕ → ℕ
kept_in kept world dispatch = read_subscriber kept (λ lane number. 0) world dispatch

-- what one call makes of the plain data
pub record ChangesPlainData {S : Type 0} (spans : S → Spans) (attaches : S → Bool) (kept : S → ℕ → ℕ → ℕ) (is_whole : S → Type 0) (old new : WorldValue S) (dispatch : ℕ) (call : SubscriberCall) : Type 0 where
  pub spans_after : spans_in spans new dispatch ≡ spans_after_call (spans_in spans old dispatch) call
  pub lanes : CallKeepsLanes (read_subscriber attaches false old dispatch) (kept_in kept old dispatch) call (kept_in kept new dispatch)
  pub attaches_same : read_subscriber attaches false new dispatch ≡ read_subscriber attaches false old dispatch
  pub count : length new.subscribers ≡ length old.subscribers
  pub whole : Has is_whole old dispatch → Has is_whole new dispatch

-- the plain data are the same
pub record KeepsPlainData {S : Type 0} (spans : S → Spans) (attaches : S → Bool) (kept : S → ℕ → ℕ → ℕ) (is_whole : S → Type 0) (old new : WorldValue S) (dispatch : ℕ) : Type 0 where
  pub spans_same : spans_in spans new dispatch ≡ spans_in spans old dispatch
  pub attaches_same : read_subscriber attaches false new dispatch ≡ read_subscriber attaches false old dispatch
  pub kept_same : kept_in kept new dispatch ≡ kept_in kept old dispatch
  pub count : length new.subscribers ≡ length old.subscribers
  pub whole : Has is_whole old dispatch → Has is_whole new dispatch

-- what a chain of closes makes of the spans
pub data ReleasesChain : Option ℕ → Spans → Spans → Type 0 where
  all_released : (x : Spans) → ReleasesChain None x x
  releases : (id at : ℕ) → (x y : Spans) → HasUnboundHold x id → ReleasesChain (parent_to_release x.made id) (spans_after_call x (TryClose id at)) y → ReleasesChain (Some id) x y

-- the spans that a chain closes
abbrev pub closed_in : (next : Option ℕ) (x y : Spans) → ReleasesChain next x y → List ℕ
closed_in _ _ _ (all_released x) = []
closed_in _ _ _ (releases id at x y own rest) = if (span_at x.made id).holds == 1 then id ∷ closed_in (parent_to_release x.made id) (record x { made = without_hold x.made id }) y rest else closed_in (parent_to_release x.made id) (record x { made = without_hold x.made id }) y rest

-- what a chain of closes makes of the plain data
pub record ChainChangesPlainData {S : Type 0} (spans : S → Spans) (attaches : S → Bool) (kept : S → ℕ → ℕ → ℕ) (is_whole : S → Type 0) (old new : WorldValue S) (dispatch id : ℕ) : Type 0 where
  pub released : ReleasesChain (Some id) (spans_in spans old dispatch) (spans_in spans new dispatch)
  pub attaches_same : read_subscriber attaches false new dispatch ≡ read_subscriber attaches false old dispatch
  pub kept_same : kept_in kept new dispatch ≡ kept_in kept old dispatch
  pub count : length new.subscribers ≡ length old.subscribers
  pub whole : Has is_whole old dispatch → Has is_whole new dispatch

-- what the closes of a chain make of something else that a subscriber keeps: one change for each span that closes, in order
pub record ChainChangesRead {A : Type 0} (close : A → ℕ → A) (next : Option ℕ) (x y : Spans) (before later : A) : Type 0 where
  pub chain : ReleasesChain next x y
  pub told : later ≡ fold close before (closed_in next x y chain)

-- a close of a span changes what is read of a subscriber once, and a release of another hold leaves it
abbrev pub ChangesByCloses : {S A : Type 0} → (S → Spans) → (S → SubscriberCall → S → Type 0) → (S → A) → (A → ℕ → A) → Type 0
ChangesByCloses {S} spans does read close = (s : S) (id at : ℕ) (t : S) → does s (TryClose id at) t
    → ((span_at (spans s).made id).holds ≡ 1 → read t ≡ close (read s) id) × (((span_at (spans s).made id).holds ≡ 1 → ⊥) → read t ≡ read s)
