-- The registry does what every subscriber's spans show, and nothing more.
use Rattle.std.specs.Prelude.{◌≡◌, ◌≢◌, ℕ, ◌<◌, false, List, [], length, max, slice_index_or, refl}
use Rattle.std.proofs.Common.{subst}
use Rattle.trace_base.specs.Spans.{Span, Spans, Entries}
use Rattle.trace_base.specs.Calls.{SubscriberCall, NewSpan, Records, Follows, Event, Enter, Exit, CloneSpan, TryClose, spans_after_call}
use Rattle.trace_base.specs.Conditions.{Allowed}
use Rattle.trace_base.specs.Sound.{IsSound}
use Rattle.span_registry.specs.Tabling.{live_span_count}
use Rattle.trace_base.specs.lanes.Contexts.{CallKeepsLanes}
use Rattle.trace_base.specs.layers.Unseeing.{left_as_it_is, nothing_kept}

-- what a registry stands for: its spans, and how many slots it has for live ones
pub record RegistryValue : Type 0 where
  pub spans : Spans
  pub slots : ℕ

-- no span was made, and nothing was entered
abbrev pub no_spans : Spans
no_spans = record { made = []; lanes = [] }

-- an entry and an exit leave the lane as it is
abbrev pub LeavesLaneAsIs : SubscriberCall → Type 0
LeavesLaneAsIs (Enter id at before later) = later ≡ before
LeavesLaneAsIs (Exit id at before later) = later ≡ before
LeavesLaneAsIs (NewSpan lane at parent site callsite values) = Unit {0}
LeavesLaneAsIs (Records id at callsite values) = Unit {0}
LeavesLaneAsIs (Follows id from at) = Unit {0}
LeavesLaneAsIs (Event lane at parent site callsite values) = Unit {0}
LeavesLaneAsIs (CloneSpan id) = Unit {0}
LeavesLaneAsIs (TryClose id at) = Unit {0}

-- the slots after a call that leaves these spans: a new span takes one that is free, else there is one more
abbrev pub slot_count_after : ℕ → SubscriberCall → List Span → ℕ
slot_count_after slots (NewSpan lane at parent site callsite values) made = max slots (live_span_count made)
slot_count_after slots (Records id at callsite values) made = slots
slot_count_after slots (Follows id from at) made = slots
slot_count_after slots (Event lane at parent site callsite values) made = slots
slot_count_after slots (Enter id at before later) made = slots
slot_count_after slots (Exit id at before later) made = slots
slot_count_after slots (CloneSpan id) made = slots
slot_count_after slots (TryClose id at) made = slots

-- it does what every subscriber does to its spans, and attaches nothing
pub record DoesRegistry (old : RegistryValue) (call : SubscriberCall) (new : RegistryValue) : Type 0 where
  pub sound : IsSound old.spans
  pub allowed : Allowed old.spans call
  pub shows : new.spans ≡ spans_after_call old.spans call
  pub slots : new.slots ≡ slot_count_after old.slots call new.spans.made
  pub lane : LeavesLaneAsIs call

pub registry_same : (s t : RegistryValue) (call : SubscriberCall) (u : RegistryValue) → t ≡ s → DoesRegistry t call u → DoesRegistry s call u
registry_same s t call u h d = subst (λ (x : RegistryValue). DoesRegistry x call u) h d

pub registry_lanes : (s : RegistryValue) (call : SubscriberCall) (t : RegistryValue) → DoesRegistry s call t → CallKeepsLanes false (λ lane number. 0) call (λ lane number. 0)
registry_lanes s (Enter id at before later) t d = (left_as_it_is before later d.lane, nothing_kept before later d.lane)
registry_lanes s (Exit id at before later) t d = (left_as_it_is before later d.lane, nothing_kept before later d.lane)
registry_lanes s (NewSpan lane at parent site callsite values) t d = refl
registry_lanes s (Records id at callsite values) t d = refl
registry_lanes s (Follows id from at) t d = refl
registry_lanes s (Event lane at parent site callsite values) t d = refl
registry_lanes s (CloneSpan id) t d = refl
registry_lanes s (TryClose id at) t d = refl

abbrev pub no_lane : Entries
no_lane = record { lane = 0; ids = [] }

-- where a lane stands: the first place with its id
pub record StandsAt (lanes : List Entries) (lane : ℕ) (at : ℕ) : Type 0 where
  pub within : at < length lanes
  pub is : (slice_index_or lanes at no_lane).lane ≡ lane
  pub before : (k : ℕ) → k < at → (slice_index_or lanes k no_lane).lane ≢ lane
