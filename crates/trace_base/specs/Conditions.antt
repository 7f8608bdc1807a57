-- What calls on spans need.
use Rattle.std.specs.Prelude.{◌≡◌, ℕ, ◌<◌, ◌^◌, List, length, IfSome}
use Rattle.trace_base.specs.declared.span.Parent.{Parent}
use Rattle.trace_base.specs.declared.span.Parent.TheVariants as parent
use Rattle.trace_base.specs.Spans.{Span, Spans, span_at, entries_on, times_in, parent_on, bound_holds}
use Rattle.trace_base.specs.Calls.{SubscriberCall, NewSpan, Records, Follows, Event, Enter, Exit, CloneSpan, TryClose}

-- a span that has a hold
abbrev pub IsLive : List Span → ℕ → Type 0
IsLive made id = 0 < (span_at made id).holds

-- a parent that is no span, or one that is live
abbrev pub IsLiveParent : List Span → Parent → Type 0
IsLiveParent made parent.Root = Unit {0}
IsLiveParent made parent.Current = Unit {0}
IsLiveParent made (parent.Of id) = IsLive made id

-- a span with a hold beside those of its entries and its open children
abbrev pub HasUnboundHold : Spans → ℕ → Type 0
HasUnboundHold spans id = bound_holds spans id < (span_at spans.made id).holds

-- an entry of the span is open on the lane, and another hold is left where its hold goes
abbrev pub MayExit : Spans → ℕ → ℕ → Type 0
MayExit spans id lane = (0 < times_in id (entries_on lane spans.lanes)) × (times_in id (entries_on lane spans.lanes) ≡ 1 → 1 < (span_at spans.made id).holds)

-- what a call needs of the spans
abbrev pub Allowed : Spans → SubscriberCall → Type 0
Allowed spans (NewSpan lane at parent site callsite values) = IsLiveParent spans.made parent
Allowed spans (Records id at callsite values) = IsLive spans.made id
Allowed spans (Follows id from at) = IsLive spans.made id × IsLive spans.made from
Allowed spans (Event lane at parent site callsite values) = IsLiveParent spans.made parent
Allowed spans (Enter id at before later) = IsLive spans.made id
Allowed spans (Exit id at before later) = MayExit spans id before.id
Allowed spans (CloneSpan id) = IsLive spans.made id
Allowed spans (TryClose id at) = HasUnboundHold spans id

-- Holds and spans are counted in 64 bits: the next one is counted below 2^63.
abbrev pub HasFewHolds : List Span → ℕ → Type 0
HasFewHolds made id = (span_at made id).holds < 2 ^ 63

abbrev pub AreFew : Spans → Type 0
AreFew spans = length spans.made < 2 ^ 63

-- the same of the span that is the parent of a new one on a lane
abbrev pub ParentHasFewHolds : Spans → ℕ → Parent → Type 0
ParentHasFewHolds spans lane parent = IfSome (parent_on (entries_on lane spans.lanes) parent) (HasFewHolds spans.made)
