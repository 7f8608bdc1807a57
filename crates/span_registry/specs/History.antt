-- What the rules of holds and entries say after all calls so far.
use Rattle.std.specs.Prelude.{◌≡◌, ℕ, ◌+◌, ◌<◌, ◌==◌, if◌then◌else◌, Bool, false, List, [], ◌∷◌, ◌++◌, length, fold, count_by, nat_lt, Option, Some, None, slice_index_or}
use Rattle.trace_base.specs.Spans.{Spans, no_span, span_at, entries_on, entered_lane_count, without_last, parent_on, is_child_of, parent_to_release}
use Rattle.trace_base.specs.Calls.{SubscriberCall, NewSpan, Records, Follows, Event, Enter, Exit, CloneSpan, TryClose}
use Rattle.trace_base.specs.layers.Hooks.{one_if}
use Rattle.trace_base.specs.Sound.{OneEach}

-- These calls were made of a subscriber, one after another, and no other call changed it; spare room may have grown.
abbrev pub CallsLead : {S : Type 0} → (S → SubscriberCall → S → Type 0) → (S → S → Type 0) → S → List SubscriberCall → S → Type 0
CallsLead does same s [] t = same s t
CallsLead {S} does same s (call ∷ calls) t = (m : S) × does s call m × CallsLead does same m calls t

-- the entries of a lane: an entry is appended, and an exit takes off the last one of its span
abbrev pub entries_after : ℕ → List ℕ → SubscriberCall → List ℕ
entries_after lane ids (Enter id at before later) = if before.id == lane then ids ++ id ∷ [] else ids
entries_after lane ids (Exit id at before later) = if before.id == lane then without_last (λ x. x == id) ids else ids
entries_after lane ids (NewSpan l at parent site callsite values) = ids
entries_after lane ids (Records id at callsite values) = ids
entries_after lane ids (Follows id from at) = ids
entries_after lane ids (Event l at parent site callsite values) = ids
entries_after lane ids (CloneSpan id) = ids
entries_after lane ids (TryClose id at) = ids

abbrev pub entries_by_calls : ℕ → List SubscriberCall → List ℕ
entries_by_calls lane calls = fold (entries_after lane) [] calls

-- what a span was made with
pub record ParentAndSite : Type 0 where
  pub parent : Option ℕ
  pub site : ℕ

abbrev pub no_parent_and_site : ParentAndSite
no_parent_and_site = record { parent = None; site = 0 }

-- the span that a call makes after others, if it makes one: its parent is that on the lane then
abbrev pub span_made_by : List SubscriberCall → SubscriberCall → List ParentAndSite
span_made_by before (NewSpan lane at parent site callsite values) = record { parent = parent_on (entries_by_calls lane.id before) parent; site = site } ∷ []
span_made_by before (Records id at callsite values) = []
span_made_by before (Follows id from at) = []
span_made_by before (Event lane at parent site callsite values) = []
span_made_by before (Enter id at pre later) = []
span_made_by before (Exit id at pre later) = []
span_made_by before (CloneSpan id) = []
span_made_by before (TryClose id at) = []

abbrev pub spans_made_from : List SubscriberCall → List SubscriberCall → List ParentAndSite
spans_made_from before [] = []
spans_made_from before (call ∷ calls) = span_made_by before call ++ spans_made_from (before ++ call ∷ []) calls

-- all spans that were made, in order, and the one of an id
abbrev pub spans_made_by_calls : List SubscriberCall → List ParentAndSite
spans_made_by_calls calls = spans_made_from [] calls

abbrev pub parent_and_site_of : ℕ → List SubscriberCall → ParentAndSite
parent_and_site_of id calls = slice_index_or (spans_made_by_calls calls) id no_parent_and_site

abbrev pub is_clone : ℕ → SubscriberCall → Bool
is_clone q (CloneSpan id) = id == q
is_clone q (NewSpan lane at parent site callsite values) = false
is_clone q (Records id at callsite values) = false
is_clone q (Follows id from at) = false
is_clone q (Event lane at parent site callsite values) = false
is_clone q (Enter id at before later) = false
is_clone q (Exit id at before later) = false
is_clone q (TryClose id at) = false

abbrev pub is_release : ℕ → SubscriberCall → Bool
is_release q (TryClose id at) = id == q
is_release q (CloneSpan id) = false
is_release q (NewSpan lane at parent site callsite values) = false
is_release q (Records id at callsite values) = false
is_release q (Follows id from at) = false
is_release q (Event lane at parent site callsite values) = false
is_release q (Enter id at before later) = false
is_release q (Exit id at before later) = false

-- how many handles of a span were made: one with it, and one more at each clone
abbrev pub made_handle_count : ℕ → List SubscriberCall → ℕ
made_handle_count id calls = one_if (nat_lt id (length (spans_made_by_calls calls))) + count_by (is_clone id) calls

-- how many children of a span were made
abbrev pub made_child_count : ℕ → List SubscriberCall → ℕ
made_child_count id calls = count_by (λ m. is_child_of id m.parent) (spans_made_by_calls calls)

-- how often a hold of it was released: that of a handle which was spent, or that of a child which closed
abbrev pub release_count : ℕ → List SubscriberCall → ℕ
release_count id calls = count_by (is_release id) calls

-- The spans are what the rules say of some calls: a span has the holds of its handles and of its children, without
-- those that were released, and one for each lane that it is entered on. A lane that something was entered on has one
-- row, with the entries that the calls tell.
pub record AreSpansOf (calls : List SubscriberCall) (spans : Spans) : Type 0 where
  pub made : length spans.made ≡ length (spans_made_by_calls calls)
  pub holds : (id : ℕ) → (span_at spans.made id).holds + release_count id calls ≡ made_handle_count id calls + made_child_count id calls + entered_lane_count spans.lanes id
  pub live : (id : ℕ) → 0 < (span_at spans.made id).holds → span_at spans.made id ≡ record { holds = (span_at spans.made id).holds; parent = (parent_and_site_of id calls).parent; site = (parent_and_site_of id calls).site }
  pub closed : (id : ℕ) → (span_at spans.made id).holds ≡ 0 → span_at spans.made id ≡ no_span
  pub older : (id p : ℕ) → (parent_and_site_of id calls).parent ≡ Some p → p < id
  pub next : (id : ℕ) → (span_at spans.made id).holds ≡ 1 → parent_to_release spans.made id ≡ (parent_and_site_of id calls).parent
  pub entries : (lane : ℕ) → entries_on lane spans.lanes ≡ entries_by_calls lane calls
  pub one_row : OneEach spans.lanes
