-- Where the code puts new spans, and which handles its guards borrow. Inner definitions.
use Rattle.std.specs.Prelude.{◌≡◌, ℕ, List, Bool, true, false, ◌==◌, Option, Some, None, Result, option_map, slice_get, slice_index_or, count_by, nat_lt, ◌&&◌}
use Rattle.std.specs.List.{list_any}
use Rattle.trace_base.specs.declared.field.ValueSet.{ValueSet}
use Rattle.trace_base.specs.declared.lane.Lane.{Lane}
use Rattle.trace_base.specs.Calls.{SubscriberCall}
use Rattle.trace_base.specs.declared.callsite.Callsite.{Callsite}
use Rattle.env_filter.specs.Filtering.{FilterState, is_admitted}
use Rattle.span_handles.specs.Events.{TellsEvent}
use Rattle.trace_base.specs.Gate.{WorldValue}
use Rattle.trace_base.specs.Spans.{Spans}
use Rattle.trace_base.specs.declared.span.Parent.{Parent}
use Rattle.trace_base.specs.declared.span.Parent.TheVariants as parent
use Rattle.span_handles.specs.Handles.{Handle, HeldSpan, Makes, no_handle, as_parent}
use Rattle.span_script.specs.declared.reply.Refusal.{Refusal}
use Rattle.span_script.specs.declared.reply.What.TheVariants as what
use Rattle.span_script.specs.declared.request.RequestParent.{RequestParent}
use Rattle.span_script.specs.declared.request.RequestParent.TheVariants as request_parent
use Rattle.span_script.specs.declared.slots.Guard.{Guard}
use Rattle.span_script.specs.Fields.{Fields, all_values}
use Rattle.span_script.specs.Setups.{event_site, span_site}
use Rattle.span_script.specs.calls.Here.{◌>>=◌, need}

-- under what a new span is put, by a request's place, if the handle is there
abbrev pub parent_for : List (Option HeldSpan) → RequestParent → Option Parent
parent_for handles request_parent.Root = Some parent.Root
parent_for handles request_parent.Contextual = Some parent.Current
parent_for handles (request_parent.Under handle) = option_map as_parent (slice_index_or handles handle None)

abbrev pub names_handle : ℕ → Option Guard → Bool
names_handle handle None = false
names_handle handle (Some guard) = guard.handle == handle

-- whether the guard owns its handle, which another one names too
abbrev pub is_shared_by : List (Option Guard) → Guard → Bool
is_shared_by guards guard = guard.owns && nat_lt 1 (count_by (names_handle guard.handle) guards)

abbrev pub is_named_by_guard : List (Option Guard) → ℕ → Bool
is_named_by_guard guards handle = list_any (names_handle handle) guards

-- what a request for a new span or an event names is there: its callsite, under what it is put, and the values of all its
-- fields
pub record HasWhatItNames (callsite : Option Callsite) (parent : Option Parent) (fields : Fields) : Type 0 where
  pub given : Callsite
  pub given_is : callsite ≡ Some given
  pub under : Parent
  pub under_is : parent ≡ Some under
  pub values : ValueSet
  pub values_are : all_values given fields ≡ Some values

-- else the first of them that isn't there refuses it
abbrev pub values_or_refusal : Option Callsite → Option Parent → Fields → Result ValueSet Refusal
values_or_refusal callsite parent fields = do
  given ← need what.Site callsite
  under ← need what.Handle parent
  need what.Field (all_values given fields)

-- a span was made by one call and a handle of it, or nothing and a disabled handle
abbrev pub MakesSpanOrNothing : {S : Type 0} → (S → Spans) → (S → SubscriberCall → S → Type 0) → Bool → WorldValue S → WorldValue S → Lane → ℕ → Parent → ℕ → ValueSet → ℕ → Handle → Type 0
MakesSpanOrNothing spans does true old new lane at parent site values dispatch handle = Makes spans does old new lane at parent site values dispatch handle
MakesSpanOrNothing spans does false old new lane at parent site values dispatch handle = (handle ≡ no_handle) × (new ≡ old)

-- the same, as a request names it
pub record MakesSpanOfRequest {S : Type 0} (spans : S → Spans) (does : S → SubscriberCall → S → Type 0) (old new : WorldValue S) (lane : Lane) (at : ℕ) (parent : Option Parent) (site : ℕ) (fields : Fields) (dispatch : ℕ) (made : Handle × Bool) : Type 0 where
  pub named : HasWhatItNames (span_site old.sites site) parent fields
  pub did : MakesSpanOrNothing spans does made.1 old new lane at named.under site named.values dispatch made.0

-- an event was told by one call, or nothing happened
abbrev pub TellsEventOrNothing : {S : Type 0} → (S → SubscriberCall → S → Type 0) → Bool → WorldValue S → WorldValue S → Lane → ℕ → Parent → ℕ → ValueSet → ℕ → Type 0
TellsEventOrNothing does true old new lane at parent site values dispatch = TellsEvent does old new lane at parent site values dispatch
TellsEventOrNothing does false old new lane at parent site values dispatch = new ≡ old

-- the same, as a request names it
pub record TellsEventOfRequest {S : Type 0} (does : S → SubscriberCall → S → Type 0) (old new : WorldValue S) (lane : Lane) (at : ℕ) (parent : Option Parent) (site : ℕ) (fields : Fields) (dispatch : ℕ) (enabled : Bool) : Type 0 where
  pub named : HasWhatItNames (event_site old.sites site) parent fields
  pub did : TellsEventOrNothing does enabled old new lane at named.under site named.values dispatch

-- the gate's answer for a callsite on a lane, by the filter in place
abbrev pub IsGateAnswer : Option FilterState → List Callsite → ℕ → ℕ → Bool → Type 0
IsGateAnswer filter sites lane site answer =
    (f : FilterState) (c : Callsite) → filter ≡ Some f → slice_get sites site ≡ Some c → answer ≡ is_admitted f lane c
