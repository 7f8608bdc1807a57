-- The calls of a subscriber, and what each makes of its spans.
use Rattle.std.specs.Prelude.{ℕ, ◌==◌, if◌then◌else◌, [], ◌∷◌, ◌++◌, Option}
use Rattle.trace_base.specs.declared.callsite.Callsite.{Callsite}
use Rattle.trace_base.specs.declared.field.ValueSet.{ValueSet}
use Rattle.trace_base.specs.declared.lane.Lane.{Lane}
use Rattle.trace_base.specs.declared.span.Parent.{Parent}
use Rattle.trace_base.specs.Spans.{Spans, entries_on, with_entries, is_in, times_in, without_last, parent_on, with_hold, without_hold, with_hold_of_child}

-- The calls of a subscriber. An entry and an exit tell the lane before and after.
pub data SubscriberCall : Type 0 where
  NewSpan : (lane : Lane) → (at : ℕ) → (parent : Parent) → (site : ℕ) → (callsite : Callsite) → (values : ValueSet) → SubscriberCall
  Records : (id at : ℕ) → (callsite : Callsite) → (values : ValueSet) → SubscriberCall
  Follows : (id from at : ℕ) → SubscriberCall
  Event : (lane : Lane) → (at : ℕ) → (parent : Parent) → (site : ℕ) → (callsite : Callsite) → (values : ValueSet) → SubscriberCall
  Enter : (id at : ℕ) → (before later : Lane) → SubscriberCall
  Exit : (id at : ℕ) → (before later : Lane) → SubscriberCall
  CloneSpan : (id : ℕ) → SubscriberCall
  TryClose : (id at : ℕ) → SubscriberCall

-- a span made, under its parent
abbrev pub with_new_span : Spans → Option ℕ → ℕ → Spans
with_new_span spans above site = record spans { made = with_hold_of_child spans.made above ++ record { holds = 1; parent = above; site = site } ∷ [] }

-- an entry more on a lane, which is a hold where it is the first of its span there
abbrev pub with_span_entry : Spans → ℕ → ℕ → Spans
with_span_entry spans id lane = record {
  made = if is_in id (entries_on lane spans.lanes) then spans.made else with_hold spans.made id;
  lanes = with_entries lane (entries_on lane spans.lanes ++ id ∷ []) spans.lanes;
}

-- the last entry of a span less on a lane, and its hold where no entry of it is left there
abbrev pub with_span_exit : Spans → ℕ → ℕ → Spans
with_span_exit spans id lane = record {
  made = if times_in id (entries_on lane spans.lanes) == 1 then without_hold spans.made id else spans.made;
  lanes = with_entries lane (without_last (λ x. x == id) (entries_on lane spans.lanes)) spans.lanes;
}

-- what a call makes of the spans
abbrev pub spans_after_call : Spans → SubscriberCall → Spans
spans_after_call spans (NewSpan lane at parent site callsite values) = with_new_span spans (parent_on (entries_on lane.id spans.lanes) parent) site
spans_after_call spans (Records id at callsite values) = spans
spans_after_call spans (Follows id from at) = spans
spans_after_call spans (Event lane at parent site callsite values) = spans
spans_after_call spans (Enter id at before later) = with_span_entry spans id before.id
spans_after_call spans (Exit id at before later) = with_span_exit spans id before.id
spans_after_call spans (CloneSpan id) = record spans { made = with_hold spans.made id }
spans_after_call spans (TryClose id at) = record spans { made = without_hold spans.made id }
