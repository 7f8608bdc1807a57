-- What was made or told at a site that was looked up, by what a request names.
use Rattle.std.proofs.Common.{◌≡◌, ℕ, Bool, Option, Some, ap, sym, subst, ◌∙◌, slice_get, option_and_then}
use Rattle.trace_base.specs.Calls.{SubscriberCall}
use Rattle.trace_base.specs.Gate.{WorldValue}
use Rattle.trace_base.specs.Spans.{Spans}
use Rattle.trace_base.specs.declared.callsite.Callsite.{Callsite}
use Rattle.trace_base.specs.declared.callsite.Kind.TheVariants as kinds
use Rattle.trace_base.specs.declared.field.ValueSet.{ValueSet}
use Rattle.trace_base.specs.declared.lane.Lane.{Lane}
use Rattle.trace_base.specs.declared.span.Parent.{Parent}
use Rattle.span_handles.specs.Handles.{Handle}
use Rattle.span_script.specs.Setups.{if_event, if_span}
use Rattle.span_script.specs.Slots.{MakesSpanOfRequest, MakesSpanOrNothing, TellsEventOfRequest, TellsEventOrNothing}
use Rattle.trace_pipeline.proofs.Common.{Fields, all_values}

module _ {S : Type 0} (does : S → SubscriberCall → S → Type 0) (world new : WorldValue S) (dispatch id site : ℕ) (same : id ≡ site) (callsite : Callsite) (is : slice_get world.sites id ≡ Some callsite)
    (parent : Option Parent) (under : Parent) (under_is : parent ≡ Some under) (fields : Fields) (values : ValueSet) (values_are : all_values callsite fields ≡ Some values) (lane : Lane) (at : ℕ) (enabled : Bool) where
  there : slice_get world.sites site ≡ Some callsite
  there = ap (λ (k : ℕ). slice_get world.sites k) (sym same) ∙ is

  pub makes_named : callsite.kind ≡ kinds.Span → (spans : S → Spans) (handle : Handle) → MakesSpanOrNothing spans does enabled world new lane at under id values dispatch handle → MakesSpanOfRequest spans does world new lane at parent site fields dispatch (handle, enabled)
  makes_named kind spans handle did = record {
    named = record { given = callsite; given_is = ap (option_and_then (λ c. if_span c c.kind)) there ∙ ap (if_span callsite) kind; under = under; under_is = under_is; values = values; values_are = values_are };
    did = subst (λ (k : ℕ). MakesSpanOrNothing spans does enabled world new lane at under k values dispatch handle) same did;
  }

  pub tells_named : callsite.kind ≡ kinds.Event → TellsEventOrNothing does enabled world new lane at under id values dispatch → TellsEventOfRequest does world new lane at parent site fields dispatch enabled
  tells_named kind did = record {
    named = record { given = callsite; given_is = ap (option_and_then (λ c. if_event c c.kind)) there ∙ ap (if_event callsite) kind; under = under; under_is = under_is; values = values; values_are = values_are };
    did = subst (λ (k : ℕ). TellsEventOrNothing does enabled world new lane at under k values dispatch) same did;
  }
