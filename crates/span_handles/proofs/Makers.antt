-- What a subscriber that was looked up makes, in its world.
use Rattle.std.proofs.Common.{◌≡◌, ◌<◌, ℕ, length, Result, Ok, Err, IfOk, OnErr, Some, refl, sym, subst, slice_get, slice_set}
use Rattle.otel_base.specs.declared.memory.Memory.{Memory}
use Rattle.trace_base.specs.declared.callsite.Callsite.{Callsite}
use Rattle.span_handles.proofs.Common.{ValueSet, Lane, Parent, WorldValue, Spans, SubscriberCall, NewSpan, Handle, IsKnown, Replaced, Allowed, IsSound, spans_after_call}
use Rattle.span_handles.proofs.KnownHandlesLemmas.{made_known, handles_call, handles_same}
use Rattle.span_handles.specs.Handles.{Makes}
use Rattle.span_handles.specs.Makers.{MakesBy, MakesHandle}

module _ {S : Type 0} (spans : S → Spans) (does : S → SubscriberCall → S → Type 0) (old : WorldValue S) (dispatch : ℕ) (s t : S) (there : slice_get old.subscribers dispatch ≡ Some s)
    (lane : Lane) (at : ℕ) (parent : Parent) (site : ℕ) (callsite : Callsite) (is : slice_get old.sites site ≡ Some callsite) (values : ValueSet) where
  -- the world afterwards
  abbrev pub with_it : WorldValue S
  with_it = record old { subscribers = slice_set old.subscribers dispatch t }

  pub makes_by : (handle : Handle) → MakesBy spans does s t lane at parent site callsite values dispatch handle → Makes spans does old with_it lane at parent site values dispatch handle
  makes_by handle by = record {
    callsite = callsite;
    is = is;
    id = length (spans s).made;
    handle_is = by.handle_is;
    made = record { before = s; later = t; there = there; did = (refl, by.made); others = refl };
  }

  -- the handle is known, and for want of memory there is none
  module _ (same : S → S → Type 0) (same_spans : (s t : S) → same s t → spans t ≡ spans s) (sound : (s : S) (call : SubscriberCall) (t : S) → does s call t → IsSound (spans s))
      (allowed : (s : S) (call : SubscriberCall) (t : S) → does s call t → Allowed (spans s) call) (shows : (s : S) (call : SubscriberCall) (t : S) → does s call t → spans t ≡ spans_after_call (spans s) call) (within : dispatch < length old.subscribers) where
    pub makes_handle : (result : Result Handle Memory) → IfOk result (MakesBy spans does s t lane at parent site callsite values dispatch) → OnErr result (same s t) → MakesHandle spans does same old with_it lane at parent site values (Some dispatch) result
    unfolding makes_by
    makes_handle (Ok handle) by none =
        let made = makes_by handle by in record {
          ok = made;
          known = subst (λ (h : Handle). IsKnown spans with_it h.held) (sym by.handle_is) (made_known spans does sound allowed shows old with_it dispatch made.id within lane at parent site callsite values made.made);
          keeps = handles_call spans does sound allowed shows old with_it dispatch (NewSpan lane at parent site callsite values)
              (record { before = s; later = t; there = there; did = by.made; others = refl }) tt;
          unserved = λ none. absurd (cc none);
          memory_leaves = tt;
        }
    makes_handle (Err why) none left =
        let step : Replaced same old with_it dispatch = record { before = s; later = t; there = there; did = left; others = refl } in record {
          ok = tt;
          known = tt;
          keeps = handles_same spans same same_spans old with_it dispatch step;
          unserved = λ none. absurd (cc none);
          memory_leaves = step;
        }
