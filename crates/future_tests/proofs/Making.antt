-- What a span that is made, or another handle of one, keeps of what is lent.
use Rattle.std.proofs.Common.{◌≡◌, ℕ, Bool, length, Option, Some, None, refl, sym, ap, subst, ◌∙◌, arith, inl, inr}
use Rattle.std.specs.Option.{option_map_or}
use Rattle.std.proofs.lemmas.Bool.{cases_eq}
use Rattle.trace_base.specs.declared.field.ValueSet.{ValueSet}
use Rattle.trace_base.specs.declared.lane.Lane.{Lane}
use Rattle.trace_base.specs.declared.span.Parent.{Parent}
use Rattle.trace_base.specs.Gate.{WorldValue}
use Rattle.trace_base.specs.Spans.{Spans, entries_on, times_in}
use Rattle.trace_base.specs.Calls.{SubscriberCall, NewSpan, CloneSpan, spans_after_call}
use Rattle.trace_base.specs.lanes.Contexts.{CallKeepsLanes}
use Rattle.span_handles.specs.Worlds.{Replaced, spans_in, no_spans}
use Rattle.span_handles.specs.Handles.{HeldSpan, Handle, MakesIf, ReplacedIf, ReplacedOn}
use Rattle.span_handles.specs.Knowing.{KeepsKnown}
use Rattle.span_handles.proofs.ChangedSubscriberLemmas.{seen_before, seen_later}
use Rattle.span_futures.specs.Calling.{ChangesUpTo}
use Rattle.span_futures.specs.Lent.{KeepsLent}
use Rattle.span_futures.proofs.CallsLemmas.{called_same, called_once, calls_none, calls_one}
use Rattle.span_futures.proofs.Inside.{keeps_nothing}
use Rattle.span_futures.proofs.KeptLemmas.{others_same, keeps_parts, keeps_all, same_kept, own_after}

module _ {S : Type 0} (spans : S → Spans) (kept : S → ℕ → ℕ → ℕ) (is_whole : S → Type 0) where
  -- a step that leaves entries and lanes, and keeps handles known
  record StaysIn (R : S → S → Type 0) (s t : S) : Type 0 where
    stays_whole : is_whole s → is_whole t
    as_entered : (spans t).lanes ≡ (spans s).lanes
    as_kept : kept t ≡ kept s

  stays_lent : (R : S → S → Type 0) (step : (s t : S) → R s t → StaysIn R s t) (old new : WorldValue S) (dispatch : ℕ) (lane : Lane) → Replaced R old new dispatch → KeepsKnown spans old new → KeepsLent spans kept is_whole old new lane lane
  stays_lent R step old new dispatch lane r known = record {
    known = known;
    parts = keeps_parts R old new dispatch r;
    still_open = λ d l q. (
        let e = ap (λ ls. times_in q (entries_on l ls)) (entered_same d) in
        omega (arith, e));
    whole = keeps_all R old new dispatch r is_whole (λ s t did w. (step s t did).stays_whole w);
    lane_id = refl;
    attached = λ all number. (
        let k = same_kept R old new dispatch r kept (step r.before r.later r.did).as_kept lane.id number in
        let a = all number in
        omega (arith, k, a));
    others_attached = λ number. (
        let k = same_kept R old new dispatch r kept (step r.before r.later r.did).as_kept lane.id number in
        omega (arith, k));
    default = own_after R old new dispatch r lane lane refl;
  } where
    entered_same : (d : ℕ) → (spans_in spans new d).lanes ≡ (spans_in spans old d).lanes
    entered_same d = elim (cases_eq d dispatch) [
      | inl here ↦ subst (λ (k : ℕ). (spans_in spans new k).lanes ≡ (spans_in spans old k).lanes) (sym here)
          (ap (λ (x : Spans). x.lanes) (seen_later R old new dispatch r spans no_spans) ∙ (step r.before r.later r.did).as_entered ∙ ap (λ (x : Spans). x.lanes) (sym (seen_before R old new dispatch r spans no_spans)))
      | inr other ↦ ap (λ (o : Option S). (option_map_or spans o no_spans).lanes) (others_same R old new dispatch r d other)
    ]

  pub made_lent : (attaches : S → Bool) (does : S → SubscriberCall → S → Type 0) → ((s : S) (call : SubscriberCall) (t : S) → does s call t → spans t ≡ spans_after_call (spans s) call)
      → ((s : S) (call : SubscriberCall) (t : S) → does s call t → CallKeepsLanes (attaches s) (kept s) call (kept t)) → ((s : S) (call : SubscriberCall) (t : S) → does s call t → is_whole s → is_whole t)
      → (old new : WorldValue S) (lane : Lane) (at : ℕ) (parent : Parent) (site : ℕ) (values : ValueSet) (dispatch : Option ℕ) (handle : Handle) → KeepsKnown spans old new → MakesIf spans does old new lane at parent site values dispatch handle → KeepsLent spans kept is_whole old new lane lane
  made_lent attaches does shows lanes keeps_whole old new lane at parent site values None handle known made = subst (λ (w : WorldValue S). KeepsLent spans kept is_whole old w lane lane) (sym made.1) (keeps_nothing spans kept is_whole old lane)
  made_lent attaches does shows lanes keeps_whole old new lane at parent site values (Some d) handle known made =
      let call : SubscriberCall = NewSpan lane at parent site made.callsite values in
      stays_lent (λ s t. (made.id ≡ length (spans s).made) × does s call t)
      (λ s t did. record { stays_whole = keeps_whole s call t did.1; as_entered = ap (λ (x : Spans). x.lanes) (shows s call t did.1); as_kept = lanes s call t did.1 })
      old new d lane made.made known

  pub copied_lent : (attaches : S → Bool) (does : S → SubscriberCall → S → Type 0) → ((s : S) (call : SubscriberCall) (t : S) → does s call t → spans t ≡ spans_after_call (spans s) call)
      → ((s : S) (call : SubscriberCall) (t : S) → does s call t → CallKeepsLanes (attaches s) (kept s) call (kept t)) → ((s : S) (call : SubscriberCall) (t : S) → does s call t → is_whole s → is_whole t)
      → (old new : WorldValue S) (lane : Lane) (held : HeldSpan) → KeepsKnown spans old new → ReplacedOn (λ id s t. does s (CloneSpan id) t) old new held → KeepsLent spans kept is_whole old new lane lane
  copied_lent attaches does shows lanes keeps_whole old new lane None known copied = subst (λ (w : WorldValue S). KeepsLent spans kept is_whole old w lane lane) (sym copied) (keeps_nothing spans kept is_whole old lane)
  copied_lent attaches does shows lanes keeps_whole old new lane (Some h) known copied =
      let call : SubscriberCall = CloneSpan h.1 in
      stays_lent (λ s t. does s call t)
      (λ s t did. record { stays_whole = keeps_whole s call t did; as_entered = ap (λ (x : Spans). x.lanes) (shows s call t did); as_kept = lanes s call t did })
      old new h.0 lane copied known

  pub unmade_lent : (same : S → S → Type 0) → ((s t : S) → same s t → spans t ≡ spans s) → ((s t : S) → same s t → kept t ≡ kept s) → ((s t : S) → same s t → is_whole s → is_whole t)
      → (old new : WorldValue S) (lane : Lane) (dispatch : Option ℕ) → KeepsKnown spans old new → ReplacedIf same old new dispatch → KeepsLent spans kept is_whole old new lane lane
  unmade_lent same same_spans same_kept_law same_whole old new lane None known left = subst (λ (w : WorldValue S). KeepsLent spans kept is_whole old w lane lane) (sym left) (keeps_nothing spans kept is_whole old lane)
  unmade_lent same same_spans same_kept_law same_whole old new lane (Some d) known left =
      stays_lent same (λ s t is. record { stays_whole = same_whole s t is; as_entered = ap (λ (x : Spans). x.lanes) (same_spans s t is); as_kept = same_kept_law s t is }) old new d lane left known

-- the calls that it came to
module _ {S : Type 0} (does : S → SubscriberCall → S → Type 0) (besides : ℕ → S → S → Type 0) (same : S → S → Type 0) (same_refl : (s : S) → same s s) (same_trans : (s t u : S) → same s t → same t u → same s u) where
  pub made_calls : (spans : S → Spans) (old new : WorldValue S) (lane : Lane) (at : ℕ) (parent : Parent) (site : ℕ) (values : ValueSet) (dispatch : Option ℕ) (handle : Handle) → MakesIf spans does old new lane at parent site values dispatch handle → ChangesUpTo does besides same at old new
  made_calls spans old new lane at parent site values None handle made = subst (λ (w : WorldValue S). ChangesUpTo does besides same at old w) (sym made.1) (calls_none does besides same same_refl same_trans at old)
  made_calls spans old new lane at parent site values (Some d) handle made =
      let call : SubscriberCall = NewSpan lane at parent site made.callsite values in
      calls_one does besides same same_refl same_trans at (λ s t. (made.id ≡ length (spans s).made) × does s call t) old new d (λ s t did. called_once does besides same same_refl same_trans at s call t (omega arith) did.1) made.made

  pub unmade_calls : (at : ℕ) (old new : WorldValue S) (dispatch : Option ℕ) → ReplacedIf same old new dispatch → ChangesUpTo does besides same at old new
  unmade_calls at old new None left = subst (λ (w : WorldValue S). ChangesUpTo does besides same at old w) (sym left) (calls_none does besides same same_refl same_trans at old)
  unmade_calls at old new (Some d) left = calls_one does besides same same_refl same_trans at same old new d (λ s t is. called_same does besides same same_refl same_trans at s t is) left
