-- A handle of the lane's current span, which is closed again.
use Rattle.std.proofs.Common.{◌≡◌, ℕ, Bool, Option, Some, None, refl, sym, ap, subst, ◌∙◌, arith, inl, inr, ◌⊎◌}
use Rattle.std.proofs.lemmas.Bool.{cases_eq}
use Rattle.std.proofs.lemmas.Option.{slice_get_cases}
use Rattle.trace_base.specs.declared.lane.Lane.{Lane}
use Rattle.trace_base.specs.Gate.{WorldValue}
use Rattle.trace_base.specs.Spans.{Spans, current_on}
use Rattle.trace_base.specs.Calls.{SubscriberCall, CloneSpan, spans_after_call}
use Rattle.trace_base.specs.lanes.Contexts.{CallKeepsLanes}
use Rattle.span_handles.specs.Handles.{Handle, HeldSpan, IsKnown, CopiesCurrent, Copies}
use Rattle.span_handles.specs.Knowing.{KeepsKnown, KeepsHandles, KeepsOthers, GainsOne, LosesOne}
use Rattle.explain_stack.specs.Order.{Stands}
use Rattle.explain_stack.proofs.Quiet.{quiet_call}
use Rattle.explain_stack.proofs.Steps.{quiet_stands}

same_or_apart : (a b : HeldSpan) → (a ≡ b) ⊎ (a ≡ b → ⊥)
same_or_apart None None = inl refl
same_or_apart None (Some b) = inr (λ e. cc e)
same_or_apart (Some a) None = inr (λ e. cc e)
same_or_apart (Some a) (Some b) = elim (cases_eq a.0 b.0) [
  | inl d ↦ elim (cases_eq a.1 b.1) [
    | inl i ↦ inl (ap (λ (k : ℕ). Some (k, a.1)) d ∙ ap (λ (k : ℕ). Some (b.0, k)) i)
    | inr i ↦ inr (λ e. (let same : a ≡ b = cc e in i (ap (λ (p : ℕ × ℕ). p.1) same)))
  ]
  | inr d ↦ inr (λ e. (let same : a ≡ b = cc e in d (ap (λ (p : ℕ × ℕ). p.0) same)))
]

-- what was known before is known after
pub known_again : {S : Type 0} (spans : S → Spans) (old now new : WorldValue S) (closed : HeldSpan) → KeepsHandles spans old now → GainsOne spans old now closed → KeepsOthers spans now new closed → LosesOne spans now new closed → KeepsKnown spans old new
known_again spans old now new closed keeps gains others loses held known = elim (same_or_apart held closed) [
  | inl here ↦ subst (λ (h : HeldSpan). IsKnown spans new h) (sym here) (loses.last (gains.first (subst (λ (h : HeldSpan). IsKnown spans old h) here known)))
  | inr apart ↦ others.known held apart (keeps.known held known)
]

module _ {S : Type 0} (spans : S → Spans) (attaches : S → Bool) (kept : S → ℕ → ℕ → ℕ) (is_whole : S → Type 0) (does : S → SubscriberCall → S → Type 0)
    (shows : (s : S) (call : SubscriberCall) (t : S) → does s call t → spans t ≡ spans_after_call (spans s) call) (lanes : (s : S) (call : SubscriberCall) (t : S) → does s call t → CallKeepsLanes (attaches s) (kept s) call (kept t))
    (keeps_whole : (s : S) (call : SubscriberCall) (t : S) → does s call t → is_whole s → is_whole t) (dispatch span_count site_count : ℕ) (lane other : Lane) (old new : WorldValue S) where
  copied_stands : (d : ℕ) (current : Option (ℕ × ℕ)) (handle : Handle) → Copies does old new d current handle → Stands spans kept is_whole dispatch span_count site_count old lane other → Stands spans kept is_whole dispatch span_count site_count new lane other
  copied_stands d None handle did stands = subst (λ (w : WorldValue S). Stands spans kept is_whole dispatch span_count site_count w lane other) (sym did.1) stands
  copied_stands d (Some c) handle did stands = quiet_stands spans kept is_whole (λ s t. does s (CloneSpan c.0) t) (quiet_call spans attaches kept is_whole does shows lanes keeps_whole (CloneSpan c.0) tt) old new d dispatch span_count site_count lane other did.1 stands

  pub current_stands : (id : ℕ) (handle : Handle) → CopiesCurrent spans does old new id (Some dispatch) handle → Stands spans kept is_whole dispatch span_count site_count old lane other → Stands spans kept is_whole dispatch span_count site_count new lane other
  current_stands id handle is stands = elim (slice_get_cases old.subscribers dispatch).1 [
    | inl here ↦ copied_stands dispatch (current_on id (spans here.0)) handle (is here.0 here.2) stands
    | inr past ↦ absurd (let there = stands.there in let beyond = past.0 in omega (arith, there, beyond))
  ]
