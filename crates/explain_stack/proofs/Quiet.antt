-- Which steps of a stack make no span and leave lanes.
use Rattle.std.proofs.Common.{◌≡◌, ℕ, length, Bool, Option, Some, refl, ap, ◌∙◌}
use Rattle.std.proofs.lemmas.List.{length-set}
use Rattle.trace_base.specs.Spans.{Spans, parent_to_release}
use Rattle.trace_base.specs.Calls.{SubscriberCall, NewSpan, Records, Follows, Event, Enter, Exit, CloneSpan, TryClose, spans_after_call}
use Rattle.trace_base.specs.lanes.Contexts.{CallKeepsLanes}
use Rattle.span_handles.specs.Worlds.{Chain, ended, closes}
use Rattle.otel_layer.specs.Parts.{PartCall, StaysStack}
use Rattle.explain_stack.proofs.Steps.{IsQuiet}

-- a call that makes no span and leaves lanes
abbrev pub IsQuietCall : SubscriberCall → Type 0
IsQuietCall (NewSpan lane at parent site callsite values) = ⊥
IsQuietCall (TryClose id at) = Unit {0}
IsQuietCall (Records id at callsite values) = Unit {0}
IsQuietCall (Follows id from at) = Unit {0}
IsQuietCall (Event lane at parent site callsite values) = Unit {0}
IsQuietCall (Enter id at before later) = ⊥
IsQuietCall (Exit id at before later) = ⊥
IsQuietCall (CloneSpan id) = Unit {0}

quiet_made : (x : Spans) (call : SubscriberCall) → IsQuietCall call → length (spans_after_call x call).made ≡ length x.made
quiet_made x (NewSpan lane at parent site callsite values) q = absurd q
quiet_made x (TryClose id at) q = length-set x.made id _
quiet_made x (Records id at callsite values) q = refl
quiet_made x (Follows id from at) q = refl
quiet_made x (Event lane at parent site callsite values) q = refl
quiet_made x (Enter id at before later) q = absurd q
quiet_made x (Exit id at before later) q = absurd q
quiet_made x (CloneSpan id) q = length-set x.made id _

quiet_kept : (attaches : Bool) (kept now : ℕ → ℕ → ℕ) (call : SubscriberCall) → IsQuietCall call → CallKeepsLanes attaches kept call now → now ≡ kept
quiet_kept attaches kept now (NewSpan lane at parent site callsite values) q l = absurd q
quiet_kept attaches kept now (TryClose id at) q l = l
quiet_kept attaches kept now (Records id at callsite values) q l = l
quiet_kept attaches kept now (Follows id from at) q l = l
quiet_kept attaches kept now (Event lane at parent site callsite values) q l = l
quiet_kept attaches kept now (Enter id at before later) q l = absurd q
quiet_kept attaches kept now (Exit id at before later) q l = absurd q
quiet_kept attaches kept now (CloneSpan id) q l = l

module _ {S : Type 0} (spans : S → Spans) (attaches : S → Bool) (kept : S → ℕ → ℕ → ℕ) (is_whole : S → Type 0) (does : S → SubscriberCall → S → Type 0)
    (shows : (s : S) (call : SubscriberCall) (t : S) → does s call t → spans t ≡ spans_after_call (spans s) call) (lanes : (s : S) (call : SubscriberCall) (t : S) → does s call t → CallKeepsLanes (attaches s) (kept s) call (kept t))
    (keeps_whole : (s : S) (call : SubscriberCall) (t : S) → does s call t → is_whole s → is_whole t) where
  pub quiet_call : (call : SubscriberCall) → IsQuietCall call → IsQuiet spans kept is_whole (λ s t. does s call t)
  quiet_call call q = record {
    stays_whole = λ s t did. keeps_whole s call t did;
    as_many_made = λ s t did. ap (λ (x : Spans). length x.made) (shows s call t did) ∙ quiet_made (spans s) call q;
    as_kept = λ s t did. quiet_kept (attaches s) (kept s) (kept t) call q (lanes s call t did);
  }

  chain_made : (at : ℕ) (next : Option ℕ) (s t : S) → Chain spans does at next s t → length (spans t).made ≡ length (spans s).made
  chain_made at _ _ _ (ended s) = refl
  chain_made at _ _ _ (closes id s m t did rest) = chain_made at (parent_to_release (spans s).made id) m t rest ∙ (quiet_call (TryClose id at) tt).as_many_made s m did

  chain_kept : (at : ℕ) (next : Option ℕ) (s t : S) → Chain spans does at next s t → kept t ≡ kept s
  chain_kept at _ _ _ (ended s) = refl
  chain_kept at _ _ _ (closes id s m t did rest) = chain_kept at (parent_to_release (spans s).made id) m t rest ∙ (quiet_call (TryClose id at) tt).as_kept s m did

  chain_whole : (at : ℕ) (next : Option ℕ) (s t : S) → Chain spans does at next s t → is_whole s → is_whole t
  chain_whole at _ _ _ (ended s) w = w
  chain_whole at _ _ _ (closes id s m t did rest) w = chain_whole at (parent_to_release (spans s).made id) m t rest (keeps_whole s (TryClose id at) m did w)

  pub quiet_chain : (at id : ℕ) → IsQuiet spans kept is_whole (λ s t. Chain spans does at (Some id) s t)
  quiet_chain at id = record {
    stays_whole = λ s t did. chain_whole at (Some id) s t did;
    as_many_made = λ s t did. chain_made at (Some id) s t did;
    as_kept = λ s t did. chain_kept at (Some id) s t did;
  }

module _ {S : Type 0} (spans : S → Spans) (kept : S → ℕ → ℕ → ℕ) (is_whole : S → Type 0) where
  pub quiet_same : (same : S → S → Type 0) → ((s t : S) → same s t → spans t ≡ spans s) → ((s t : S) → same s t → kept t ≡ kept s) → ((s t : S) → same s t → is_whole s → is_whole t) → IsQuiet spans kept is_whole same
  quiet_same same same_spans same_kept same_whole = record {
    stays_whole = same_whole;
    as_many_made = λ s t is. ap (λ (x : Spans). length x.made) (same_spans s t is);
    as_kept = same_kept;
  }

  pub quiet_part : (attaches : S → Bool) (touches : S → PartCall → S → Type 0) → ((s : S) (call : PartCall) (t : S) → touches s call t → StaysStack spans kept attaches is_whole s t) → (call : PartCall) → IsQuiet spans kept is_whole (λ s t. touches s call t)
  quiet_part attaches touches stays call = record {
    stays_whole = λ s t did. (stays s call t did).whole;
    as_many_made = λ s t did. ap (λ (x : Spans). length x.made) (stays s call t did).spans_same;
    as_kept = λ s t did. (stays s call t did).kept_same;
  }
