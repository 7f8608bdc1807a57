-- What a layer of metrics over a subscriber hears of calls.
use Rattle.std.proofs.Common.{◌≡◌, ℕ, List, [], ◌++◌, Bool, false, Option, Some, refl, sym, ap, ◌∙◌, inl, inr}
use Rattle.span_stack.proofs.Common.{cases_eq, WorldValue, Spans, parent_to_release, span_at, SubscriberCall, NewSpan, Records, Follows, Event, Enter, Exit, CloneSpan, TryClose, CallKeepsLanes, Hook, LeavesLanes, Layered, DoesBoth, ObservesCall, Replaced, Chain, ended, closes, read_subscriber, seen_before, seen_later, Measure, Steps, over_hears, MeasuresWithRoom, waiting_measures, measures_of_call}
use Rattle.std.proofs.lemmas.List.{append-nil}
use Rattle.otel_metrics.specs.Waiting.{AddsMeasuresOf, measures_of_hook}
use Rattle.span_stack.proofs.worlds.ViewsLemmas.{kept_place}

abbrev pub measures_at : MeasuresWithRoom → Hook → MeasuresWithRoom → Type 0
measures_at l hook m = AddsMeasuresOf l hook m × LeavesLanes hook

abbrev pub unchanged : MeasuresWithRoom → MeasuresWithRoom → Type 0
unchanged l m = m.measures ≡ l.measures

abbrev attaches_no : MeasuresWithRoom → Bool
attaches_no l = false

abbrev kept : MeasuresWithRoom → List Measure
kept l = l.measures

abbrev behind : List Measure → Hook → List Measure
behind ms hook = ms ++ measures_of_hook hook

from_heard : (spans : Spans) (call : SubscriberCall) (a b : List Measure) → ObservesCall (Steps behind) spans a call b → b ≡ a ++ measures_of_call call
from_heard spans (NewSpan lane at parent site callsite values) a b h = h
from_heard spans (Records id at callsite values) a b h = h
from_heard spans (Follows id from at) a b h = h
from_heard spans (Event lane at parent site callsite values) a b h = h
from_heard spans (Enter id at before later) a b h = h.heard
from_heard spans (Exit id at before later) a b h = h.heard
from_heard spans (CloneSpan id) a b h = h ∙ sym (append-nil a)
from_heard spans (TryClose id at) a b h = elim (cases_eq (span_at spans.made id).holds 1) [ inl last ↦ h.closed last | inr several ↦ h.open_still several ∙ sym (append-nil a) ]

abbrev Whole : Type 0 → Type 0
Whole S = Layered MeasuresWithRoom S

abbrev does_over : {S : Type 0} → (S → Spans) → (S → SubscriberCall → S → Type 0) → Whole S → SubscriberCall → Whole S → Type 0
does_over spans inner = λ p call q. DoesBoth spans inner measures_at unchanged attaches_no p.inner p.layer call q.inner q.layer

pub one_call : {S : Type 0} (spans : S → Spans) (inner : S → SubscriberCall → S → Type 0) (attaches : S → Bool) (held : S → ℕ → ℕ → ℕ) → ((s : S) (c : SubscriberCall) (t : S) → inner s c t → CallKeepsLanes (attaches s) (held s) c (held t))
    → (old new : WorldValue (Whole S)) (dispatch : ℕ) (call : SubscriberCall) → Replaced (λ p q. does_over spans inner p call q) old new dispatch → read_subscriber waiting_measures [] new dispatch ≡ read_subscriber waiting_measures [] old dispatch ++ measures_of_call call
one_call {S} spans inner attaches held lanes old new dispatch call r =
    let R : Whole S → Whole S → Type 0 = λ p q. does_over spans inner p call q in
    let p = r.before in
    let q = r.later in
    let h = over_hears spans inner measures_at unchanged attaches_no behind kept (λ l hook m d. d.0) (λ l m e. e) p.inner q.inner p.layer q.layer call (attaches p.inner) (held p.inner) (held q.inner) (λ c. lanes p.inner c q.inner) r.did in
    seen_later R old new dispatch r waiting_measures [] ∙ from_heard (spans p.inner) call (kept p.layer) (kept q.layer) h ∙ ap (λ (ms : List Measure). ms ++ measures_of_call call) (sym (seen_before R old new dispatch r waiting_measures []))

pub one_room : {S : Type 0} (same : S → S → Type 0) (old new : WorldValue (Whole S)) (dispatch : ℕ) → Replaced (λ p q. same p.inner q.inner × unchanged p.layer q.layer) old new dispatch → read_subscriber waiting_measures [] new dispatch ≡ read_subscriber waiting_measures [] old dispatch
one_room same old new dispatch r = kept_place waiting_measures [] (λ p q h. h.1) old new dispatch r

closing_keeps : {S : Type 0} (spans : S → Spans) (inner : S → SubscriberCall → S → Type 0) (p : Whole S) (id at : ℕ) (q : Whole S) → does_over spans inner p (TryClose id at) q → waiting_measures q ≡ waiting_measures p
closing_keeps spans inner p id at q d = elim (cases_eq (span_at (spans p.inner).made id).holds 1) [ inl last ↦ (d.closed last).0 ∙ append-nil (waiting_measures p) | inr several ↦ d.open_still several ]

chain_keeps : {S : Type 0} (spans : S → Spans) (inner : S → SubscriberCall → S → Type 0) (at : ℕ) (next : Option ℕ) (p q : Whole S) → Chain (λ (s : Whole S). spans s.inner) (does_over spans inner) at next p q → waiting_measures q ≡ waiting_measures p
chain_keeps spans inner at _ _ _ (ended p) = refl
chain_keeps spans inner at _ _ _ (closes id p m q did rest) = chain_keeps spans inner at (parent_to_release (spans p.inner).made id) m q rest ∙ closing_keeps spans inner p id at m did

pub one_chain : {S : Type 0} (spans : S → Spans) (inner : S → SubscriberCall → S → Type 0) (at : ℕ) (old new : WorldValue (Whole S)) (dispatch id : ℕ) → Replaced (λ p q. Chain (λ (s : Whole S). spans s.inner) (does_over spans inner) at (Some id) p q) old new dispatch
    → read_subscriber waiting_measures [] new dispatch ≡ read_subscriber waiting_measures [] old dispatch
one_chain spans inner at old new dispatch id r = kept_place waiting_measures [] (λ p q d. chain_keeps spans inner at (Some id) p q d) old new dispatch r
