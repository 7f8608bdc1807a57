-- What a filter over a subscriber hears of calls and of chains of closes.
use Rattle.std.proofs.Common.{◌≡◌, ℕ, List, [], ◌∷◌, Bool, false, Option, Some, None, refl, sym, ap, ◌∙◌, inl, inr, if◌then◌else◌, fold, is_some}
use Rattle.std.specs.Option.{option_map}
use Rattle.span_stack.proofs.Common.{cases_eq, WorldValue, Spans, span_at, SubscriberCall, NewSpan, Records, Follows, Event, Enter, Exit, CloneSpan, TryClose, spans_after_call, Allowed, CallKeepsLanes, Hook, LeavesLanes, Layered, DoesBoth, both_allowed, both_shows, ObservesCall, Replaced, Chain, read_subscriber, no_spans, closed_in, seen_before, seen_later, Layer, FilterState, FilterWithRoom, plain_filter, span_level, DoesFilter, BothOrNeither, layer_or, Steps, over_hears, step_in_place, does_in_place, same_in_place, filter_in_place}
use Rattle.std.proofs.lemmas.Bool.{eq-eqb, ne_eqb}
use Rattle.span_handles.proofs.ToldClosesLemmas.{told_world}
use Rattle.env_filter.specs.spans.Keyed.{put}
use Rattle.env_filter.specs.spans.Kept.{with_open_level, without_open_level}
use Rattle.span_stack.specs.FilterInPlace.{without_span, filter_after, FiltersChain}

-- a filter that can be exchanged, as a layer
abbrev pub hooks_on : Layer FilterWithRoom → Hook → Layer FilterWithRoom → Type 0
hooks_on l hook m = BothOrNeither (λ a b. DoesFilter a hook b) (LeavesLanes hook) l.inner m.inner

abbrev pub alike : Layer FilterWithRoom → Layer FilterWithRoom → Type 0
alike l m = BothOrNeither (λ (a b : FilterWithRoom). plain_filter b ≡ plain_filter a) (Unit {0}) l.inner m.inner

abbrev pub attaching : Layer FilterWithRoom → Bool
attaching l = layer_or false (λ _. false) l.inner

abbrev there : Layer FilterWithRoom → Option FilterState
there l = option_map plain_filter l.inner

map_itself : {A : Type 0} (o : Option A) → o ≡ option_map (λ a. a) o
map_itself None = refl
map_itself (Some a) = refl

from_heard : (spans : Spans) (call : SubscriberCall) (a b : Option FilterState) → ObservesCall (Steps step_in_place) spans a call b → b ≡ option_map (filter_after spans call) a
from_heard spans (NewSpan lane at parent site callsite values) a b h = h
from_heard spans (Records id at callsite values) a b h = h
from_heard spans (Follows id from at) a b h = h
from_heard spans (Event lane at parent site callsite values) a b h = h
from_heard spans (Enter id at before later) a b h =
    h.heard ∙ ap (λ (lane : ℕ). option_map (λ (f : FilterState). record f { lanes = put f.lanes lane (with_open_level (span_level f id) id (f.lanes lane)) }) a) h.id
from_heard spans (Exit id at before later) a b h =
    h.heard ∙ ap (λ (lane : ℕ). option_map (λ (f : FilterState). record f { lanes = put f.lanes lane (without_open_level (is_some (f.spans id)) id (f.lanes lane)) }) a) h.id
from_heard spans (CloneSpan id) a b h = h ∙ map_itself a
from_heard spans (TryClose id at) a b h =
    let holds = (span_at spans.made id).holds in
    let upon : Bool → Option FilterState = λ last. option_map (λ (f : FilterState). if last then without_span f id else f) a in
    elim (cases_eq holds 1) [
      | inl last ↦ h.closed last ∙ ap upon (sym (eq-eqb holds 1 last))
      | inr several ↦ h.open_still several ∙ map_itself a ∙ ap upon (sym (ne_eqb holds 1 several))
    ]

module _ {S : Type 0} (spans : S → Spans) (inner : S → SubscriberCall → S → Type 0) (attaches : S → Bool) (kept : S → ℕ → ℕ → ℕ)
    (allowed : (s : S) (c : SubscriberCall) (t : S) → inner s c t → Allowed (spans s) c) (shows : (s : S) (c : SubscriberCall) (t : S) → inner s c t → spans t ≡ spans_after_call (spans s) c)
    (lanes : (s : S) (c : SubscriberCall) (t : S) → inner s c t → CallKeepsLanes (attaches s) (kept s) c (kept t)) where
  abbrev Whole : Type 0
  Whole = Layered (Layer FilterWithRoom) S

  abbrev does : Whole → SubscriberCall → Whole → Type 0
  does p call q = DoesBoth spans inner hooks_on alike attaching p.inner p.layer call q.inner q.layer

  abbrev spans_of : Whole → Spans
  spans_of p = spans p.inner

  hears : (p : Whole) (call : SubscriberCall) (q : Whole) → does p call q → ObservesCall (Steps step_in_place) (spans_of p) (there p.layer) call (there q.layer)
  hears p call q d =
      over_hears spans inner hooks_on alike attaching step_in_place there (λ l h m k. does_in_place (LeavesLanes h) h l.inner m.inner k) (λ l m e. same_in_place (Unit {0}) l.inner m.inner e)
      p.inner q.inner p.layer q.layer call (attaches p.inner) (kept p.inner) (kept q.inner) (λ c. lanes p.inner c q.inner) d

  pub one_call : (old new : WorldValue Whole) (dispatch : ℕ) (call : SubscriberCall) → Replaced (λ p q. does p call q) old new dispatch
      → read_subscriber filter_in_place None new dispatch ≡ option_map (filter_after (read_subscriber spans_of no_spans old dispatch) call) (read_subscriber filter_in_place None old dispatch)
  one_call old new dispatch call r =
      let R : Whole → Whole → Type 0 = λ p q. does p call q in
      rw (seen_before R old new dispatch r spans_of no_spans, seen_before R old new dispatch r filter_in_place None, seen_later R old new dispatch r filter_in_place None)
      (from_heard (spans_of r.before) call (there r.before.layer) (there r.later.layer) (hears r.before call r.later r.did))

  folded : (ids : List ℕ) (o : Option FilterState) → fold (λ (p : Option FilterState) (id : ℕ). option_map (λ (f : FilterState). without_span f id) p) o ids ≡ option_map (λ (f : FilterState). fold without_span f ids) o
  folded [] o = map_itself o
  folded (id ∷ ids) None = folded ids None
  folded (id ∷ ids) (Some f) = folded ids (Some (without_span f id))

  pub one_chain : (at : ℕ) (old new : WorldValue Whole) (dispatch id : ℕ) → Replaced (λ p q. Chain spans_of does at (Some id) p q) old new dispatch
      → FiltersChain (Some id) (read_subscriber spans_of no_spans old dispatch) (read_subscriber spans_of no_spans new dispatch) (read_subscriber filter_in_place None old dispatch) (read_subscriber filter_in_place None new dispatch)
  one_chain at old new dispatch id r =
      let told = told_world spans_of does
      (λ p c q d. both_allowed spans inner hooks_on alike attaching p.inner q.inner p.layer q.layer c (λ k. allowed p.inner k q.inner) d)
      (λ p c q d. both_shows spans inner hooks_on alike attaching p.inner q.inner p.layer q.layer c (λ k. shows p.inner k q.inner) d)
      filter_in_place None (λ (o : Option FilterState) (n : ℕ). option_map (λ (f : FilterState). without_span f n) o)
      (λ p n when q d. (let h = hears p (TryClose n when) q d in (h.closed, h.open_still))) at old new dispatch id r in
      record { chain = told.chain; is = told.told ∙ folded (closed_in (Some id) (read_subscriber spans_of no_spans old dispatch) (read_subscriber spans_of no_spans new dispatch) told.chain) (read_subscriber filter_in_place None old dispatch) }

pub one_room : {S : Type 0} (same : S → S → Type 0) (old new : WorldValue (Layered (Layer FilterWithRoom) S)) (dispatch : ℕ) → Replaced (λ p q. same p.inner q.inner × alike p.layer q.layer) old new dispatch
    → read_subscriber filter_in_place None new dispatch ≡ read_subscriber filter_in_place None old dispatch
one_room {S} same old new dispatch r =
    let R : Layered (Layer FilterWithRoom) S → Layered (Layer FilterWithRoom) S → Type 0 = λ p q. same p.inner q.inner × alike p.layer q.layer in
    seen_later R old new dispatch r filter_in_place None ∙ same_in_place (Unit {0}) r.before.layer.inner r.later.layer.inner r.did.1 ∙ sym (seen_before R old new dispatch r filter_in_place None)
