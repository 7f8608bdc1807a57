-- What is known inside a span, and what its exit needs.
use Rattle.std.proofs.Common.{◌≡◌, ℕ, ◌+◌, ◌<◌, List, [], ◌∷◌, ◌++◌, Bool, Some, None, refl, sym, ap, subst, ◌∙◌, arith, inl, inr, ◌==◌}
use Rattle.span_handles.proofs.Common.{cases_Bool, cond-true, cond-false, Lane, WorldValue, Span, Spans, span_at, entries_on, is_in, times_in, with_hold, SubscriberCall, Enter, with_span_entry, spans_after_call, HasUnboundHold, MayExit, AreAttached, TracksAttached, CallKeepsLanes, attached_count, count_push, any_if_counted, with_same, made_if_held, first_if_in, first_with, in_push_same, keeps_children, holds_set, Has, Replaced, HeldSpan, IsKnown, HasOn}
use Rattle.std.proofs.lemmas.Bool.{eq-eqb}
use Rattle.span_handles.specs.Entries.{IsThere, IsOpenOn, IsAttachedOn, BeginsInside, KeepsEntry}
use Rattle.span_handles.proofs.ChangedSubscriberLemmas.{now_there, as_many}

-- a span that is entered keeps its own holds
own_entered : (x : Spans) (id lane : ℕ) → HasUnboundHold x id → HasUnboundHold (with_span_entry x id lane) id
own_entered x id lane own =
    let ids = entries_on lane x.lanes in
    let within = made_if_held x.made id (omega (arith, own)) in
    let now : Span = record (span_at x.made id) { holds = (span_at x.made id).holds + 1 } in
    let first = first_with x.lanes lane id (ids ++ id ∷ []) in
    let there = cond-true {A = ℕ} (is_in id (ids ++ id ∷ [])) 1 0 (in_push_same ids id) in
    elim (cases_Bool (is_in id ids)) [
      | inl again ↦ (
          let same : (with_span_entry x id lane).made ≡ x.made = cond-true {A = List Span} (is_in id ids) x.made (with_hold x.made id) again in
          let was = cond-true {A = ℕ} (is_in id ids) 1 0 again in
          subst (λ (made : List Span). HasUnboundHold (record (with_span_entry x id lane) { made = made }) id) (sym same) (omega (arith, first, there, was, own)))
      | inr new ↦ (
          let same : (with_span_entry x id lane).made ≡ with_hold x.made id = cond-false {A = List Span} (is_in id ids) x.made (with_hold x.made id) new in
          let was = cond-false {A = ℕ} (is_in id ids) 1 0 new in
          let children = keeps_children x.made id now within refl (omega (arith, own)) (omega arith) id in
          let h = holds_set x.made id now within id refl in
          subst (λ (made : List Span). HasUnboundHold (record (with_span_entry x id lane) { made = made }) id) (sym same) (omega (arith, first, there, was, own, children, h)))
    ]

open_entered : (x : Spans) (id lane : ℕ) → 0 < times_in id (entries_on lane (with_span_entry x id lane).lanes)
open_entered x id lane =
    let ids = entries_on lane x.lanes in
    let there = ap (times_in id) (with_same lane (ids ++ id ∷ []) x.lanes) in
    let push = count_push (λ y. y == id) ids id in
    let one = cond-true {A = ℕ} (id == id) 1 0 (eq-eqb id id refl) in
    omega (arith, there, push, one)

-- a span with its own hold may be exited where it has an entry
may_exit : (x : Spans) (id lane : ℕ) → HasUnboundHold x id → 0 < times_in id (entries_on lane x.lanes) → MayExit x id lane
may_exit x id lane own some =
    let first = first_if_in x.lanes lane id (any_if_counted (λ y. y == id) (entries_on lane x.lanes) some) in
    (some, λ one. omega (arith, first, own))

-- what is kept attached stays so at an entry
still_entered : (kept now : ℕ → ℕ → ℕ) (a b : Lane) → b.id ≡ a.id → TracksAttached kept a b now → AreAttached kept a → AreAttached now b
still_entered kept now a b same keeps_all still number =
    let k = keeps_all b.id number in
    let s = still number in
    let x = cond-true {A = ℕ} (a.id == b.id) (attached_count number a) 0 (eq-eqb a.id b.id (sym same)) in
    let y = cond-true {A = ℕ} (b.id == b.id) (attached_count number b) 0 (eq-eqb b.id b.id refl) in
    let z = ap (λ (l : ℕ). kept l number) same in
    omega (arith, k, s, x, y, z)

-- from what holds of the subscriber before to what holds of the one after
moves : {S : Type 0} (R : S → S → Type 0) (old new : WorldValue S) (dispatch : ℕ) (r : Replaced R old new dispatch) (P Q : S → Type 0) → ((s t : S) → R s t → P s → Q t) → Has P old dispatch → Has Q new dispatch
moves {S} R old new dispatch r P Q step has s there =
    let e : Some r.later ≡ Some s = sym (now_there R old new dispatch r) ∙ there in
    let same : r.later ≡ s = cc e in
    subst Q same (step r.before r.later r.did (has r.before r.there))

-- what an exit needs
pub record MayEnd {S : Type 0} (spans : S → Spans) (kept : S → ℕ → ℕ → ℕ) (is_whole : S → Type 0) (held : HeldSpan) (world : WorldValue S) (lane : Lane) : Type 0 where
  pub there : IsThere world held
  pub whole : HasOn (λ s id. is_whole s) world held
  pub may : HasOn (λ s id. MayExit (spans s) id lane.id) world held
  pub still : HasOn (λ s id. AreAttached (kept s) lane) world held

module _ {S : Type 0} (spans : S → Spans) (attaches : S → Bool) (kept : S → ℕ → ℕ → ℕ) (is_whole : S → Type 0) (does : S → SubscriberCall → S → Type 0)
    (shows : (s : S) (call : SubscriberCall) (t : S) → does s call t → spans t ≡ spans_after_call (spans s) call) (lanes : (s : S) (call : SubscriberCall) (t : S) → does s call t → CallKeepsLanes (attaches s) (kept s) call (kept t))
    (keeps_whole : (s : S) (call : SubscriberCall) (t : S) → does s call t → is_whole s → is_whole t)
    (at : ℕ) (old world later : WorldValue S) (before lane left : Lane) where
  pub may_end : (held : HeldSpan) → IsKnown spans old held → HasOn (λ s id. is_whole s) old held → IsAttachedOn kept before old held → BeginsInside does at held old before world lane → KeepsEntry spans kept is_whole held world lane later left → MayEnd spans kept is_whole held later left
  may_end None known whole still begins keep = record { there = tt; whole = tt; may = tt; still = tt }
  may_end (Some h) known whole still begins keep =
      let call : SubscriberCall = Enter h.1 at before lane in
      let R : S → S → Type 0 = λ s t. does s call t in
      let r = begins.entered in
      let known_inside : IsKnown spans world (Some h) = (
        (let n = as_many R old world h.0 r in let k = known.0 in omega (arith, n, k)),
        moves R old world h.0 r (λ s. HasUnboundHold (spans s) h.1) (λ s. HasUnboundHold (spans s) h.1) (λ s t d own. subst (λ (x : Spans). HasUnboundHold x h.1) (sym (shows s call t d)) (own_entered (spans s) h.1 before.id own)) known.1,
      ) in
      let whole_inside : HasOn (λ s id. is_whole s) world (Some h) = moves R old world h.0 r is_whole is_whole (λ s t d w. keeps_whole s call t d w) whole in
      let open_inside : IsOpenOn spans lane.id world (Some h) = moves R old world h.0 r is_whole (λ s. 0 < times_in h.1 (entries_on lane.id (spans s).lanes)) (λ s t d w.
      subst (λ (l : ℕ). 0 < times_in h.1 (entries_on l (spans t).lanes)) (sym (lanes s call t d).0.id)
      (subst (λ (x : Spans). 0 < times_in h.1 (entries_on before.id x.lanes)) (sym (shows s call t d)) (open_entered (spans s) h.1 before.id))) whole in
      let still_inside : IsAttachedOn kept lane world (Some h) = moves R old world h.0 r (λ s. AreAttached (kept s) before) (λ s. AreAttached (kept s) lane) (λ s t d st. still_entered (kept s) (kept t) before lane (lanes s call t d).0.id (lanes s call t d).1 st) still in
      let known_later = keep.known known_inside in
      let open_later = keep.open_still open_inside in
      record {
        there = known_later.0;
        whole = keep.whole whole_inside;
        may = λ s there. may_exit (spans s) h.1 left.id (known_later.1 s there) (subst (λ (l : ℕ). 0 < times_in h.1 (entries_on l (spans s).lanes)) (sym keep.lane_id) (open_later s there));
        still = keep.attached still_inside;
      }
