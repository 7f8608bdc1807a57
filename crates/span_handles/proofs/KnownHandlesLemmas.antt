-- Which handles a world goes on to know.
use Rattle.std.proofs.Common.{◌≡◌, ℕ, zero, suc, ◌+◌, ◌<◌, List, [], ◌∷◌, length, Option, Some, None, Result, Ok, Err, refl, sym, ap, subst, ◌∙◌, arith, inl, inr, slice_get, slice_set, OnOk, OnErr}
use Rattle.span_handles.proofs.Common.{cases_eq, ValueSet, Lane, Parent, WorldValue, Spans, entries_on, parent_on, SubscriberCall, NewSpan, CloneSpan, spans_after_call, with_new_span, Allowed, HasUnboundHold, IsSound, parent_live, new_own, clone_own, Has, Replaced, Chain, HeldSpan, IsKnown, IsKnownBeside, KeepsKnown, KeepsHandles, KeepsOthers, GainsOne, LosesOne, IsNoClose}
use Rattle.trace_base.specs.declared.callsite.Callsite.{Callsite}
use Rattle.span_handles.proofs.OwnHoldsLemmas.{OwnBeside, held_more, call_own, chain_own}
use Rattle.span_handles.proofs.ChangedSubscriberLemmas.{as_many, now_there}

-- what is read of a subscriber that nothing was called of
get_other : {X : Type 0} (xs : List X) (n k : ℕ) (y : X) → (k ≡ n → ⊥) → slice_get (slice_set xs n y) k ≡ slice_get xs k
get_other [] n k y apart = refl
get_other (x ∷ xs) zero zero y apart = absurd (apart refl)
get_other (x ∷ xs) zero (suc k) y apart = refl
get_other (x ∷ xs) (suc n) zero y apart = refl
get_other (x ∷ xs) (suc n) (suc k) y apart = get_other xs n k y (λ e. apart (ap (λ (i : ℕ). suc i) e))

module _ {S : Type 0} (spans : S → Spans) (R : S → S → Type 0) (old new : WorldValue S) (dispatch : ℕ) (r : Replaced R old new dispatch) where
  the_later : (s : S) → slice_get new.subscribers dispatch ≡ Some s → r.later ≡ s
  the_later s there = (let e : ◌≡◌ {A = Option S} (Some r.later) (Some s) = sym (now_there R old new dispatch r) ∙ there in cc e)

  -- what is known of a handle, where its span keeps such holds
  known_by : (P Q : S → ℕ → Type 0) (d q : ℕ) → ((d ≡ dispatch) → P r.before q → Q r.later q) → ((d ≡ dispatch → ⊥) → (s : S) → P s q → Q s q)
      → (d < length old.subscribers) × Has (λ s. P s q) old d → (d < length new.subscribers) × Has (λ s. Q s q) new d
  known_by P Q d q step rest known = (
    (let c = as_many R old new dispatch r in let k = known.0 in omega (arith, c, k)),
    elim (cases_eq d dispatch) [
      | inl here ↦ subst (λ (k : ℕ). Has (λ s. Q s q) new k) (sym here)
          (λ s there. subst (λ (t : S). Q t q) (the_later s there) (step here (known.1 r.before (ap (slice_get old.subscribers) here ∙ r.there))))
      | inr other ↦ λ s there. rest other s (known.1 s (sym (ap (λ (w : WorldValue S). slice_get w.subscribers d) r.others ∙ get_other old.subscribers dispatch d r.later other) ∙ there))
    ],
  )

  -- with so many others before and so many later
  beside_by : (n m d q : ℕ) → ((d ≡ dispatch) → OwnBeside n (spans r.before) q → OwnBeside m (spans r.later) q) → ((d ≡ dispatch → ⊥) → m ≡ n)
      → IsKnownBeside spans n old (Some (d, q)) → IsKnownBeside spans m new (Some (d, q))
  beside_by n m d q step same = known_by (λ s k. OwnBeside n (spans s) k) (λ s k. OwnBeside m (spans s) k) d q step (λ other s own. subst (λ (k : ℕ). OwnBeside k (spans s) q) (sym (same other)) own)

-- a handle is known beside none, and beside some it is known
pub beside_none : {S : Type 0} (spans : S → Spans) (world : WorldValue S) (held : HeldSpan) → IsKnown spans world held → IsKnownBeside spans 0 world held
beside_none spans world None known = tt
beside_none spans world (Some h) known = (known.0, λ s there. (let own = known.1 s there in omega (arith, own)))

pub known_beside : {S : Type 0} (spans : S → Spans) (others : ℕ) (world : WorldValue S) (held : HeldSpan) → IsKnownBeside spans others world held → IsKnown spans world held
known_beside spans others world None known = tt
known_beside spans others world (Some h) known = (known.0, λ s there. (let own = known.1 s there in omega (arith, own)))

-- so what holds beside any number of others holds of known handles
module _ {S : Type 0} (spans : S → Spans) (old new : WorldValue S) where
  all_kept : ((others : ℕ) (held : HeldSpan) → IsKnownBeside spans others old held → IsKnownBeside spans others new held) → KeepsHandles spans old new
  all_kept beside = record { known = λ held known. known_beside spans 0 new held (beside 0 held (beside_none spans old held known)); beside = beside }

  others_kept : (closed : HeldSpan) → ((others : ℕ) (held : HeldSpan) → (held ≡ closed → ⊥) → IsKnownBeside spans others old held → IsKnownBeside spans others new held) → KeepsOthers spans old new closed
  others_kept closed beside = record { known = λ held apart known. known_beside spans 0 new held (beside 0 held apart (beside_none spans old held known)); beside = beside }

  one_gained : (held : HeldSpan) → ((others : ℕ) → IsKnownBeside spans others old held → IsKnownBeside spans (others + 1) new held) → GainsOne spans old new held
  one_gained held more = record { first = λ known. more 0 (beside_none spans old held known); more = more }

  one_lost : (held : HeldSpan) → ((others : ℕ) → IsKnownBeside spans (others + 1) old held → IsKnownBeside spans others new held) → LosesOne spans old new held
  one_lost held fewer = record { last = λ known. known_beside spans 0 new held (fewer 0 known); fewer = fewer }

-- one after the other
pub handles_trans : {S : Type 0} (spans : S → Spans) (old now new : WorldValue S) → KeepsHandles spans old now → KeepsHandles spans now new → KeepsHandles spans old new
handles_trans spans old now new first second = record { known = λ held known. second.known held (first.known held known); beside = λ others held known. second.beside others held (first.beside others held known) }

module _ {S : Type 0} (spans : S → Spans) (same : S → S → Type 0) (same_spans : (s t : S) → same s t → spans t ≡ spans s) (old new : WorldValue S) (dispatch : ℕ) (r : Replaced same old new dispatch) where
  same_beside : (n : ℕ) (held : HeldSpan) → IsKnownBeside spans n old held → IsKnownBeside spans n new held
  same_beside n None known = tt
  same_beside n (Some h) known = beside_by spans same old new dispatch r n n h.0 h.1 (λ here own. subst (λ (x : Spans). OwnBeside n x h.1) (sym (same_spans r.before r.later r.did)) own) (λ other. refl) known

  pub handles_same : KeepsHandles spans old new
  handles_same = all_kept spans old new same_beside

  pub keeps_same : KeepsKnown spans old new
  keeps_same = handles_same.known

module _ {S : Type 0} (spans : S → Spans) (does : S → SubscriberCall → S → Type 0) (sound : (s : S) (call : SubscriberCall) (t : S) → does s call t → IsSound (spans s))
    (allowed : (s : S) (call : SubscriberCall) (t : S) → does s call t → Allowed (spans s) call) (shows : (s : S) (call : SubscriberCall) (t : S) → does s call t → spans t ≡ spans_after_call (spans s) call) where
  call_beside : (old new : WorldValue S) (dispatch : ℕ) (call : SubscriberCall) → Replaced (λ s t. does s call t) old new dispatch → IsNoClose call → (n : ℕ) (held : HeldSpan) → IsKnownBeside spans n old held → IsKnownBeside spans n new held
  call_beside old new dispatch call r kind n None known = tt
  call_beside old new dispatch call r kind n (Some h) known =
      let R : S → S → Type 0 = λ s t. does s call t in
      beside_by spans R old new dispatch r n n h.0 h.1
      (λ here own. subst (λ (x : Spans). OwnBeside n x h.1) (sym (shows r.before call r.later r.did)) (call_own n (spans r.before) call h.1 (sound r.before call r.later r.did) (allowed r.before call r.later r.did) kind own)) (λ other. refl) known

  pub handles_call : (old new : WorldValue S) (dispatch : ℕ) (call : SubscriberCall) → Replaced (λ s t. does s call t) old new dispatch → IsNoClose call → KeepsHandles spans old new
  handles_call old new dispatch call r kind = all_kept spans old new (call_beside old new dispatch call r kind)

  pub keeps_call : (old new : WorldValue S) (dispatch : ℕ) (call : SubscriberCall) → Replaced (λ s t. does s call t) old new dispatch → IsNoClose call → KeepsKnown spans old new
  keeps_call old new dispatch call r kind = (handles_call old new dispatch call r kind).known

  -- of a span with one hold more
  pub gains_call : (old new : WorldValue S) (dispatch id : ℕ) → Replaced (λ s t. does s (CloneSpan id) t) old new dispatch → GainsOne spans old new (Some (dispatch, id))
  gains_call old new dispatch id r =
      let R : S → S → Type 0 = λ s t. does s (CloneSpan id) t in
      one_gained spans old new (Some (dispatch, id)) (λ n. beside_by spans R old new dispatch r n (n + 1) dispatch id
      (λ here own. subst (λ (x : Spans). OwnBeside (n + 1) x id) (sym (shows r.before (CloneSpan id) r.later r.did)) (held_more n (spans r.before) id own)) (λ other. absurd (other refl)))

  -- a call that may have been refused
  pub handles_result : (same : S → S → Type 0) → ((s t : S) → same s t → spans t ≡ spans s) → {T E : Type 0} (old : WorldValue S) (dispatch : ℕ) (s t : S) (call : SubscriberCall) → slice_get old.subscribers dispatch ≡ Some s
      → (result : Result T E) → OnOk result (does s call t) → IsNoClose call → OnErr result (same s t) → KeepsHandles spans old (record old { subscribers = slice_set old.subscribers dispatch t })
  handles_result same same_spans old dispatch s t call there (Ok x) did kind left = handles_call old (record old { subscribers = slice_set old.subscribers dispatch t }) dispatch call (record { before = s; later = t; there = there; did = did; others = refl }) kind
  handles_result same same_spans old dispatch s t call there (Err e) did kind left = handles_same spans same same_spans old (record old { subscribers = slice_set old.subscribers dispatch t }) dispatch (record { before = s; later = t; there = there; did = left; others = refl })

-- a chain of closes, from a span on
module _ {S : Type 0} (spans : S → Spans) (does : S → SubscriberCall → S → Type 0) (allowed : (s : S) (call : SubscriberCall) (t : S) → does s call t → Allowed (spans s) call)
    (shows : (s : S) (call : SubscriberCall) (t : S) → does s call t → spans t ≡ spans_after_call (spans s) call) (old new : WorldValue S) (dispatch at id : ℕ) (r : Replaced (λ s t. Chain spans does at (Some id) s t) old new dispatch) where
  apart_beside : (n : ℕ) (held : HeldSpan) → (held ≡ Some (dispatch, id) → ⊥) → IsKnownBeside spans n old held → IsKnownBeside spans n new held
  apart_beside n None apart known = tt
  apart_beside n (Some h) apart known =
      let R : S → S → Type 0 = λ s t. Chain spans does at (Some id) s t in
      beside_by spans R old new dispatch r n n h.0 h.1
      (λ here own. chain_own spans does allowed shows at n (Some id) r.before r.later r.did h.1 (record { own = own; more = λ e. absurd (apart (same_span here (cc e))) })) (λ other. refl) known where
        same_span : h.0 ≡ dispatch → h.1 ≡ id → Some h ≡ Some (dispatch, id)
        same_span a b = ap (λ (d : ℕ). Some (d, h.1)) a ∙ ap (λ (k : ℕ). Some (dispatch, k)) b

  pub others_chain : KeepsOthers spans old new (Some (dispatch, id))
  others_chain = others_kept spans old new (Some (dispatch, id)) apart_beside

  pub loses_chain : LosesOne spans old new (Some (dispatch, id))
  loses_chain =
      let R : S → S → Type 0 = λ s t. Chain spans does at (Some id) s t in
      one_lost spans old new (Some (dispatch, id)) (λ n. beside_by spans R old new dispatch r (n + 1) n dispatch id
      (λ here own. chain_own spans does allowed shows at n (Some id) r.before r.later r.did id (record { own = omega (arith, own); more = λ e. own })) (λ other. absurd (other refl)))

-- a handle just made is known, and so is a copy
module _ {S : Type 0} (spans : S → Spans) (does : S → SubscriberCall → S → Type 0) (sound : (s : S) (call : SubscriberCall) (t : S) → does s call t → IsSound (spans s))
    (allowed : (s : S) (call : SubscriberCall) (t : S) → does s call t → Allowed (spans s) call) (shows : (s : S) (call : SubscriberCall) (t : S) → does s call t → spans t ≡ spans_after_call (spans s) call)
    (old new : WorldValue S) (dispatch id : ℕ) (there : dispatch < length old.subscribers) where
  pub made_known : (lane : Lane) (at : ℕ) (parent : Parent) (site : ℕ) (callsite : Callsite) (values : ValueSet)
      → Replaced (λ s t. (id ≡ length (spans s).made) × does s (NewSpan lane at parent site callsite values) t) old new dispatch → IsKnown spans new (Some (dispatch, id))
  made_known lane at parent site callsite values r =
      let call : SubscriberCall = NewSpan lane at parent site callsite values in
      let R : S → S → Type 0 = λ s t. (id ≡ length (spans s).made) × does s call t in
      let x = spans r.before in
      let above = parent_on (entries_on lane.id x.lanes) parent in
      let fine = sound r.before call r.later r.did.1 in
      let own = new_own x above site fine (parent_live x lane.id parent fine (allowed r.before call r.later r.did.1)) in
      let own_id = subst (λ (k : ℕ). HasUnboundHold (with_new_span x above site) k) (sym r.did.0) own in (
        (let n = as_many R old new dispatch r in omega (arith, n, there)),
        λ s here. subst (λ (t : S). HasUnboundHold (spans t) id) (the_later spans R old new dispatch r s here) (subst (λ (y : Spans). HasUnboundHold y id) (sym (shows r.before call r.later r.did.1)) own_id),
      )

  pub copy_known : Replaced (λ s t. does s (CloneSpan id) t) old new dispatch → IsKnown spans new (Some (dispatch, id))
  copy_known r =
      let call : SubscriberCall = CloneSpan id in
      let R : S → S → Type 0 = λ s t. does s call t in
      let own = clone_own (spans r.before) id (sound r.before call r.later r.did) (allowed r.before call r.later r.did) in (
        (let n = as_many R old new dispatch r in omega (arith, n, there)),
        λ s here. subst (λ (t : S). HasUnboundHold (spans t) id) (the_later spans R old new dispatch r s here) (subst (λ (y : Spans). HasUnboundHold y id) (sym (shows r.before call r.later r.did)) own),
      )
