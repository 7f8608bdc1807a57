-- What calls of moments up to one came to, put together.
use Rattle.std.proofs.Common.{◌≡◌, ℕ, List, [], ◌∷◌, ◌++◌, Option, Some, None, sym, subst, ◌∙◌, arith, inl, inr, slice_get}
use Rattle.span_futures.proofs.Common.{cases_eq, Lane, WorldValue, SubscriberCall, Enter, Exit, Replaced, HeldSpan, ReplacedOn, now_there}
use Rattle.std.proofs.lemmas.List.Elements.{All-nil, All-cons, All-append}
use Rattle.span_futures.specs.Calling.{SubscriberChange, Calls, IsCallUpTo, IsChangeUpTo, DoesChange, DoesAll, IsChangedUpTo, ChangesUpTo}
use Rattle.span_futures.proofs.KeptLemmas.{others_same}

module _ {S : Type 0} (does : S → SubscriberCall → S → Type 0) (besides : ℕ → S → S → Type 0) (same : S → S → Type 0) (same_refl : (s : S) → same s s) (same_trans : (s t u : S) → same s t → same t u → same s u) (last : ℕ) where
  -- room that was taken before some changes
  runs_after : (s m : S) (changes : List SubscriberChange) (t : S) → same s m → DoesAll does besides same m changes t → DoesAll does besides same s changes t
  runs_after s m [] t room alike = same_trans s m t room alike
  runs_after s m (change ∷ changes) t room (a, b, taken, did, rest) = (a, b, same_trans s m a room taken, did, rest)

  runs_append : (s : S) (changes : List SubscriberChange) (m : S) (more : List SubscriberChange) (t : S) → DoesAll does besides same s changes m → DoesAll does besides same m more t → DoesAll does besides same s (changes ++ more) t
  runs_append s [] m more t room runs = runs_after s m more t room runs
  runs_append s (change ∷ changes) m more t (a, b, taken, did, rest) runs = (a, b, taken, did, runs_append b changes m more t rest runs)

  -- room alone was taken
  pub called_same : (s t : S) → same s t → IsChangedUpTo does besides same last s t
  called_same s t room = record { changes = []; moments = All-nil (IsChangeUpTo last); runs = room }

  -- one thing was done
  pub changed_once : (s : S) (change : SubscriberChange) (t : S) → IsChangeUpTo last change → DoesChange does besides s change t → IsChangedUpTo does besides same last s t
  changed_once s change t by did = record {
    changes = change ∷ [];
    moments = All-cons (IsChangeUpTo last) change [] by (All-nil (IsChangeUpTo last));
    runs = (s, t, same_refl s, did, same_refl t);
  }

  pub called_once : (s : S) (call : SubscriberCall) (t : S) → IsCallUpTo last call → does s call t → IsChangedUpTo does besides same last s t
  called_once s call t by did = changed_once s (Calls call) t by did

  called_then : (s m t : S) → IsChangedUpTo does besides same last s m → IsChangedUpTo does besides same last m t → IsChangedUpTo does besides same last s t
  called_then s m t first second = record {
    changes = first.changes ++ second.changes;
    moments = All-append (IsChangeUpTo last) first.changes second.changes first.moments second.moments;
    runs = runs_append s first.changes m second.changes t first.runs second.runs;
  }

  -- nothing happened
  pub calls_none : (world : WorldValue S) → ChangesUpTo does besides same last world world
  calls_none world d s there = (s, there, called_same s s (same_refl s))

  -- one thing after another
  pub calls_then : (old world new : WorldValue S) → ChangesUpTo does besides same last old world → ChangesUpTo does besides same last world new → ChangesUpTo does besides same last old new
  calls_then old world new first second d s there =
      let one = first d s there in
      let two = second d one.0 one.1 in
      (two.0, two.1, called_then s one.0 two.0 one.2 two.2)

  -- one subscriber was called
  pub calls_one : (R : S → S → Type 0) (old new : WorldValue S) (dispatch : ℕ) → ((s t : S) → R s t → IsChangedUpTo does besides same last s t) → Replaced R old new dispatch → ChangesUpTo does besides same last old new
  calls_one R old new dispatch step r d s there = elim (cases_eq d dispatch) [
    | inl here ↦ (
        let at_old : slice_get old.subscribers dispatch ≡ Some s = subst (λ (k : ℕ). slice_get old.subscribers k ≡ Some s) here there in (
          r.later,
          subst (λ (k : ℕ). slice_get new.subscribers k ≡ Some r.later) (sym here) (now_there R old new dispatch r),
          subst (λ (x : S). IsChangedUpTo does besides same last x r.later) (the_same r.before s (sym r.there ∙ at_old)) (step r.before r.later r.did),
        ))
    | inr other ↦ (s, others_same R old new dispatch r d other ∙ there, called_same s s (same_refl s))
  ] where
    the_same : (x y : S) → ◌≡◌ {A = Option S} (Some x) (Some y) → x ≡ y
    the_same x y e = cc e

  -- a call was made on a handle
  pub calls_on : (R : ℕ → S → S → Type 0) (old new : WorldValue S) (held : HeldSpan) → ((id : ℕ) (s t : S) → R id s t → IsChangedUpTo does besides same last s t) → ReplacedOn R old new held → ChangesUpTo does besides same last old new
  calls_on R old new None step r = subst (λ (w : WorldValue S). ChangesUpTo does besides same last old w) (sym r) (calls_none old)
  calls_on R old new (Some h) step r = calls_one (R h.1) old new h.0 (step h.1) r

  -- a handle's span was entered, or that was refused
  pub calls_enter : (old new : WorldValue S) (before later : Lane) (held : HeldSpan) → ReplacedOn (λ id s t. does s (Enter id last before later) t) old new held → ChangesUpTo does besides same last old new
  calls_enter old new before later held r =
      calls_on (λ id s t. does s (Enter id last before later) t) old new held (λ id s t did. called_once s (Enter id last before later) t (omega arith) did) r

  pub calls_refused : (old new : WorldValue S) (held : HeldSpan) → ReplacedOn (λ id s t. same s t) old new held → ChangesUpTo does besides same last old new
  calls_refused old new held r = calls_on (λ id s t. same s t) old new held (λ id s t room. called_same s t room) r

  calls_exit : (old new : WorldValue S) (before later : Lane) (held : HeldSpan) → ReplacedOn (λ id s t. does s (Exit id last before later) t) old new held → ChangesUpTo does besides same last old new
  calls_exit old new before later held r =
      calls_on (λ id s t. does s (Exit id last before later) t) old new held (λ id s t did. called_once s (Exit id last before later) t (omega arith) did) r

  -- a poll between an entry and its exit
  pub calls_inside : (held : HeldSpan) (old world left new : WorldValue S) (before lane left_lane later : Lane) → ReplacedOn (λ id s t. does s (Enter id last before lane) t) old world held
      → ChangesUpTo does besides same last world left → ReplacedOn (λ id s t. does s (Exit id last left_lane later) t) left new held → ChangesUpTo does besides same last old new
  calls_inside held old world left new before lane left_lane later entered polled exited =
      calls_then old left new (calls_then old world left (calls_enter old world before lane held entered) polled) (calls_exit left new left_lane later held exited)
