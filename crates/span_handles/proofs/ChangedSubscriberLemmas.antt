-- What is read of the one subscriber that changed.
use Rattle.std.proofs.Common.{◌≡◌, ℕ, zero, suc, Bool, false, List, [], ◌∷◌, length, Option, Some, subst, sym, ap, ◌∙◌, slice_get, slice_set, refl}
use Rattle.span_handles.proofs.Common.{option_map_or, WorldValue, Spans, parent_to_release, SubscriberCall, TryClose, spans_after_call, Allowed, CallKeepsLanes, Has, Replaced, read_subscriber, ChangesPlainData, KeepsPlainData, Chain, ended, closes, ReleasesChain, all_released, releases, ChainChangesPlainData, no_spans}
use Rattle.std.proofs.lemmas.List.{length-set}

get_set : {X : Type 0} (xs : List X) (n : ℕ) (x y : X) → slice_get xs n ≡ Some x → slice_get (slice_set xs n y) n ≡ Some y
get_set [] n x y there = absurd (cc there)
get_set (z ∷ xs) zero x y there = refl
get_set (z ∷ xs) (suc n) x y there = get_set xs n x y there

module _ {S : Type 0} (R : S → S → Type 0) (old new : WorldValue S) (dispatch : ℕ) (r : Replaced R old new dispatch) where
  pub now_there : slice_get new.subscribers dispatch ≡ Some r.later
  now_there = ap (λ (w : WorldValue S). slice_get w.subscribers dispatch) r.others ∙ get_set old.subscribers dispatch r.before r.later r.there

  pub as_many : length new.subscribers ≡ length old.subscribers
  as_many = ap (λ (w : WorldValue S). length w.subscribers) r.others ∙ length-set old.subscribers dispatch r.later

  pub seen_before : {A : Type 0} (read : S → A) (none : A) → read_subscriber read none old dispatch ≡ read r.before
  seen_before {A} read none = ap (λ (o : Option S). option_map_or read o none) r.there

  pub seen_later : {A : Type 0} (read : S → A) (none : A) → read_subscriber read none new dispatch ≡ read r.later
  seen_later {A} read none = ap (λ (o : Option S). option_map_or read o none) now_there

  the_same : (s t : S) → ◌≡◌ {A = Option S} (Some s) (Some t) → s ≡ t
  the_same s t e = cc e

  pub keeps : (P : S → Type 0) → ((s t : S) → R s t → P s → P t) → Has P old dispatch → Has P new dispatch
  keeps P step has s there = subst P (the_same r.later s (sym now_there ∙ there)) (step r.before r.later r.did (has r.before r.there))

pub shown : {S : Type 0} (spans : S → Spans) (attaches : S → Bool) (kept : S → ℕ → ℕ → ℕ) (is_whole : S → Type 0) (does : S → SubscriberCall → S → Type 0)
    → ((s : S) (call : SubscriberCall) (t : S) → does s call t → spans t ≡ spans_after_call (spans s) call) → ((s : S) (call : SubscriberCall) (t : S) → does s call t → CallKeepsLanes (attaches s) (kept s) call (kept t))
    → ((s : S) (call : SubscriberCall) (t : S) → does s call t → attaches t ≡ attaches s) → ((s : S) (call : SubscriberCall) (t : S) → does s call t → is_whole s → is_whole t)
    → (old new : WorldValue S) (dispatch : ℕ) (call : SubscriberCall) → Replaced (λ s t. does s call t) old new dispatch → ChangesPlainData spans attaches kept is_whole old new dispatch call
shown {S} spans attaches kept is_whole does shows lanes keeps_attaches keeps_whole old new dispatch call r =
    let R : S → S → Type 0 = λ s t. does s call t in
    record {
      spans_after = seen_later R old new dispatch r spans _ ∙ shows r.before call r.later r.did ∙ ap (λ (x : Spans). spans_after_call x call) (sym (seen_before R old new dispatch r spans _));
      lanes = subst (λ (b : Bool). CallKeepsLanes b (read_subscriber kept (λ lane number. 0) old dispatch) call (read_subscriber kept (λ lane number. 0) new dispatch)) (sym (seen_before R old new dispatch r attaches false))
          (subst (λ (f : ℕ → ℕ → ℕ). CallKeepsLanes (attaches r.before) f call (read_subscriber kept (λ lane number. 0) new dispatch)) (sym (seen_before R old new dispatch r kept _))
          (subst (λ (f : ℕ → ℕ → ℕ). CallKeepsLanes (attaches r.before) (kept r.before) call f) (sym (seen_later R old new dispatch r kept _)) (lanes r.before call r.later r.did)));
      attaches_same = seen_later R old new dispatch r attaches false ∙ keeps_attaches r.before call r.later r.did ∙ sym (seen_before R old new dispatch r attaches false);
      count = as_many R old new dispatch r;
      whole = keeps R old new dispatch r is_whole (λ s t d w. keeps_whole s call t d w);
    }

pub alike : {S : Type 0} (spans : S → Spans) (attaches : S → Bool) (kept : S → ℕ → ℕ → ℕ) (is_whole : S → Type 0) (same : S → S → Type 0)
    → ((s t : S) → same s t → spans t ≡ spans s) → ((s t : S) → same s t → attaches t ≡ attaches s) → ((s t : S) → same s t → kept t ≡ kept s) → ((s t : S) → same s t → is_whole s → is_whole t)
    → (old new : WorldValue S) (dispatch : ℕ) → Replaced same old new dispatch → KeepsPlainData spans attaches kept is_whole old new dispatch
alike {S} spans attaches kept is_whole same same_spans same_attaches same_kept same_whole old new dispatch r = record {
  spans_same = seen_later same old new dispatch r spans _ ∙ same_spans r.before r.later r.did ∙ sym (seen_before same old new dispatch r spans _);
  attaches_same = seen_later same old new dispatch r attaches false ∙ same_attaches r.before r.later r.did ∙ sym (seen_before same old new dispatch r attaches false);
  kept_same = seen_later same old new dispatch r kept _ ∙ same_kept r.before r.later r.did ∙ sym (seen_before same old new dispatch r kept _);
  count = as_many same old new dispatch r;
  whole = keeps same old new dispatch r is_whole same_whole;
}

-- a chain, whatever its length
record Chained {S : Type 0} (spans : S → Spans) (attaches : S → Bool) (kept : S → ℕ → ℕ → ℕ) (is_whole : S → Type 0) (next : Option ℕ) (s t : S) : Type 0 where
  released : ReleasesChain next (spans s) (spans t)
  attaches_same : attaches t ≡ attaches s
  kept_same : kept t ≡ kept s
  whole : is_whole s → is_whole t

module _ {S : Type 0} (spans : S → Spans) (attaches : S → Bool) (kept : S → ℕ → ℕ → ℕ) (is_whole : S → Type 0) (does : S → SubscriberCall → S → Type 0)
    (allowed : (s : S) (call : SubscriberCall) (t : S) → does s call t → Allowed (spans s) call) (shows : (s : S) (call : SubscriberCall) (t : S) → does s call t → spans t ≡ spans_after_call (spans s) call)
    (lanes : (s : S) (call : SubscriberCall) (t : S) → does s call t → CallKeepsLanes (attaches s) (kept s) call (kept t))
    (keeps_attaches : (s : S) (call : SubscriberCall) (t : S) → does s call t → attaches t ≡ attaches s) (keeps_whole : (s : S) (call : SubscriberCall) (t : S) → does s call t → is_whole s → is_whole t) (at : ℕ) where
  chained : (next : Option ℕ) (s t : S) → Chain spans does at next s t → Chained spans attaches kept is_whole next s t
  chained _ _ _ (ended s) = record { released = all_released (spans s); attaches_same = refl; kept_same = refl; whole = λ w. w }
  chained _ _ _ (closes id s m t did rest) =
      let more = chained (parent_to_release (spans s).made id) m t rest in
      record {
        released = releases id at (spans s) (spans t) (allowed s (TryClose id at) m did) (subst (λ (x : Spans). ReleasesChain (parent_to_release (spans s).made id) x (spans t)) (shows s (TryClose id at) m did) more.released);
        attaches_same = more.attaches_same ∙ keeps_attaches s (TryClose id at) m did;
        kept_same = more.kept_same ∙ lanes s (TryClose id at) m did;
        whole = λ w. more.whole (keeps_whole s (TryClose id at) m did w);
      }

  pub chain_shown : (old new : WorldValue S) (dispatch id : ℕ) → Replaced (λ s t. Chain spans does at (Some id) s t) old new dispatch → ChainChangesPlainData spans attaches kept is_whole old new dispatch id
  chain_shown old new dispatch id r =
      let R : S → S → Type 0 = λ s t. Chain spans does at (Some id) s t in
      let all = chained (Some id) r.before r.later r.did in
      record {
        released = subst (λ (x : Spans). ReleasesChain (Some id) x (read_subscriber spans no_spans new dispatch)) (sym (seen_before R old new dispatch r spans _)) (subst (λ (y : Spans). ReleasesChain (Some id) (spans r.before) y) (sym (seen_later R old new dispatch r spans _)) all.released);
        attaches_same = seen_later R old new dispatch r attaches false ∙ all.attaches_same ∙ sym (seen_before R old new dispatch r attaches false);
        kept_same = seen_later R old new dispatch r kept _ ∙ all.kept_same ∙ sym (seen_before R old new dispatch r kept _);
        count = as_many R old new dispatch r;
        whole = keeps R old new dispatch r is_whole (λ s t d w. (chained (Some id) s t d).whole w);
      }
