-- Three handles after a take, a put and a call.
use Rattle.std.proofs.Common.{◌≡◌, ℕ, List, Bool, true, false, Option, Some, None, refl, sym, ap, ◌∙◌, subst}
use Rattle.std.specs.Prelude.{◌==◌, ◌&&◌, if◌then◌else◌, codes, bytes_eq}
use Rattle.std.proofs.lemmas.Bool.{eq-eqb, true≢false}
use Rattle.trace_base.specs.Gate.{WorldValue}
use Rattle.trace_base.specs.Spans.{Spans}
use Rattle.trace_base.specs.Calls.{SubscriberCall}
use Rattle.span_handles.specs.Handles.{Handle, HeldSpan, IsKnown, no_handle, same_held}
use Rattle.span_handles.specs.Knowing.{KeepsKnown, KeepsOthers}
use Rattle.explain_stack.specs.declared.handles.Handles.{Handles}
use Rattle.explain_stack.specs.Order.{IsKnownWithSite}
use Rattle.explain_stack.specs.Places.{AreKnownWithSites, IsNoneOf, ClosesNamed, handle_chosen, with_chosen, handle_named, with_named}
use Rattle.explain_stack.specs.Puts.{ClosesHeld}

pub none_held : {S : Type 0} (spans : S → Spans) (site_count : ℕ) (world : WorldValue S) → IsKnownWithSite spans site_count world no_handle
none_held spans site_count world = record { known = tt; site = tt }

some_if : {A : Type 0} (P : A → Type 0) (b : Bool) (x : A) (rest : Option A) (slot : A) → Some slot ≡ (if b then Some x else rest) → P x → (Some slot ≡ rest → P slot) → P slot
some_if {A} P true x rest slot is here there = (let same : slot ≡ x = cc is in subst (λ (y : A). P y) (sym same) here)
some_if P false x rest slot is here there = there is

if_holds : {A : Type 0} (P : A → Type 0) (b : Bool) (x y : A) → P x → P y → P (if b then x else y)
if_holds P true x y here there = here
if_holds P false x y here there = there

module _ {S : Type 0} (spans : S → Spans) (site_count : ℕ) (world : WorldValue S) where
  -- the one of a name is held, and all are where one is put
  pub named_held : (name : List ℕ) (handles : Handles) (slot : Handle) → Some slot ≡ handle_named name handles → AreKnownWithSites spans site_count world handles → IsKnownWithSite spans site_count world slot
  named_held name handles slot is held =
      some_if (λ (h : Handle). IsKnownWithSite spans site_count world h) (bytes_eq name (codes "a")) handles.a _ slot is held.a
      (λ i. some_if (λ (h : Handle). IsKnownWithSite spans site_count world h) (bytes_eq name (codes "b")) handles.b _ slot i held.b
      (λ j. some_if (λ (h : Handle). IsKnownWithSite spans site_count world h) (bytes_eq name (codes "c")) handles.c None slot j held.c (λ k. absurd (cc k))))

  pub put_held : (name : List ℕ) (slot : Handle) (handles : Handles) → IsKnownWithSite spans site_count world slot → AreKnownWithSites spans site_count world handles → AreKnownWithSites spans site_count world (with_named name slot handles)
  put_held name slot handles one held =
      if_holds (λ (hs : Handles). AreKnownWithSites spans site_count world hs) (bytes_eq name (codes "a")) _ _ (record { a = one; b = held.b; c = held.c })
      (if_holds (λ (hs : Handles). AreKnownWithSites spans site_count world hs) (bytes_eq name (codes "b")) _ _ (record { a = held.a; b = one; c = held.c })
      (if_holds (λ (hs : Handles). AreKnownWithSites spans site_count world hs) (bytes_eq name (codes "c")) _ handles (record { a = held.a; b = held.b; c = one }) held))

  pub none_put : (name : List ℕ) (slot : Handle) (old new : Handles) → slot ≡ no_handle → new ≡ with_named name slot old → AreKnownWithSites spans site_count world old → AreKnownWithSites spans site_count world new
  none_put name slot old new none is held =
      subst (λ (hs : Handles). AreKnownWithSites spans site_count world hs) (sym is) (put_held name slot old (subst (λ (h : Handle). IsKnownWithSite spans site_count world h) (sym none) (none_held spans site_count world)) held)

-- what was taken is put back
put_back_at : (a b c : Bool) (slot : Handle) (handles : Handles) → Some slot ≡ handle_chosen a b c handles → with_chosen a b c slot (with_chosen a b c no_handle handles) ≡ handles
put_back_at true b c slot handles is = (let same : slot ≡ handles.a = cc is in ap (λ (h : Handle). record handles { a = h }) same)
put_back_at false true c slot handles is = (let same : slot ≡ handles.b = cc is in ap (λ (h : Handle). record handles { b = h }) same)
put_back_at false false true slot handles is = (let same : slot ≡ handles.c = cc is in ap (λ (h : Handle). record handles { c = h }) same)
put_back_at false false false slot handles is = refl

pub put_back : (name : List ℕ) (slot : Handle) (old left new : Handles) → Some slot ≡ handle_named name old → left ≡ with_named name no_handle old → new ≡ with_named name slot left → new ≡ old
put_back name slot old left new is taken put =
    put ∙ ap (λ (hs : Handles). with_named name slot hs) taken
    ∙ put_back_at (bytes_eq name (codes "a")) (bytes_eq name (codes "b")) (bytes_eq name (codes "c")) slot old is

module _ {S : Type 0} (spans : S → Spans) (site_count : ℕ) (old new : WorldValue S) where
  pub one_held : KeepsKnown spans old new → (handle : Handle) → IsKnownWithSite spans site_count old handle → IsKnownWithSite spans site_count new handle
  one_held keeps handle held = record { known = keeps handle.held held.known; site = held.site }

  pub still_held : KeepsKnown spans old new → (handles : Handles) → AreKnownWithSites spans site_count old handles → AreKnownWithSites spans site_count new handles
  still_held keeps handles held = record { a = one_held keeps handles.a held.a; b = one_held keeps handles.b held.b; c = one_held keeps handles.c held.c }

  apart_held : (closed held : HeldSpan) → KeepsOthers spans old new closed → same_held held closed ≡ false → IsKnown spans old held → IsKnown spans new held
  apart_held closed None keeps apart known = tt
  apart_held closed (Some h) keeps apart known = keeps.known (Some h) (λ same. absurd (not_apart h (subst (λ (o : HeldSpan). same_held (Some h) o ≡ false) (sym same) apart))) known
    where
      not_apart : (h : ℕ × ℕ) → same_held (Some h) (Some h) ≡ false → ⊥
      not_apart h e = true≢false (sym (ap (λ (x : Bool). x && (h.1 == h.1)) (eq-eqb h.0 h.0 refl) ∙ eq-eqb h.1 h.1 refl) ∙ e)

  others_held : (closed : Handle) → KeepsOthers spans old new closed.held → (handles : Handles) → IsNoneOf handles closed → AreKnownWithSites spans site_count old handles → AreKnownWithSites spans site_count new handles
  others_held closed keeps handles none held = record {
    a = record { known = apart_held closed.held handles.a.held keeps none.a held.a.known; site = held.a.site };
    b = record { known = apart_held closed.held handles.b.held keeps none.b held.b.known; site = held.b.site };
    c = record { known = apart_held closed.held handles.c.held keeps none.c held.c.known; site = held.c.site };
  }

  -- the others are held where the one of a name was closed
  pub closed_held : (name : List ℕ) (closed : Handle) (handles left : Handles) → left ≡ with_named name no_handle handles → IsNoneOf left closed → KeepsOthers spans old new closed.held → AreKnownWithSites spans site_count old handles → AreKnownWithSites spans site_count new left
  closed_held name closed handles left is none keeps held =
      others_held closed keeps left none (subst (λ (hs : Handles). AreKnownWithSites spans site_count old hs) (sym is) (put_held spans site_count old name no_handle handles (none_held spans site_count old) held))

pub closes_named : {S : Type 0} (spans : S → Spans) (does : S → SubscriberCall → S → Type 0) (at : ℕ) (name : List ℕ) (closed : Handle) (handles : Handles) (old : WorldValue S) (left : Handles) (new : WorldValue S) → Some closed ≡ handle_named name handles → left ≡ with_named name no_handle handles
    → ClosesHeld spans does at old new closed.held → ClosesNamed spans does at name handles old left new
closes_named spans does at name closed handles old left new was is closes = record { handle = closed; was = was; closed = closes; left_is = is }
