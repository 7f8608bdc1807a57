-- What a layer keeps of its own, seen through the layers over it.
use Rattle.std.specs.Prelude.{◌≡◌, ℕ, Bool, length, Option, Some, None}
use Rattle.std.proofs.Common.{refl, sym, ap, subst, ◌∙◌, inl, inr}
use Rattle.std.proofs.lemmas.Bool.{cases_eq}
use Rattle.trace_base.specs.declared.lane.Lane.{Lane}
use Rattle.trace_base.specs.Spans.{Spans, span_at, entries_on, current_of, parent_on}
use Rattle.trace_base.specs.Calls.{SubscriberCall, NewSpan, Records, Follows, Event, Enter, Exit, CloneSpan, TryClose}
use Rattle.trace_base.specs.layers.Hooks.{Hook, OnNewSpan, OnRecord, OnFollows, OnEvent, OnEnter, OnExit, OnClose}
use Rattle.trace_base.specs.lanes.Contexts.{CallKeepsLanes}
use Rattle.span_registry.specs.Both.{DoesBoth}

-- a hook on a lane with that id, whatever its contexts are
pub record OnLane {A : Type 0} (hears : A → Hook → A → Type 0) (a : A) (hook : Lane → Lane → Hook) (lane : ℕ) (b : A) : Type 0 where
  pub before : Lane
  pub later : Lane
  pub id : before.id ≡ lane
  pub heard : hears a (hook before later) b

-- the hook of a release, which there is where the span closes
pub record AtClose {A : Type 0} (hears : A → Hook → A → Type 0) (a : A) (hook : Hook) (holds : ℕ) (b : A) : Type 0 where
  pub closed : holds ≡ 1 → hears a hook b
  pub open_still : (holds ≡ 1 → ⊥) → b ≡ a

-- what a call makes of something that hears hooks: what the hook of that call makes of it
abbrev pub ObservesCall : {A : Type 0} → (A → Hook → A → Type 0) → Spans → A → SubscriberCall → A → Type 0
ObservesCall hears spans a (NewSpan lane at parent site callsite values) b = hears a (OnNewSpan (length spans.made) lane at parent (current_of (entries_on lane.id spans.lanes)) callsite values) b
ObservesCall hears spans a (Records id at callsite values) b = hears a (OnRecord id at callsite values) b
ObservesCall hears spans a (Follows id from at) b = hears a (OnFollows id from at) b
ObservesCall hears spans a (Event lane at parent site callsite values) b = hears a (OnEvent (parent_on (entries_on lane.id spans.lanes) parent) lane at callsite values) b
ObservesCall hears spans a (Enter id at before later) b = OnLane hears a (OnEnter id at) before.id b
ObservesCall hears spans a (Exit id at before later) b = OnLane hears a (OnExit id at) before.id b
ObservesCall hears spans a (CloneSpan id) b = b ≡ a
ObservesCall hears spans a (TryClose id at) b = AtClose hears a (OnClose id at) (span_at spans.made id).holds b

-- something that is told keeps being told, and what is not told stays so
abbrev pub StaysPresent : {A : Type 0} → (A → A → Type 0) → Option A → Option A → Type 0
StaysPresent R None now = now ≡ None
StaysPresent {A} R (Some a) now = (b : A) × (now ≡ Some b) × R a b

-- what the layer tells, else what the subscriber below it does
abbrev pub outer_or_inner : {A : Type 0} → Option A → Option A → Option A
outer_or_inner None inner = inner
outer_or_inner (Some outer) inner = Some outer

module _ {S L A : Type 0} (hears : A → Hook → A → Type 0) (spans : S → Spans) (inner : S → SubscriberCall → S → Type 0) (outer : L → Hook → L → Type 0) (same : L → L → Type 0) (attaches : L → Bool) where
  -- a layer that tells something hears the hook of each call
  outer_told : (s t : S) (l m : L) (call : SubscriberCall) (sa : Bool) (sk tk : ℕ → ℕ → ℕ) (a : A) (now : Option A)
      → ((c : SubscriberCall) → inner s c t → CallKeepsLanes sa sk c tk) → ((h : Hook) → outer l h m → StaysPresent (λ x y. hears x h y) (Some a) now) → (same l m → now ≡ Some a)
      → DoesBoth spans inner outer same attaches s l call t m → StaysPresent (λ x y. ObservesCall hears (spans s) x call y) (Some a) now
  outer_told s t l m (NewSpan lane at parent site callsite values) sa sk tk a now lanes so ss d = so _ d.1
  outer_told s t l m (Records id at callsite values) sa sk tk a now lanes so ss d = so _ d.1
  outer_told s t l m (Follows id from at) sa sk tk a now lanes so ss d = so _ d.1
  outer_told s t l m (Event lane at parent site callsite values) sa sk tk a now lanes so ss d = so _ d.1
  outer_told s t l m (Enter id at before later) sa sk tk a now lanes so ss d =
      let h = so _ d.second in
      (h.0, h.1, record { before = d.between; later = later; id = (lanes _ d.first).0.id ∙ d.room.keeps.id; heard = h.2 })
  outer_told s t l m (Exit id at before later) sa sk tk a now lanes so ss d =
      let h = so _ d.second in
      (h.0, h.1, record { before = d.between; later = later; id = (lanes _ d.first).0.id; heard = h.2 })
  outer_told s t l m (CloneSpan id) sa sk tk a now lanes so ss d = (a, ss d.1, refl)
  outer_told s t l m (TryClose id at) sa sk tk a now lanes so ss d =
      elim (cases_eq (span_at (spans s).made id).holds 1) [
        | inl one ↦ (let h = so _ (d.closed one) in (h.0, h.1, record { closed = λ _. h.2; open_still = λ more. absurd (more one) }))
        | inr more ↦ (a, ss (d.open_still more), record { closed = λ one. absurd (more one); open_still = λ _. refl })
      ]

  -- a layer that tells nothing goes on to tell nothing
  outer_untold : (s t : S) (l m : L) (call : SubscriberCall) (now : Option A)
      → ((h : Hook) → outer l h m → now ≡ None) → (same l m → now ≡ None) → DoesBoth spans inner outer same attaches s l call t m → now ≡ None
  outer_untold s t l m (NewSpan lane at parent site callsite values) now so ss d = so _ d.1
  outer_untold s t l m (Records id at callsite values) now so ss d = so _ d.1
  outer_untold s t l m (Follows id from at) now so ss d = so _ d.1
  outer_untold s t l m (Event lane at parent site callsite values) now so ss d = so _ d.1
  outer_untold s t l m (Enter id at before later) now so ss d = so _ d.second
  outer_untold s t l m (Exit id at before later) now so ss d = so _ d.second
  outer_untold s t l m (CloneSpan id) now so ss d = ss d.1
  outer_untold s t l m (TryClose id at) now so ss d = elim (cases_eq (span_at (spans s).made id).holds 1) [ inl one ↦ so _ (d.closed one) | inr more ↦ ss (d.open_still more) ]

  -- what the subscriber below hears at its call it hears at the call
  inner_heard : (s t : S) (l m : L) (call : SubscriberCall) (told now : Option A)
      → ((c : SubscriberCall) → inner s c t → StaysPresent (λ x y. ObservesCall hears (spans s) x c y) told now)
      → DoesBoth spans inner outer same attaches s l call t m → StaysPresent (λ x y. ObservesCall hears (spans s) x call y) told now
  inner_heard s t l m (NewSpan lane at parent site callsite values) told now si d = si _ d.0
  inner_heard s t l m (Records id at callsite values) told now si d = si _ d.0
  inner_heard s t l m (Follows id from at) told now si d = si _ d.0
  inner_heard s t l m (Event lane at parent site callsite values) told now si d = si _ d.0
  inner_heard s t l m (Enter id at before later) None now si d = si _ d.first
  inner_heard s t l m (Enter id at before later) (Some a) now si d =
      let h = si _ d.first in
      let e = h.2 in
      (h.0, h.1, record { before = e.before; later = e.later; id = e.id ∙ d.room.keeps.id; heard = e.heard })
  inner_heard s t l m (Exit id at before later) None now si d = si _ d.first
  inner_heard s t l m (Exit id at before later) (Some a) now si d = si _ d.first
  inner_heard s t l m (CloneSpan id) told now si d = si _ d.0
  inner_heard s t l m (TryClose id at) told now si d = si _ d.first

  -- what a stack tells hears each call
  pub both_told : (s t : S) (l m : L) (call : SubscriberCall) (sa : Bool) (sk tk : ℕ → ℕ → ℕ) (o o' i i' : Option A)
      → ((c : SubscriberCall) → inner s c t → CallKeepsLanes sa sk c tk)
      → ((h : Hook) → outer l h m → StaysPresent (λ x y. hears x h y) o o') → (same l m → o' ≡ o)
      → ((c : SubscriberCall) → inner s c t → StaysPresent (λ x y. ObservesCall hears (spans s) x c y) i i')
      → DoesBoth spans inner outer same attaches s l call t m → StaysPresent (λ x y. ObservesCall hears (spans s) x call y) (outer_or_inner o i) (outer_or_inner o' i')
  both_told s t l m call sa sk tk None o' i i' lanes so ss si d =
      subst (λ (x : Option A). StaysPresent (λ x y. ObservesCall hears (spans s) x call y) i (outer_or_inner x i')) (sym (outer_untold s t l m call o' so ss d)) (inner_heard s t l m call i i' si d)
  both_told s t l m call sa sk tk (Some a) o' i i' lanes so ss si d =
      let h = outer_told s t l m call sa sk tk a o' lanes so ss d in
      (h.0, ap (λ (x : Option A). outer_or_inner x i') h.1, h.2)
