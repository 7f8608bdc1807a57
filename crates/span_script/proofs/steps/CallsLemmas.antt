-- What a call on the subscriber of a handle makes of the plain data.
use Rattle.std.proofs.Common.{◌≡◌, ℕ, ◌<◌, [], ◌∷◌, length, Bool, Option, None, option_map, refl, sym, ap, subst, slice_get}
use Rattle.span_script.proofs.Common.{option_map_or, WorldValue, Spans, SubscriberCall, HasUnboundHold, Has, ChangesPlainData, read_subscriber, spans_in, no_recording, RecordsCallBy, filter_after, measures_of_call, HeldSpan, HasOn, IsKnown, ReplacedOn, IsThere, Scope, Views, held_of, AddsMeasures, aside_in, CallsLaw}

-- what is read of a subscriber that is there
pub has_by : {S A : Type 0} (read : S → A) (none : A) (world : WorldValue S) (dispatch : ℕ) (P : A → Type 0) → P (option_map_or read (slice_get world.subscribers dispatch) none) → Has (λ s. P (read s)) world dispatch
has_by read none world dispatch P p s there = subst (λ (o : Option _). P (option_map_or read o none)) there p

module _ {S : Type 0} (spans : S → Spans) (views : Views S) (attaches : S → Bool) (kept : S → ℕ → ℕ → ℕ) (is_whole : S → Type 0) where
  -- one call on the span of a scope; nothing on the empty one
  abbrev pub ShownOn : WorldValue S → WorldValue S → ℕ → Scope → (ℕ → SubscriberCall) → Type 0
  ShownOn old new dispatch [] call = new ≡ old
  ShownOn old new dispatch (s ∷ up) call = ChangesPlainData spans attaches kept is_whole old new dispatch (call s) × (new.sites ≡ old.sites)
      × RecordsCallBy (read_subscriber views.counting_filter None old dispatch) (spans_in spans old dispatch) (read_subscriber views.recording no_recording old dispatch) (call s) (read_subscriber views.recording no_recording new dispatch)
      × (read_subscriber views.filter None new dispatch ≡ option_map (filter_after (spans_in spans old dispatch) (call s)) (read_subscriber views.filter None old dispatch)) × (new.cached ≡ old.cached)
      × AddsMeasures (aside_in views old dispatch) (aside_in views new dispatch) (measures_of_call (call s))

  pub shown_on : (does : S → SubscriberCall → S → Type 0) → CallsLaw spans views attaches kept is_whole does
      → (old new : WorldValue S) (dispatch : ℕ) (line : Scope) (held : HeldSpan) → held ≡ held_of dispatch line → (call : ℕ → SubscriberCall) → ReplacedOn (λ id s t. does s (call id) t) old new held → ShownOn old new dispatch line call
  shown_on does law old new dispatch [] held is call did = subst (λ (h : HeldSpan). ReplacedOn (λ id s t. does s (call id) t) old new h) is did
  shown_on does law old new dispatch (s ∷ up) held is call did =
      let r = subst (λ (h : HeldSpan). ReplacedOn (λ id s t. does s (call id) t) old new h) is did in
      let told = law.viewed old new dispatch (call s) r in
      (law.shown old new dispatch (call s) r, ap (λ (w : WorldValue S). w.sites) r.others, told.0, told.1, ap (λ (w : WorldValue S). w.cached) r.others, told.2)

-- what a call on a line's own span requires
pub there_on : {S : Type 0} (world : WorldValue S) (dispatch : ℕ) (line : Scope) (held : HeldSpan) → held ≡ held_of dispatch line → dispatch < length world.subscribers → IsThere world held
there_on world dispatch [] held is there = subst (λ (h : HeldSpan). IsThere world h) (sym is) tt
there_on world dispatch (s ∷ up) held is there = subst (λ (h : HeldSpan). IsThere world h) (sym is) there

pub has_on : {S : Type 0} (P : S → ℕ → Type 0) (world : WorldValue S) (dispatch : ℕ) (line : Scope) (held : HeldSpan) → held ≡ held_of dispatch line → ((s : ℕ) (up : Scope) → line ≡ s ∷ up → Has (λ x. P x s) world dispatch) → HasOn P world held
has_on P world dispatch [] held is has = subst (λ (h : HeldSpan). HasOn P world h) (sym is) tt
has_on P world dispatch (s ∷ up) held is has = subst (λ (h : HeldSpan). HasOn P world h) (sym is) (has s up refl)

pub known_on : {S : Type 0} (spans : S → Spans) (world : WorldValue S) (dispatch : ℕ) (line : Scope) (held : HeldSpan) → held ≡ held_of dispatch line → dispatch < length world.subscribers
    → ((s : ℕ) (up : Scope) → line ≡ s ∷ up → Has (λ x. HasUnboundHold (spans x) s) world dispatch) → IsKnown spans world held
known_on spans world dispatch [] held is there own = subst (λ (h : HeldSpan). IsKnown spans world h) (sym is) tt
known_on spans world dispatch (s ∷ up) held is there own = subst (λ (h : HeldSpan). IsKnown spans world h) (sym is) (there, own s up refl)
