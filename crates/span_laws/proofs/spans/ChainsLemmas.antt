-- What closes is one chain.
use Rattle.span_laws.proofs.Common.{BeginsWith, Bool, Effect, History, IsHistory, List, MadeSpan, None, Ok, Option, Request, Scope, ScopeGuard, Setup, Some, [], any_counted, ap, arith, cases_Bool, closed_of, cond-false, cond-true, effect_of, false, filter, holds_span, inl, inr, is_drop, is_in, is_open, made_span_at, nat_tests, not, option_map, or_right, pick, refl, slice_set, slot_at, slot_open, some_is, spend, subst, sym, tables, true, with_item, ℕ, ◌++◌, ◌==◌, ◌||◌, ◌∙◌, ◌∷◌, ◌≡◌}
use Rattle.std.proofs.lemmas.Bool.{eq-eqb, eqb-true, true≢false}
use Rattle.span_laws.proofs.spans.ClosesLemmas.{AreMine, IsSound, named, step_stands}
use Rattle.span_laws.proofs.records.HistoriesLemmas.{fits, whole}
use Rattle.span_laws.proofs.spans.OccurrencesLemmas.{slot_push}
use Rattle.span_laws.proofs.steps.StepsLemmas.{Spends, no_spending, one_spent, step_of}

the_rest : (a b : ℕ) (x y : Scope) → ◌≡◌ {A = Scope} (a ∷ x) (b ∷ y) → x ≡ y
the_rest a b x y e = cc e

-- with a span the ones above it stand in a line too
pub in_line : (ms : List MadeSpan) (scope : Scope) (x y : ℕ) (up : Scope) → AreMine ms scope → is_in x scope ≡ true → (made_span_at ms x).scope ≡ x ∷ up → is_in y up ≡ true → is_in y scope ≡ true
in_line ms [] x y up mine there is above = absurd (cc there)
in_line ms (z ∷ zs) x y up mine there is above = by_test (in_line ms zs x y up mine.1) (z == x) refl there
  where
    by_test : (is_in x zs ≡ true → (made_span_at ms x).scope ≡ x ∷ up → is_in y up ≡ true → is_in y zs ≡ true) → (b : Bool) → (z == x) ≡ b → (b || is_in x zs) ≡ true → is_in y (z ∷ zs) ≡ true
    by_test rest true same there =
        let at : zs ≡ up = the_rest z x zs up (sym mine.0 ∙ ap (λ (q : ℕ). (made_span_at ms q).scope) (eqb-true z x same) ∙ is) in
        or_right (z == y) (is_in y zs) (ap (is_in y) at ∙ above)
    by_test rest false same there = or_right (z == y) (is_in y zs) (rest there is above)

module _ (hs : List (Option Scope)) (ms : List MadeSpan) (cs : List ℕ) (sound : IsSound hs ms cs) where
  -- what is above an open span is open
  pub open_above : (x y : ℕ) (up : Scope) → (made_span_at ms x).scope ≡ x ∷ up → is_in y up ≡ true → is_open hs x ≡ true → is_open hs y ≡ true
  open_above x y up is above held =
      let counted = any_counted (holds_span x) hs in
      let found = pick (holds_span x) hs None (grind (arith, nat_tests, counted, held)) in
      by_slot found.0 (slot_at hs found.0) refl found.2
    where
      by_slot : (n : ℕ) (o : Option Scope) → slot_at hs n ≡ o → holds_span x o ≡ true → is_open hs y ≡ true
      by_slot n None there inside = absurd (true≢false (sym inside))
      by_slot n (Some scope) there inside = slot_open hs n y scope there (in_line ms scope x y up (sound.lines n scope there).mine inside is above)

  none_kept : (p : ℕ → Bool) (xs : List ℕ) → ((y : ℕ) → is_in y xs ≡ true → p y ≡ false) → filter p xs ≡ []
  none_kept p [] none = refl
  none_kept p (x ∷ xs) none =
      cond-false {A = List ℕ} (p x) (x ∷ filter p xs) (filter p xs) (none x (ap (λ b. b || is_in x xs) (eq-eqb x x refl)))
      ∙ none_kept p xs (λ y there. none y (or_right (x == y) (is_in y xs) there))

  opened : (b : Bool) → not b ≡ false → b ≡ true
  opened true is = refl
  opened false is = absurd (cc is)

  -- so those of a line that are open no more are its first ones
  pub chain_front : (scope : Scope) → AreMine ms scope → BeginsWith (closed_of hs scope) scope
  chain_front [] mine = record { rest = []; is = refl }
  chain_front (x ∷ up) mine = elim (cases_Bool (not (is_open hs x))) [
    | inl closes ↦ (
        let more = chain_front up mine.1 in
        record { rest = more.rest; is = ap (λ (l : List ℕ). x ∷ l) more.is ∙ ap (λ (l : List ℕ). l ++ more.rest) (sym (cond-true {A = List ℕ} (not (is_open hs x)) (x ∷ closed_of hs up) (closed_of hs up) closes)) })
    | inr stays ↦ (
        let none = none_kept (λ s. not (is_open hs s)) up (λ y above. ap not (open_above x y up mine.0 above (opened (is_open hs x) stays))) in
        record { rest = x ∷ up; is = ap (λ (l : List ℕ). l ++ x ∷ up) (sym (cond-false {A = List ℕ} (not (is_open hs x)) (x ∷ closed_of hs up) (closed_of hs up) stays ∙ none)) })
  ]

the_number : (a b : ℕ) → ◌≡◌ {A = Option ℕ} (Some a) (Some b) → a ≡ b
the_number a b e = cc e

-- the chain of a spent handle
chain_of : (hs : List (Option Scope)) (gs : List (Option ScopeGuard)) (ms : List MadeSpan) (cs : List ℕ) (o : Option ℕ) (closes : List ℕ) → Spends hs gs o closes → IsSound hs ms cs → IsSound (spend hs o) ms (cs ++ closes)
    → (k : ℕ) (scope : Scope) → o ≡ Some k → slot_at hs k ≡ Some scope → BeginsWith closes scope
chain_of hs gs ms cs _ _ no_spending before later k scope is there = absurd (cc is)
chain_of hs gs ms cs _ _ (one_spent n line closes at free same) before later k scope is there =
    let mine : line ≡ scope = some_is line scope (sym at ∙ ap (slot_at hs) (the_number n k is) ∙ there) in
    subst (BeginsWith closes) mine (subst (λ (l : List ℕ). BeginsWith l line) (sym same) (chain_front (slice_set hs n None) ms (cs ++ closes) later line (before.lines n line at).mine))

kept_slot : (hs : List (Option Scope)) (o : Option Scope) (k : ℕ) (scope : Scope) → slot_at hs k ≡ Some scope → slot_at (with_item hs (option_map Some o)) k ≡ Some scope
kept_slot hs None k scope there = there
kept_slot hs (Some new) k scope there = slot_push hs (Some new) k scope there

pub only_drops : (setup : Setup) (h : History) (request : Request) (e : Effect) → IsHistory setup h → effect_of setup (tables setup h) request ≡ Ok e → is_drop request.call ≡ false → e.closes ≡ []
only_drops setup h request e legal is other = (step_of setup (tables setup h) (fits setup h (whole setup h legal)) request e is).1.closing other

pub one_chain : (setup : Setup) (h : History) (request : Request) (e : Effect) (handle : ℕ) (scope : Scope) → IsHistory setup h → effect_of setup (tables setup h) request ≡ Ok e → slot_at (tables setup h).handles handle ≡ Some scope
    → e.spent_handle ≡ Some handle → BeginsWith e.closes scope
one_chain setup h request e handle scope legal is there spent =
    let t = tables setup h in
    let now = whole setup h legal in
    let step = (step_of setup t (fits setup h now) request e is).1 in
    chain_of _ _ _ t.closed e.spent_handle e.closes step.spends (named setup t request.at (is_drop request.call) e now.stands step) (step_stands setup t request.at (is_drop request.call) e now.stands step).sound handle scope spent
    (kept_slot t.handles e.new_handle handle scope there)
