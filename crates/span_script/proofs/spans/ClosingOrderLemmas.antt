-- The spans that a chain closes, in order: those of the line that are open no more.
use Rattle.std.proofs.Common.{◌≡◌, ℕ, ◌<◌, List, [], ◌∷◌, true, false, Option, Some, None, map, refl, sym, ap, subst, ◌∙◌, arith, inl, inr, ◌==◌, not, nat_lt, slice_set}
use Rattle.span_script.proofs.Common.{cases_eq, cond-true, cond-false, Span, Spans, span_at, span_without_hold, without_hold, parent_to_release, made_if_held, less_holds, holds_set, ReleasesChain, all_released, releases, closed_in, map-set, Scope, MadeSpan, after_effect, slot_at, span_of_scope, made_span_at, Here, is_open, closed_of, drop_effect, span_of_handle, open_guard_by, PipelineState, SpansFit, IsScope, parent_in}
use Rattle.std.proofs.lemmas.Bool.{eq-eqb, ne_eqb, lt-ltb}
use Rattle.span_script.specs.Fits.{Fits}
use Rattle.span_script.proofs.spans.ChainsLemmas.{Loose, loose_released, chain_ends, spent_loose}
use Rattle.span_script.proofs.spans.OpenSpansLemmas.{open_slot, slot_open, up_in, opens}
use Rattle.span_script.proofs.steps.BalanceLemmas.{named_slot}
use Rattle.span_script.proofs.spans.MadeSpansLemmas.{made_released}

at_end : (next : Option ℕ) (x y : Spans) (r : ReleasesChain next x y) → next ≡ None → (closed_in next x y r ≡ []) × (y ≡ x)
at_end _ _ _ (all_released x) none = (refl, refl)
at_end _ _ _ (releases id at x y own rest) none = absurd (cc none)

module _ (hs : List (Option Scope)) (ms : List MadeSpan) (named : (n : ℕ) (line : Scope) → slot_at hs n ≡ Some line → IsScope ms line) where
  up_open : (s p : ℕ) → is_open hs s ≡ true → parent_in (made_span_at ms s).scope ≡ Some p → is_open hs p ≡ true
  up_open s p passes e = let at = open_slot hs s passes in slot_open hs at.0 p at.1 at.2 (up_in ms at.1 (named at.0 at.1 at.2) s p at.3 e)

  -- where a line's own span is open, so is each span above
  none_closed : (line : Scope) → IsScope ms line → ((s : ℕ) → span_of_scope line ≡ Some s → is_open hs s ≡ true) → closed_of hs line ≡ []
  none_closed [] is first = refl
  none_closed (s ∷ up) is first =
      cond-false {A = List ℕ} (not (is_open hs s)) (s ∷ closed_of hs up) (closed_of hs up) (ap not (first s refl)) ∙ none_closed up is.3 (λ p e. up_open s p (first s refl) (ap parent_in is.1 ∙ e))

  pub closed_are : (next : Option ℕ) (x y : Spans) (r : ReleasesChain next x y) → (line : Scope) → IsScope ms line → span_of_scope line ≡ next → Loose x (map span_of_handle hs) next → SpansFit x.made ms
      → ((s : ℕ) → nat_lt 0 (span_at y.made s).holds ≡ is_open hs s) → closed_in next x y r ≡ closed_of hs line
  closed_are _ _ _ (all_released x) [] is mine loose fit final = refl
  closed_are _ _ _ (all_released x) (s ∷ up) is mine loose fit final = absurd (cc mine)
  closed_are _ _ _ (releases id at x y own_hold rest) [] is mine loose fit final = absurd (cc mine)
  closed_are _ _ _ (releases id at x y own_hold rest) (s ∷ up) is mine loose fit final =
      let same : s ≡ id = cc mine in
      let was = span_at x.made id in
      let now : Span = span_without_hold was in
      let fewer = less_holds was in
      let live : 0 < was.holds = omega (arith, own_hold) in
      let after_one : Spans = record x { made = without_hold x.made id } in
      let within = made_if_held x.made id (omega (arith, own_hold)) in
      let h = holds_set x.made id now within id refl in
      let ends = chain_ends (parent_to_release x.made id) after_one y rest (map span_of_handle hs) (loose_released x (map span_of_handle hs) id loose) in
      let left = cond-true {A = Option ℕ} (was.holds == 1) was.parent None in
      let parent : was.parent ≡ span_of_scope up = fit.parent id live ∙ ap (λ (k : ℕ). parent_in (made_span_at ms k).scope) (sym same) ∙ ap parent_in is.1 in
      elim (cases_eq was.holds 1) [
        | inl last ↦ (
            let gone : is_open hs s ≡ false = ap (is_open hs) same ∙ sym (final id) ∙ (let f = ends.fewer id in let z : (span_at y.made id).holds ≡ 0 = omega (arith, f, h, last, fewer) in ap (nat_lt 0) z) in
            let more = closed_are (parent_to_release x.made id) after_one y rest up is.3 (sym parent ∙ sym (left (eq-eqb was.holds 1 last))) (loose_released x (map span_of_handle hs) id loose)
            (made_released x.made ms id fit) final in
            cond-true {A = List ℕ} (was.holds == 1) (id ∷ closed_in (parent_to_release x.made id) after_one y rest) (closed_in (parent_to_release x.made id) after_one y rest) (eq-eqb was.holds 1 last)
            ∙ ap (λ (xs : List ℕ). id ∷ xs) more ∙ ap (λ (k : ℕ). k ∷ closed_of hs up) (sym same)
            ∙ sym (cond-true {A = List ℕ} (not (is_open hs s)) (s ∷ closed_of hs up) (closed_of hs up) (ap not gone)))
        | inr several ↦ (
            let over = at_end (parent_to_release x.made id) after_one y rest (cond-false {A = Option ℕ} (was.holds == 1) was.parent None (ne_eqb was.holds 1 several)) in
            let still : is_open hs s ≡ true = ap (is_open hs) same ∙ sym (final id) ∙ (let e = ap (λ (z : Spans). (span_at z.made id).holds) over.1 in let l : 0 < (span_at y.made id).holds = omega (arith, e, h, several, own_hold, fewer) in lt-ltb 0 (span_at y.made id).holds l) in
            cond-false {A = List ℕ} (was.holds == 1) (id ∷ closed_in (parent_to_release x.made id) after_one y rest) (closed_in (parent_to_release x.made id) after_one y rest) (ne_eqb was.holds 1 several)
            ∙ over.0 ∙ sym (none_closed (s ∷ up) is (λ q e. subst (λ (k : ℕ). is_open hs k ≡ true) (cc e) still)))
      ]

pub drop_order : (k next : PipelineState) (here : Here) (handle s : ℕ) (up : Scope) → Fits k here.tables → slot_at here.tables.handles handle ≡ Some (s ∷ up) → Fits next (after_effect here.tables (drop_effect here handle (s ∷ up))) → (r : ReleasesChain (Some s) k.spans next.spans)
    → closed_in (Some s) k.spans next.spans r ≡ closed_of (slice_set here.tables.handles handle None) (s ∷ up)
drop_order k next here handle s up fits there later r =
    let t = here.tables in
    closed_are (slice_set t.handles handle None) t.spans later.scopes (Some s) k.spans next.spans r (s ∷ up) (fits.scopes handle (s ∷ up) there) refl
    (subst (λ (xs : List (Option ℕ)). Loose k.spans xs (Some s)) (sym (map-set span_of_handle t.handles handle None)) (spent_loose k.spans (map span_of_handle t.handles) (map (open_guard_by k.setup.ids) t.guards) t.entries fits.balanced handle s (named_slot t.handles handle (s ∷ up) there)))
    fits.made (opens next (after_effect t (drop_effect here handle (s ∷ up))) later)
