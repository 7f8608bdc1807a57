-- A handle more, of a span that is there or of a new one.
use Rattle.std.proofs.Common.{◌≡◌, ℕ, ◌+◌, ◌<◌, List, [], ◌∷◌, ◌++◌, length, cond, count_by, Option, Some, None, option_map, map, refl, sym, ap, subst, ◌∙◌, arith, inl, inr, ◌==◌, IfSome}
use Rattle.span_script.proofs.Common.{cases_eq, cases_lt, cond-true, cond-false, length_push, map_push, get_or_past, get_or_push, get_or_append_left, get_or-map, Span, Spans, no_span, span_at, with_hold, entered_lane_count, is_open_child, is_child_of, open_child_count, entries_on, current_of, parent_on, with_new_span, IsLive, IsLiveParent, Parent, count_push, made_if_held, keeps_children, holds_set, holds_other, current_in, first_if_in, as_parent, Balanced, OpenGuard, names_span, span_of_handle, open_guard_by, RequestParent, Scope, ScopeGuard, Tables, slot_at, span_of_scope, scope_of, parent_scope, parent_under, parent_for, PipelineState, IsScope, held_of}
use Rattle.std.proofs.lemmas.Bool.{eq-eqb, ne_eqb}
use Rattle.std.proofs.lemmas.List.{length-set}
use Rattle.trace_base.specs.declared.span.Parent.TheVariants as parent
use Rattle.span_script.proofs.entries.EntriesFitLemmas.{fits_live}
use Rattle.span_script.specs.declared.request.RequestParent.TheVariants as request_parent
use Rattle.span_script.specs.Fits.{Fits}
use Rattle.span_script.proofs.steps.SlotsLemmas.{named_within}
use Rattle.span_script.proofs.steps.BalanceLemmas.{named_slot}

still_borrowed : (hs : List (Option ℕ)) (o : Option ℕ) (handle s : ℕ) → slot_at hs handle ≡ Some s → slot_at (hs ++ o ∷ []) handle ≡ Some s
still_borrowed hs o handle s there = get_or_append_left hs (o ∷ []) None handle (named_within hs handle s there) ∙ there

quiet_handle : (spans : Spans) (hs : List (Option ℕ)) (gs : List (Option OpenGuard)) (es : ℕ → List ℕ) → Balanced spans hs gs es → Balanced spans (hs ++ None ∷ []) gs es
quiet_handle spans hs gs es fits = record {
  holds = λ s. (let c = count_push (names_span s) hs None in let h = fits.holds s in omega (arith, c, h));
  entries = fits.entries;
  guarded = fits.guarded;
  borrowed = λ n g there. still_borrowed hs None g.handle g.span (fits.borrowed n g there);
}

pub another_handle : (spans : Spans) (hs : List (Option ℕ)) (gs : List (Option OpenGuard)) (es : ℕ → List ℕ) → Balanced spans hs gs es → (s : ℕ) → IsLive spans.made s → Balanced (record spans { made = with_hold spans.made s }) (hs ++ Some s ∷ []) gs es
another_handle spans hs gs es fits s live =
    let within = made_if_held spans.made s live in
    let now : Span = record (span_at spans.made s) { holds = (span_at spans.made s).holds + 1 } in
    record {
      holds = λ q. (
          let children = keeps_children spans.made s now within refl live (omega arith) q in
          let push = count_push (names_span q) hs (Some s) in
          let before = fits.holds q in
          elim (cases_eq q s) [
            | inl here ↦ (
                let h = holds_set spans.made s now within q here in
                let w = ap (λ (k : ℕ). (span_at spans.made k).holds) here in
                let one = cond-true {A = ℕ} (s == q) 1 0 (eq-eqb s q (sym here)) in
                omega (arith, children, push, before, h, w, one))
            | inr other ↦ (
                let h = holds_other spans.made s now q other in
                let none = cond-false {A = ℕ} (s == q) 1 0 (ne_eqb s q (λ e. other (sym e))) in
                omega (arith, children, push, before, h, none))
          ]);
      entries = fits.entries;
      guarded = fits.guarded;
      borrowed = λ n g there. still_borrowed hs (Some s) g.handle g.span (fits.borrowed n g there);
    }

abbrev pub spans_held : Spans → Scope → Spans
spans_held spans [] = spans
spans_held spans (s ∷ up) = record spans { made = with_hold spans.made s }

pub balanced_clone : (ids : List ℕ) (spans : Spans) (hs : List (Option Scope)) (gs : List (Option ScopeGuard)) (es : ℕ → List ℕ) → Balanced spans (map span_of_handle hs) (map (open_guard_by ids) gs) es → (handle : ℕ) (line : Scope) → slot_at hs handle ≡ Some line
    → Balanced (spans_held spans line) (map span_of_handle (hs ++ Some line ∷ [])) (map (open_guard_by ids) gs) es
balanced_clone ids spans hs gs es fits handle [] there = subst (λ (xs : List (Option ℕ)). Balanced spans xs (map (open_guard_by ids) gs) es) (sym (map_push span_of_handle hs (Some []))) (quiet_handle spans (map span_of_handle hs) (map (open_guard_by ids) gs) es fits)
balanced_clone ids spans hs gs es fits handle (s ∷ up) there =
    subst (λ (xs : List (Option ℕ)). Balanced (record spans { made = with_hold spans.made s }) xs (map (open_guard_by ids) gs) es) (sym (map_push span_of_handle hs (Some (s ∷ up))))
    (another_handle spans (map span_of_handle hs) (map (open_guard_by ids) gs) es fits s (fits_live spans (map span_of_handle hs) (map (open_guard_by ids) gs) es fits handle s (named_slot hs handle (s ∷ up) there)))

pub balanced_decline : (ids : List ℕ) (spans : Spans) (hs : List (Option Scope)) (gs : List (Option ScopeGuard)) (es : ℕ → List ℕ) → Balanced spans (map span_of_handle hs) (map (open_guard_by ids) gs) es
    → Balanced spans (map span_of_handle (hs ++ Some [] ∷ [])) (map (open_guard_by ids) gs) es
balanced_decline ids spans hs gs es fits = subst (λ (xs : List (Option ℕ)). Balanced spans xs (map (open_guard_by ids) gs) es) (sym (map_push span_of_handle hs (Some []))) (quiet_handle spans (map span_of_handle hs) (map (open_guard_by ids) gs) es fits)

-- a span made, under one that has room for its hold
pushed : (x : Spans) (hs : List (Option ℕ)) (above : Option ℕ) (site : ℕ) → ((q : ℕ) → (span_at x.made q).holds ≡ count_by (names_span q) hs + entered_lane_count x.lanes q + open_child_count x.made q + cond (is_child_of q above) 1 0)
    → (n : ℕ) → n ≡ length x.made → (q : ℕ) → (span_at (x.made ++ record { holds = 1; parent = above; site = site } ∷ []) q).holds ≡ count_by (names_span q) (hs ++ Some n ∷ []) + entered_lane_count x.lanes q + open_child_count (x.made ++ record { holds = 1; parent = above; site = site } ∷ []) q
pushed x hs above site loose n is q =
    let new : Span = record { holds = 1; parent = above; site = site } in
    let before = loose q in
    let children = count_push (is_open_child q) x.made new in
    let push = count_push (names_span q) hs (Some n) in
    elim (cases_eq n q) [
      | inl here ↦ (
          let h = ap (λ (s : Span). s.holds) (get_or_push x.made new no_span q (sym is ∙ here)) in
          let z = ap (λ (s : Span). s.holds) (get_or_past x.made q no_span (omega (arith, is, here))) in
          let one = cond-true {A = ℕ} (n == q) 1 0 (eq-eqb n q here) in
          omega (arith, before, children, push, h, z, one))
      | inr other ↦ (
          let none = cond-false {A = ℕ} (n == q) 1 0 (ne_eqb n q other) in
          let same : (span_at (x.made ++ new ∷ []) q).holds ≡ (span_at x.made q).holds = elim (cases_lt q (length x.made)) [
            | inl within ↦ ap (λ (s : Span). s.holds) (get_or_append_left x.made (new ∷ []) no_span q within)
            | inr past ↦ ap (λ (s : Span). s.holds) (get_or_past (x.made ++ new ∷ []) q no_span (let l = length_push x.made new in omega (arith, l, past, is, other)) ∙ sym (get_or_past x.made q no_span past))
          ] in
          omega (arith, before, children, push, none, same))
    ]

balanced_new_own : (spans : Spans) (hs : List (Option ℕ)) (gs : List (Option OpenGuard)) (es : ℕ → List ℕ) → Balanced spans hs gs es → (above : Option ℕ) (site : ℕ) → IfSome above (λ p. IsLive spans.made p)
    → Balanced (with_new_span spans above site) (hs ++ Some (length spans.made) ∷ []) gs es
balanced_new_own spans hs gs es fits None site live = record {
  holds = pushed spans hs None site (λ q. let h = fits.holds q in omega (arith, h)) (length spans.made) refl;
  entries = fits.entries;
  guarded = fits.guarded;
  borrowed = λ n g there. still_borrowed hs (Some (length spans.made)) g.handle g.span (fits.borrowed n g there);
}
balanced_new_own spans hs gs es fits (Some p) site live =
    let within = made_if_held spans.made p live in
    let now : Span = record (span_at spans.made p) { holds = (span_at spans.made p).holds + 1 } in
    record {
      holds = pushed (record spans { made = with_hold spans.made p }) hs (Some p) site (λ q. (
          let children = keeps_children spans.made p now within refl live (omega arith) q in
          let before = fits.holds q in
          elim (cases_eq q p) [
            | inl here ↦ (
                let h = holds_set spans.made p now within q here in
                let w = ap (λ (k : ℕ). (span_at spans.made k).holds) here in
                let one = cond-true {A = ℕ} (p == q) 1 0 (eq-eqb p q (sym here)) in
                omega (arith, children, before, h, w, one))
            | inr other ↦ (
                let h = holds_other spans.made p now q other in
                let none = cond-false {A = ℕ} (p == q) 1 0 (ne_eqb p q (λ e. other (sym e))) in
                omega (arith, children, before, h, none))
          ])) (length spans.made) (sym (length-set spans.made p now));
      entries = fits.entries;
      guarded = fits.guarded;
      borrowed = λ n g there. still_borrowed hs (Some (length spans.made)) g.handle g.span (fits.borrowed n g there);
    }

pub balanced_new : (ids : List ℕ) (spans : Spans) (hs : List (Option Scope)) (gs : List (Option ScopeGuard)) (es : ℕ → List ℕ) → Balanced spans (map span_of_handle hs) (map (open_guard_by ids) gs) es → (up : Scope) (site n : ℕ) → IfSome (span_of_scope up) (λ p. IsLive spans.made p) → length spans.made ≡ n
    → Balanced (with_new_span spans (span_of_scope up) site) (map span_of_handle (hs ++ Some (n ∷ up) ∷ [])) (map (open_guard_by ids) gs) es
balanced_new ids spans hs gs es fits up site n live is =
    subst (λ (xs : List (Option ℕ)). Balanced (with_new_span spans (span_of_scope up) site) xs (map (open_guard_by ids) gs) es) (ap (λ (k : ℕ). map span_of_handle hs ++ Some k ∷ []) is ∙ sym (map_push span_of_handle hs (Some (n ∷ up))))
    (balanced_new_own spans (map span_of_handle hs) (map (open_guard_by ids) gs) es fits (span_of_scope up) site live)

-- the place that the code found is the line that the request names
pub record FoundUp (k : PipelineState) (t : Tables) (lane : ℕ) (under : RequestParent) (p : Parent) : Type 0 where
  pub up : Scope
  pub is : parent_scope t lane under ≡ Some up
  pub parent_is : p ≡ parent_under under up
  pub scope : IsScope t.spans up
  pub on : parent_on (entries_on lane k.spans.lanes) p ≡ span_of_scope up
  pub live_place : IsLiveParent k.spans.made p
  pub live : IfSome (span_of_scope up) (λ p. IsLive k.spans.made p)

own_lines : (k : PipelineState) (t : Tables) → Fits k t → (o : Option ℕ) → ((s : ℕ) → o ≡ Some s → IsLive k.spans.made s) → (o ≡ span_of_scope (scope_of t.spans o)) × IsScope t.spans (scope_of t.spans o) × IfSome (span_of_scope (scope_of t.spans o)) (λ p. IsLive k.spans.made p)
own_lines k t fits None live = (refl, tt, tt)
own_lines k t fits (Some s) live =
    let l = live s refl in
    let below : s < length t.spans = (let w = made_if_held k.spans.made s l in let c = fits.made.count in omega (arith, w, c)) in
    let mine = fits.own_scopes s below in
    (sym mine.0, mine.1, subst (λ (o : Option ℕ). IfSome o (λ p. IsLive k.spans.made p)) (sym mine.0) l)

the_place : (p q : Parent) → ◌≡◌ {A = Option Parent} (Some p) (Some q) → p ≡ q
the_place p q e = cc e

pub find_up : (k : PipelineState) (t : Tables) → Fits k t → (lane : ℕ) (under : RequestParent) (p : Parent) → parent_for k.handles under ≡ Some p → FoundUp k t lane under p
find_up k t fits lane request_parent.Root p is = subst (FoundUp k t lane request_parent.Root) (the_place parent.Root p is) (record { up = []; is = refl; parent_is = refl; scope = tt; on = refl; live_place = tt; live = tt })
find_up k t fits lane request_parent.Contextual p is =
    let same = ap current_of (fits.balanced.entries lane) in
    let o = current_of (t.entries lane) in
    let mine = own_lines k t fits o (λ s e. elim (current_in [] None (entries_on lane k.spans.lanes) s (same ∙ e)) [
      | inl none ↦ absurd (cc none)
      | inr there ↦ (let first = first_if_in k.spans.lanes lane s there in let h = fits.balanced.holds s in omega (arith, first, h))
    ]) in
    subst (FoundUp k t lane request_parent.Contextual) (the_place parent.Current p is) (record { up = scope_of t.spans o; is = refl; parent_is = refl; scope = mine.1; on = same ∙ mine.0; live_place = tt; live = mine.2 })
find_up k t fits lane (request_parent.Under handle) p is = by_slot (slot_at t.handles handle) refl (sym (ap (λ xs. option_map as_parent (slot_at xs handle)) fits.handle_slots ∙ ap (option_map as_parent) (get_or-map (option_map (held_of k.dispatch)) t.handles handle None)) ∙ is)
  where
    by_line : (line : Scope) → slot_at t.handles handle ≡ Some line → as_parent (held_of k.dispatch line) ≡ p → FoundUp k t lane (request_parent.Under handle) p
    by_line [] there e = subst (FoundUp k t lane (request_parent.Under handle)) e (record { up = []; is = there; parent_is = refl; scope = tt; on = refl; live_place = tt; live = tt })
    by_line (s ∷ up) there e =
        let live = fits_live k.spans (map span_of_handle t.handles) (map (open_guard_by k.setup.ids) t.guards) t.entries fits.balanced handle s (named_slot t.handles handle (s ∷ up) there) in
        subst (FoundUp k t lane (request_parent.Under handle)) e (record { up = s ∷ up; is = there; parent_is = refl; scope = fits.scopes handle (s ∷ up) there; on = refl; live_place = live; live = live })

    by_slot : (o : Option Scope) → slot_at t.handles handle ≡ o → option_map as_parent (option_map (held_of k.dispatch) o) ≡ Some p → FoundUp k t lane (request_parent.Under handle) p
    by_slot None there e = absurd (cc e)
    by_slot (Some line) there e = by_line line there (the_place (as_parent (held_of k.dispatch line)) p e)
