-- A handle is dropped, and a chain of spans closes.
use Rattle.std.proofs.Common.{◌≡◌, ℕ, zero, suc, ◌+◌, ◌<◌, ◌≤◌, List, [], ◌∷◌, Bool, true, false, cond, count_by, slice_set, Option, Some, None, option_map, map, refl, sym, ap, subst, ◌∙◌, arith, inl, inr, ◌==◌, ◌||◌}
use Rattle.span_script.proofs.Common.{cases_eq, cond-true, cond-false, or_parts, map-set, sum_by-set, get_or-map, Span, Spans, Entries, entries_on, span_at, span_without_hold, without_hold, parent_to_release, entered_lane_count, is_open_child, is_child_of, open_child_count, made_if_held, children_set, keeps_children, less_last, less_more, less_holds, holds_set, holds_other, OneEach, ReleasesChain, all_released, releases, id_at, Balanced, OpenGuard, names_span, span_of_handle, open_guard_on, open_guard_by, Scope, MadeSpan, ScopeGuard, Tables, after_effect, slot_at, span_of_scope, here_at, drop_effect, borrows, is_borrowed, is_named_by_guard, ContextSlots, PipelineState, SpansFit, guard_of, lane_place_of}
use Rattle.std.proofs.lemmas.Bool.{eq-eqb, ne_eqb}
use Rattle.std.proofs.lemmas.List.{length-set, get_or-set_other}
use Rattle.span_script.specs.Fits.{Fits}
use Rattle.span_script.proofs.steps.SlotsLemmas.{named_within}
use Rattle.span_script.proofs.steps.StepLemmas.{fits_step}
use Rattle.span_script.proofs.steps.BalanceLemmas.{named_slot, released_less, set_none}
use Rattle.span_script.proofs.spans.MadeSpansLemmas.{made_released}

-- Within a chain: the holds are those of handles, entries and open children, and the one that is to be released next.
abbrev pub Loose : Spans → List (Option ℕ) → Option ℕ → Type 0
Loose spans hs next = (q : ℕ) → (span_at spans.made q).holds ≡ count_by (names_span q) hs + entered_lane_count spans.lanes q + open_child_count spans.made q + cond (is_child_of q next) 1 0

-- a release moves the hold on to the parent, or ends it
pub loose_released : (x : Spans) (hs : List (Option ℕ)) (id : ℕ) → Loose x hs (Some id) → Loose (record x { made = without_hold x.made id }) hs (parent_to_release x.made id)
loose_released x hs id loose =
    let was = span_at x.made id in
    let now : Span = span_without_hold was in
    let fewer = less_holds was in
    let self = cond-true {A = ℕ} (id == id) 1 0 (eq-eqb id id refl) in
    let own = loose id in
    let some : 0 < was.holds = omega (arith, self, own) in
    let within = made_if_held x.made id some in
    elim (cases_eq was.holds 1) [
      | inl last ↦ subst (Loose (record x { made = without_hold x.made id }) hs) (sym (cond-true {A = Option ℕ} (was.holds == 1) was.parent None (eq-eqb was.holds 1 last))) (λ q. (
          let write = children_set x.made id now q within in
          let a = ap (λ b. cond {A = ℕ} b 1 0) (cond-false {A = Bool} (0 == was.holds) false (is_child_of q was.parent) (ne_eqb 0 was.holds (λ e. omega (arith, e, some)))) in
          let b = ap (λ (s : Span). cond {A = ℕ} (is_open_child q s) 1 0) (less_last was last) in
          let before = loose q in
          elim (cases_eq q id) [
            | inl here ↦ (
                let h = holds_set x.made id now within q here in
                let w = ap (λ (k : ℕ). (span_at x.made k).holds) here in
                let one = cond-true {A = ℕ} (id == q) 1 0 (eq-eqb id q (sym here)) in
                omega (arith, write, a, b, before, h, w, one, last, fewer))
            | inr other ↦ (
                let h = holds_other x.made id now q other in
                let none = cond-false {A = ℕ} (id == q) 1 0 (ne_eqb id q (λ e. other (sym e))) in
                omega (arith, write, a, b, before, h, none))
          ]))
      | inr more ↦ subst (Loose (record x { made = without_hold x.made id }) hs) (sym (cond-false {A = Option ℕ} (was.holds == 1) was.parent None (ne_eqb was.holds 1 more))) (λ q. (
          let children = keeps_children x.made id now within (ap (λ (s : Span). s.parent) (less_more was more)) some (omega (arith, some, more, fewer)) q in
          let before = loose q in
          elim (cases_eq q id) [
            | inl here ↦ (
                let h = holds_set x.made id now within q here in
                let w = ap (λ (k : ℕ). (span_at x.made k).holds) here in
                let one = cond-true {A = ℕ} (id == q) 1 0 (eq-eqb id q (sym here)) in
                omega (arith, children, before, h, w, one, some, fewer))
            | inr other ↦ (
                let h = holds_other x.made id now q other in
                let none = cond-false {A = ℕ} (id == q) 1 0 (ne_eqb id q (λ e. other (sym e))) in
                omega (arith, children, before, h, none))
          ]))
    ]

-- after the whole chain
pub record ChainEnds (x y : Spans) (hs : List (Option ℕ)) : Type 0 where
  pub holds : Loose y hs None
  pub lanes : y.lanes ≡ x.lanes
  pub fewer : (q : ℕ) → (span_at y.made q).holds ≤ (span_at x.made q).holds
  pub made : (ms : List MadeSpan) → SpansFit x.made ms → SpansFit y.made ms

pub chain_ends : (next : Option ℕ) (x y : Spans) → ReleasesChain next x y → (hs : List (Option ℕ)) → Loose x hs next → ChainEnds x y hs
chain_ends _ _ _ (all_released x) hs loose = record { holds = loose; lanes = refl; fewer = λ q. omega arith; made = λ ms fit. fit }
chain_ends _ _ _ (releases id at x y own rest) hs loose =
    let more = chain_ends (parent_to_release x.made id) (record x { made = without_hold x.made id }) y rest hs (loose_released x hs id loose) in
    record {
      holds = more.holds;
      lanes = more.lanes;
      fewer = λ q. (let a = more.fewer q in let b = released_less x.made id q in omega (arith, a, b));
      made = λ ms fit. more.made ms (made_released x.made ms id fit);
    }

-- no open guard borrows the handle
pub not_borrowed : (gs : List (Option ScopeGuard)) (handle n : ℕ) (g : ScopeGuard) → is_borrowed gs handle ≡ false → slot_at gs n ≡ Some g → g.handle ≡ handle → ⊥
not_borrowed [] handle n g none there same = absurd (cc there)
not_borrowed (None ∷ gs) handle zero g none there same = absurd (cc there)
not_borrowed (Some x ∷ gs) handle zero g none there same =
    let parts = or_parts (x.handle == handle) (is_borrowed gs handle) none in
    let is : x ≡ g = cc there in
    absurd (let t = eq-eqb x.handle handle (ap (λ (y : ScopeGuard). y.handle) is ∙ same) in let no : true ≡ false = sym t ∙ parts.0 in cc no)
not_borrowed (o ∷ gs) handle (suc n) g none there same = not_borrowed gs handle n g (or_parts (borrows handle o) (is_borrowed gs handle) none).1 there same

pub borrowed_is : (dispatch : ℕ) (gs : List (Option ScopeGuard)) (handle : ℕ) → is_named_by_guard (map (option_map (guard_of dispatch)) gs) handle ≡ is_borrowed gs handle
borrowed_is dispatch [] handle = refl
borrowed_is dispatch (None ∷ gs) handle = borrowed_is dispatch gs handle
borrowed_is dispatch (Some g ∷ gs) handle = ap (λ b. (g.handle == handle) || b) (borrowed_is dispatch gs handle)

pub opened_handle : (ids : List ℕ) (o : Option ScopeGuard) (g : OpenGuard) → open_guard_by ids o ≡ Some g → (x : ScopeGuard) × (o ≡ Some x) × (x.handle ≡ g.handle)
opened_handle ids None g e = absurd (cc e)
opened_handle ids (Some x) g e = (x, refl, by_line x.scope e)
  where
    by_line : (line : Scope) → open_guard_on x.handle (id_at ids x.place) line ≡ Some g → x.handle ≡ g.handle
    by_line [] e = absurd (cc e)
    by_line (s ∷ up) e = (let is : ◌≡◌ {A = OpenGuard} (record { handle = x.handle; span = s; lane = id_at ids x.place }) g = cc e in ap (λ (y : OpenGuard). y.handle) is)

-- a spent handle's hold is the one that is released
pub spent_loose : (spans : Spans) (hs : List (Option ℕ)) (gs : List (Option OpenGuard)) (es : ℕ → List ℕ) → Balanced spans hs gs es → (n s : ℕ) → slot_at hs n ≡ Some s → Loose spans (slice_set hs n None) (Some s)
spent_loose spans hs gs es fits n s is q =
    let change = sum_by-set (λ (o : Option ℕ). cond {A = ℕ} (names_span q o) 1 0) hs n None None (named_within hs n s is) in
    let mine = ap (λ (o : Option ℕ). cond {A = ℕ} (names_span q o) 1 0) is in
    let h = fits.holds q in
    omega (arith, change, mine, h)

abbrev pub ReleasedOn : Spans → Spans → Scope → Type 0
ReleasedOn x y [] = y ≡ x
ReleasedOn x y (s ∷ up) = ReleasesChain (Some s) x y

record DropEnds (x y : Spans) (hs : List (Option ℕ)) : Type 0 where
  holds : (q : ℕ) → (span_at y.made q).holds ≡ count_by (names_span q) hs + entered_lane_count y.lanes q + open_child_count y.made q
  lanes : y.lanes ≡ x.lanes
  fewer : (q : ℕ) → (span_at y.made q).holds ≤ (span_at x.made q).holds
  made : (ms : List MadeSpan) → SpansFit x.made ms → SpansFit y.made ms

drop_ends : (x y : Spans) (hs : List (Option ℕ)) (gs : List (Option OpenGuard)) (es : ℕ → List ℕ) → Balanced x hs gs es → (n : ℕ) (line : Scope) → slot_at hs n ≡ span_of_scope line → ReleasedOn x y line → DropEnds x y (slice_set hs n None)
drop_ends x y hs gs es fits n [] is same = subst (λ (z : Spans). DropEnds x z (slice_set hs n None)) (sym same) (record {
  holds = λ q. fits.holds q ∙ ap (λ (xs : List (Option ℕ)). count_by (names_span q) xs + entered_lane_count x.lanes q + open_child_count x.made q) (sym (set_none hs n is));
  lanes = refl;
  fewer = λ q. omega arith;
  made = λ ms fit. fit;
})
drop_ends x y hs gs es fits n (s ∷ up) is chain =
    let ends = chain_ends (Some s) x y chain (slice_set hs n None) (spent_loose x hs gs es fits n s is) in
    record { holds = λ q. (let h = ends.holds q in omega (arith, h)); lanes = ends.lanes; fewer = ends.fewer; made = ends.made }

-- what a guard keeps stays where another handle is spent
pub still_spent : (gs : List (Option ScopeGuard)) (hs : List (Option Scope)) (handle : ℕ) → is_borrowed gs handle ≡ false → ((n : ℕ) (x : ScopeGuard) → slot_at gs n ≡ Some x → slot_at hs x.handle ≡ Some x.scope)
    → (n : ℕ) (x : ScopeGuard) → slot_at gs n ≡ Some x → slot_at (slice_set hs handle None) x.handle ≡ Some x.scope
still_spent gs hs handle free still n x there = get_or-set_other hs handle x.handle None None (not_borrowed gs handle n x free there) ∙ still n x there

pub fits_dropped : (k next : PipelineState) (t : Tables) (at place handle : ℕ) (line : Scope) → Fits k t → slot_at t.handles handle ≡ Some line → is_borrowed t.guards handle ≡ false → ReleasedOn k.spans next.spans line → next.setup ≡ k.setup
    → next.dispatch ≡ k.dispatch → next.handles ≡ slice_set k.handles handle None → next.handle_sites ≡ slice_set k.handle_sites handle None → next.guards ≡ k.guards → next.contexts ≡ k.contexts → next.moment ≡ at → Fits next (after_effect t (drop_effect (here_at k.setup t at place) handle line))
fits_dropped k next t at place handle line fits there free chain setup dispatch handles sites guards contexts moment =
    let ids = k.setup.ids in
    let hs = map span_of_handle t.handles in
    let ends = drop_ends k.spans next.spans hs (map (open_guard_by ids) t.guards) t.entries fits.balanced handle line (named_slot t.handles handle line there) chain in
    let spent : slice_set hs handle None ≡ map span_of_handle (slice_set t.handles handle None) = sym (map-set span_of_handle t.handles handle None) in
    fits_step k t fits next (drop_effect (here_at k.setup t at place) handle line) (record {
      setup_is = setup;
      dispatch_is = dispatch;
      handles_are = handles;
      sites_are = sites;
      guards_are = guards;
      attaches_are = ap (λ (c : ContextSlots). map (option_map lane_place_of) c.attaches) contexts;
      named_are = ap (λ (c : ContextSlots). c.contexts) contexts;
      moment_is = moment;
      balanced = subst (λ (xs : List (Option ℕ)). Balanced next.spans xs (map (open_guard_by ids) t.guards) t.entries) spent (record {
        holds = ends.holds;
        entries = λ l. ap (λ (es : List Entries). entries_on l es) ends.lanes ∙ fits.balanced.entries l;
        guarded = fits.balanced.guarded;
        borrowed = λ n g open_there. (
            let o = opened_handle ids (slot_at t.guards n) g (sym (get_or-map (open_guard_by ids) t.guards n None) ∙ open_there) in
            get_or-set_other hs handle g.handle None None (λ e. not_borrowed t.guards handle n o.0 free o.1 (o.2 ∙ e)) ∙ fits.balanced.borrowed n g open_there);
      });
      made_fit = ends.made t.spans fits.made;
      new_made = tt;
      new_site = tt;
      new_scope = λ l e. absurd (cc e);
      still = still_spent t.guards t.handles handle free fits.still;
      few = (let l = length-set t.handles handle None in let f = fits.few in omega (arith, l, f));
      few_holds = λ s. (let a = ends.fewer s in let f = fits.few_holds s in let l = length-set t.handles handle None in omega (arith, a, f, l));
      one = subst OneEach (sym ends.lanes) fits.one_row;
    })
