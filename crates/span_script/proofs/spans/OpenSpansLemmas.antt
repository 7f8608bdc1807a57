-- A span has a hold exactly while some unspent handle names it or a descendant.
use Rattle.std.proofs.Common.{◌≡◌, ℕ, zero, suc, ◌+◌, ◌<◌, ◌≤◌, List, [], ◌∷◌, length, Bool, true, false, cond, count_by, get_or, slice_set, Option, Some, None, map, refl, sym, ap, subst, ◌∙◌, arith, inl, inr, ◌⊎◌, ◌==◌, ◌||◌, ◌&&◌, not, nat_lt, filter}
use Rattle.span_script.proofs.Common.{cases_eq, cases_lt, cases_Bool, cond-true, cond-false, or_cases, or_right, and_parts, get_or-le-sum_by, sum_by-cons, Span, no_span, span_at, entries_on, is_in, times_in, entered_lane_count, is_child_of, is_open_child, Entries, has_entry, IsLive, count_cons, counted_if_any, made_if_held, has_lane, OneEach, OpenGuard, names_span, guards_span, span_of_handle, open_guard_by, Scope, MadeSpan, Tables, after_effect, slot_at, span_of_scope, made_span_at, Here, holds_span, is_open, closed_of, drop_effect, PipelineState, IsScope, parent_in, list_any}
use Rattle.std.proofs.lemmas.Bool.{eq-eqb, eqb-true, ne_eqb, lt-ltb, le-ltb, true≢false}
use Rattle.span_script.proofs.entries.EntriesFitLemmas.{fits_live}
use Rattle.span_script.proofs.steps.SlotsLemmas.{named_within}
use Rattle.span_script.specs.Fits.{Fits}
use Rattle.span_script.proofs.steps.BalanceLemmas.{named_slot}
use Rattle.std.proofs.lemmas.Bool.Decides.{nat_tests}

or_left_true : (a b : Bool) → a ≡ true → (a || b) ≡ true
or_left_true a b e = ap (λ x. x || b) e

-- a first entry stands on some lane
first_found : (es : List Entries) → OneEach es → (s : ℕ) → 0 < entered_lane_count es s → (l : ℕ) × (has_lane l es ≡ true) × (is_in s (entries_on l es) ≡ true)
first_found [] one s some = absurd (omega (arith, some))
first_found (e ∷ es) one s some =
    elim (cases_Bool (is_in s e.ids)) [
      | inl here ↦ (e.lane, or_left_true (e.lane == e.lane) (has_lane e.lane es) (eq-eqb e.lane e.lane refl), ap (λ (xs : List ℕ). is_in s xs) (cond-true {A = List ℕ} (e.lane == e.lane) e.ids (entries_on e.lane es) (eq-eqb e.lane e.lane refl)) ∙ here)
      | inr none ↦ (
          let c = count_cons (has_entry s) e es in
          let z = cond-false {A = ℕ} (has_entry s e) 1 0 none in
          let more = first_found es one.1 s (omega (arith, c, z, some)) in
          let differs : (e.lane == more.0) ≡ false = ne_eqb e.lane more.0 (λ x. true≢false (sym more.1 ∙ ap (λ (l : ℕ). has_lane l es) (sym x) ∙ one.0)) in
          (more.0, or_right (e.lane == more.0) (has_lane more.0 es) more.1, ap (λ (xs : List ℕ). is_in s xs) (cond-false {A = List ℕ} (e.lane == more.0) e.ids (entries_on more.0 es) differs) ∙ more.2))
    ]

named_counts : (hs : List (Option ℕ)) (n s : ℕ) → slot_at hs n ≡ Some s → (n < length hs) × (cond {A = ℕ} (names_span s (slot_at hs n)) 1 0 ≡ 1)
named_counts hs n s is = (named_within hs n s is, cond-true {A = ℕ} (names_span s (slot_at hs n)) 1 0 (ap (names_span s) is ∙ eq-eqb s s refl))

-- ---- slots and lines

pub pick : {X : Type 0} (p : X → Bool) (xs : List X) (d : X) → 0 < count_by p xs → (n : ℕ) × (n < length xs) × (p (get_or xs n d) ≡ true)
pick p [] d some = absurd (omega (arith, some))
pick p (x ∷ xs) d some =
    elim (cases_Bool (p x)) [
      | inl passes ↦ (zero, omega arith, passes)
      | inr fails ↦ (
          let c = count_cons p x xs in
          let z = cond-false {A = ℕ} (p x) 1 0 fails in
          let more = pick p xs d (omega (arith, c, z, some)) in
          (suc more.0, (let w = more.1 in omega (arith, w)), more.2))
    ]

names_holds : (s : ℕ) (o : Option Scope) → names_span s (span_of_handle o) ≡ true → holds_span s o ≡ true
names_holds s None e = absurd (true≢false (sym e))
names_holds s (Some []) e = absurd (true≢false (sym e))
names_holds s (Some (x ∷ up)) e = or_left_true (x == s) (is_in s up) e

named_open : (hs : List (Option Scope)) (s : ℕ) → 0 < count_by (names_span s) (map span_of_handle hs) → is_open hs s ≡ true
named_open [] s some = absurd (omega (arith, some))
named_open (o ∷ hs) s some =
    elim (cases_Bool (names_span s (span_of_handle o))) [
      | inl passes ↦ or_left_true (holds_span s o) (is_open hs s) (names_holds s o passes)
      | inr fails ↦ or_right (holds_span s o) (is_open hs s) (named_open hs s (let c = count_cons (names_span s) (span_of_handle o) (map span_of_handle hs) in let z = cond-false {A = ℕ} (names_span s (span_of_handle o)) 1 0 fails in omega (arith, c, z, some)))
    ]

pub slot_open : (hs : List (Option Scope)) (n s : ℕ) (line : Scope) → slot_at hs n ≡ Some line → is_in s line ≡ true → is_open hs s ≡ true
slot_open [] n s line there inside = absurd (cc there)
slot_open (o ∷ hs) zero s line there inside = or_left_true (holds_span s o) (is_open hs s) (ap (holds_span s) there ∙ inside)
slot_open (o ∷ hs) (suc n) s line there inside = or_right (holds_span s o) (is_open hs s) (slot_open hs n s line there inside)

pub open_slot : (hs : List (Option Scope)) (s : ℕ) → is_open hs s ≡ true → (n : ℕ) × (line : Scope) × (slot_at hs n ≡ Some line) × (is_in s line ≡ true)
open_slot [] s passes = absurd (true≢false (sym passes))
open_slot (None ∷ hs) s passes = let more = open_slot hs s passes in (suc more.0, more.1, more.2, more.3)
open_slot (Some line ∷ hs) s passes = elim (or_cases (is_in s line) (is_open hs s) passes) [
  | inl here ↦ (zero, line, refl, here)
  | inr there ↦ (let more = open_slot hs s there in (suc more.0, more.1, more.2, more.3))
]

own_in : (up : Scope) (p : ℕ) → span_of_scope up ≡ Some p → is_in p up ≡ true
own_in [] p e = absurd (cc e)
own_in (y ∷ r) p e = or_left_true (y == p) (is_in p r) (eq-eqb y p (cc e))

pub up_in : (made : List MadeSpan) (line : Scope) → IsScope made line → (c p : ℕ) → is_in c line ≡ true → parent_in (made_span_at made c).scope ≡ Some p → is_in p line ≡ true
up_in made [] is c p inside e = absurd (true≢false (sym inside))
up_in made (x ∷ up) is c p inside e = elim (or_cases (x == c) (is_in c up) inside) [
  | inl here ↦ or_right (x == p) (is_in p up) (own_in up p (ap parent_in (sym is.1) ∙ ap (λ (k : ℕ). parent_in (made_span_at made k).scope) (eqb-true x c here) ∙ e))
  | inr there ↦ or_right (x == p) (is_in p up) (up_in made up is.3 c p there e)
]

under_line : (made : List MadeSpan) (line : Scope) (c p : ℕ) → IsScope made line → span_of_scope line ≡ Some c → parent_in line ≡ Some p → p < c
under_line made [] c p is o a = absurd (cc o)
under_line made (x ∷ []) c p is o a = absurd (cc a)
under_line made (x ∷ y ∷ r) c p is o a = (let e : x ≡ c = cc o in let f : y ≡ p = cc a in let l = is.2 in omega (arith, e, f, l))

-- ---- holds and openness

module _ (k : PipelineState) (t : Tables) (fits : Fits k t) where
  child_live : (x p : ℕ) → IsLive k.spans.made x → parent_in (made_span_at t.spans x).scope ≡ Some p → IsLive k.spans.made p
  child_live x p live e =
      let parent = fits.made.parent x live ∙ e in
      let c = get_or-le-sum_by (λ (s : Span). cond {A = ℕ} (is_open_child p s) 1 0) k.spans.made x no_span (made_if_held k.spans.made x live) in
      let is = cond-false {A = Bool} (0 == (span_at k.spans.made x).holds) false (is_child_of p (span_at k.spans.made x).parent) (ne_eqb 0 (span_at k.spans.made x).holds (λ e. omega (arith, e, live))) ∙ ap (is_child_of p) parent ∙ eq-eqb p p refl in
      let one = cond-true {A = ℕ} (is_open_child p (span_at k.spans.made x)) 1 0 is in
      let h = fits.balanced.holds p in
      omega (arith, c, one, h)

  all_live : (line : Scope) → IsScope t.spans line → ((p : ℕ) → span_of_scope line ≡ Some p → IsLive k.spans.made p) → (s : ℕ) → is_in s line ≡ true → IsLive k.spans.made s
  all_live [] is first s inside = absurd (true≢false (sym inside))
  all_live (x ∷ up) is first s inside = elim (or_cases (x == s) (is_in s up) inside) [
    | inl here ↦ subst (IsLive k.spans.made) (eqb-true x s here) (first x refl)
    | inr there ↦ all_live up is.3 (λ p e. child_live x p (first x refl) (ap parent_in is.1 ∙ e)) s there
  ]

  live_if_open : (s : ℕ) → is_open t.handles s ≡ true → IsLive k.spans.made s
  live_if_open s passes =
      let at = open_slot t.handles s passes in
      all_live at.1 (fits.scopes at.0 at.1 at.2) (λ p e. fits_live k.spans (map span_of_handle t.handles) (map (open_guard_by k.setup.ids) t.guards) t.entries fits.balanced at.0 p (get_or-map-named at.0 at.1 at.2 ∙ e)) s at.3
    where
      get_or-map-named : (n : ℕ) (line : Scope) → slot_at t.handles n ≡ Some line → slot_at (map span_of_handle t.handles) n ≡ span_of_scope line
      get_or-map-named n line there = named_slot t.handles n line there

  entered_open : (s : ℕ) → 0 < entered_lane_count k.spans.lanes s → is_open t.handles s ≡ true
  entered_open s some =
      let at = first_found k.spans.lanes fits.one_row s some in
      let counted = counted_if_any (λ x. x == s) (entries_on at.0 k.spans.lanes) at.2 in
      let same = ap (λ (xs : List ℕ). times_in s xs) (fits.balanced.entries at.0) in
      let g = fits.balanced.guarded at.0 s in
      let found = pick (guards_span at.0 s) (map (open_guard_by k.setup.ids) t.guards) None (omega (arith, counted, same, g)) in
      by_guard at.0 found.0 (slot_at (map (open_guard_by k.setup.ids) t.guards) found.0) refl found.2
    where
      by_guard : (lane n : ℕ) (o : Option OpenGuard) → slot_at (map (open_guard_by k.setup.ids) t.guards) n ≡ o → guards_span lane s o ≡ true → is_open t.handles s ≡ true
      by_guard lane n None there is = absurd (true≢false (sym is))
      by_guard lane n (Some g) there is =
          let here = eqb-true g.span s (and_parts (g.lane == lane) (g.span == s) is).1 in
          let b = fits.balanced.borrowed n g there in
          let at = named_counts (map span_of_handle t.handles) g.handle s (b ∙ ap Some here) in
          let c = get_or-le-sum_by (λ (o : Option ℕ). cond {A = ℕ} (names_span s o) 1 0) (map span_of_handle t.handles) g.handle None at.0 in
          named_open t.handles s (let one = at.1 in omega (arith, one, c))

  open_if_live : (n s : ℕ) → length t.spans ≤ s + n → IsLive k.spans.made s → is_open t.handles s ≡ true
  open_if_live zero s past live = absurd (let w = made_if_held k.spans.made s live in let c = fits.made.count in omega (arith, past, w, c))
  open_if_live (suc n) s past live =
      let h = fits.balanced.holds s in
      elim (cases_lt 0 (count_by (names_span s) (map span_of_handle t.handles))) [
        | inl named ↦ named_open t.handles s named
        | inr none ↦ elim (cases_lt 0 (entered_lane_count k.spans.lanes s)) [
          | inl entered ↦ entered_open s entered
          | inr out ↦ (
              let child = pick (is_open_child s) k.spans.made no_span (omega (arith, h, none, out, live)) in
              let c = child.0 in
              let is = child.2 in
              let alive : IsLive k.spans.made c = elim (cases_eq 0 (span_at k.spans.made c).holds) [
                | inl dead ↦ absurd (true≢false (sym is ∙ cond-true {A = Bool} (0 == (span_at k.spans.made c).holds) false (is_child_of s (span_at k.spans.made c).parent) (eq-eqb 0 (span_at k.spans.made c).holds dead)))
                | inr more ↦ omega (arith, more)
              ] in
              let of_it = sym (cond-false {A = Bool} (0 == (span_at k.spans.made c).holds) false (is_child_of s (span_at k.spans.made c).parent) (ne_eqb 0 (span_at k.spans.made c).holds (λ e. omega (arith, e, alive)))) ∙ is in
              let parent = sym (fits.made.parent c alive) ∙ the_parent s (span_at k.spans.made c).parent of_it in
              let below : c < length t.spans = (let w = child.1 in let m = fits.made.count in omega (arith, w, m)) in
              let mine = fits.own_scopes c below in
              let older = under_line t.spans (made_span_at t.spans c).scope c s mine.1 mine.0 parent in
              let at = open_slot t.handles c (open_if_live n c (omega (arith, past, older)) alive) in
              slot_open t.handles at.0 s at.1 at.2 (up_in t.spans at.1 (fits.scopes at.0 at.1 at.2) c s at.3 parent))
        ]
      ]
    where
      the_parent : (s : ℕ) (o : Option ℕ) → is_child_of s o ≡ true → o ≡ Some s
      the_parent s None e = absurd (true≢false (sym e))
      the_parent s (Some p) e = ap Some (eqb-true p s e)

  -- a span has a hold exactly while it is open
  pub opens : (s : ℕ) → nat_lt 0 (span_at k.spans.made s).holds ≡ is_open t.handles s
  opens s = elim (cases_Bool (is_open t.handles s)) [
    | inl passes ↦ lt-ltb 0 (span_at k.spans.made s).holds (live_if_open s passes) ∙ sym passes
    | inr fails ↦ elim (cases_lt 0 (span_at k.spans.made s).holds) [
      | inl live ↦ absurd (true≢false (sym (open_if_live (length t.spans) s (omega arith) live) ∙ fails))
      | inr none ↦ le-ltb 0 (span_at k.spans.made s).holds none ∙ sym fails
    ]
  ]

-- ---- what a drop closes

pub set_open : (hs : List (Option Scope)) (n s : ℕ) (line : Scope) → slot_at hs n ≡ Some line → is_open hs s ≡ (is_in s line || is_open (slice_set hs n None) s)
set_open [] n s line there = absurd (cc there)
set_open (o ∷ hs) zero s line there = ap (λ (x : Option Scope). holds_span s x || is_open hs s) there
set_open (o ∷ hs) (suc n) s line there = ap (λ b. holds_span s o || b) (set_open hs n s line there) ∙ or_turn (holds_span s o) (is_in s line) (is_open (slice_set hs n None) s)
  where
    or_turn : (a b c : Bool) → (a || (b || c)) ≡ (b || (a || c))
    or_turn true true c = refl
    or_turn true false c = refl
    or_turn false b c = refl

pub in_filter : (p : ℕ → Bool) (line : Scope) (s : ℕ) → is_in s (filter p line) ≡ (is_in s line && p s)
in_filter p [] s = refl
in_filter p (x ∷ line) s = elim (cases_Bool (p x)) [
  | inl passes ↦ ap (λ (xs : Scope). is_in s xs) (cond-true {A = Scope} (p x) (x ∷ filter p line) (filter p line) passes) ∙ ap (λ b. (x == s) || b) (in_filter p line s) ∙ here (cases_Bool (x == s)) (λ e. ap p (sym (eqb-true x s e)) ∙ passes)
  | inr fails ↦ ap (λ (xs : Scope). is_in s xs) (cond-false {A = Scope} (p x) (x ∷ filter p line) (filter p line) fails) ∙ in_filter p line s ∙ gone (cases_Bool (x == s)) (λ e. ap p (sym (eqb-true x s e)) ∙ fails)
]
  where
    here : ((x == s) ≡ true) ⊎ ((x == s) ≡ false) → ((x == s) ≡ true → p s ≡ true) → ((x == s) || (is_in s line && p s)) ≡ (((x == s) || is_in s line) && p s)
    here (inl e) f = rw (e, f e) refl
    here (inr e) f = rw e refl

    gone : ((x == s) ≡ true) ⊎ ((x == s) ≡ false) → ((x == s) ≡ true → p s ≡ false) → (is_in s line && p s) ≡ (((x == s) || is_in s line) && p s)
    gone (inl e) f = rw (e, f e) (and_false (is_in s line))
      where
        and_false : (b : Bool) → (b && false) ≡ false
        and_false true = refl
        and_false false = refl
    gone (inr e) f = rw e refl

-- the spans of the effect are those that had a hold and have none
pub closes_them : (k next : PipelineState) (here : Here) (handle : ℕ) (line : Scope) → Fits k here.tables → slot_at here.tables.handles handle ≡ Some line → Fits next (after_effect here.tables (drop_effect here handle line)) → (s : ℕ)
    → is_in s (closed_of (slice_set here.tables.handles handle None) line) ≡ (nat_lt 0 (span_at k.spans.made s).holds && not (nat_lt 0 (span_at next.spans.made s).holds))
closes_them k next here handle line fits there later s =
    let t = here.tables in
    let was = opens k t fits s in
    let is = opens next (after_effect t (drop_effect here handle line)) later s in
    in_filter (λ x. not (is_open (slice_set t.handles handle None) x)) line s ∙ only (is_in s line) (is_open (slice_set t.handles handle None) s)
    ∙ ap (λ b. b && not (is_open (slice_set t.handles handle None) s)) (sym (set_open t.handles handle s line there) ∙ sym was) ∙ ap (λ b. nat_lt 0 (span_at k.spans.made s).holds && not b) (sym is)
  where
    only : (a b : Bool) → (a && not b) ≡ ((a || b) && not b)
    only true b = refl
    only false true = refl
    only false false = refl

-- some element passes exactly if the count of those that do isn't 0
pub any_counted : {A : Type 0} (p : A → Bool) (xs : List A) → list_any p xs ≡ nat_lt 0 (count_by p xs)
any_counted p [] = refl
any_counted p (x ∷ xs) =
    let more = sum_by-cons (λ x. cond (p x) 1 0) x xs in
    let rest = any_counted p xs in
    elim (cases_Bool (p x)) [ inl passes ↦ grind (arith, nat_tests, more, rest, passes) | inr fails ↦ grind (arith, nat_tests, more, rest, fails) ]
