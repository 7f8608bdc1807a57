-- What is made is closed, and what is entered is exited.
use Rattle.std.proofs.Common.{◌≡◌, ℕ, ◌+◌, ◌-◌, ◌<◌, List, [], ◌∷◌, ◌++◌, length, Option, Some, None, Bool, true, refl, sym, ap, ◌∙◌, subst, arith, inl, inr, ◌==◌, if◌then◌else◌}
use Rattle.std.specs.List.{list_any}
use Rattle.traced.proofs.Common.{cases_eq, cases_order, cases_Bool, cond-true, cond-false, length_push, get_or_past, get_or_push, get_or_append_left, Span, Spans, no_span, span_at, entries_on, is_in, times_in, without_last, parent_to_release, with_hold, without_hold, span_without_hold, with_hold_of_child, with_new_span, with_span_entry, with_span_exit, count_push, counted_if_any, any_if_counted, none_counted, length_held, made_if_held, with_same, with_other, less_last, less_more, ReleasesChain, all_released, releases, HeldSpan, AreAsBefore, IsNewest, IsOfNewest, IsLiveOn, GainsEntry, IsOpen}
use Rattle.std.proofs.lemmas.Bool.{eq-eqb, ne_eqb}
use Rattle.std.proofs.lemmas.List.{get_or-set_same, get_or-set_other}

-- nothing has changed, and what was kept stays kept
pub unchanged : (x y : Spans) → y ≡ x → AreAsBefore x y
unchanged x y is = record { spans = λ id. ap (λ (v : Spans). span_at v.made id) is; entries = λ lane. ap (λ (v : Spans). entries_on lane v.lanes) is }

pub on : (x y z : Spans) → AreAsBefore x y → AreAsBefore y z → AreAsBefore x z
on x y z first later = record { spans = λ id. later.spans id ∙ first.spans id; entries = λ lane. later.entries lane ∙ first.entries lane }

-- a span that has a hold, and another one, where one hold less is written
at_released : (made : List Span) (id q : ℕ) → 0 < (span_at made id).holds → q ≡ id → span_at (without_hold made id) q ≡ span_without_hold (span_at made id)
at_released made id q live here = ap (span_at (without_hold made id)) here ∙ get_or-set_same made id (span_without_hold (span_at made id)) no_span (made_if_held made id live)

beside_released : (made : List Span) (id q : ℕ) → (q ≡ id → ⊥) → span_at (without_hold made id) q ≡ span_at made q
beside_released made id q other = get_or-set_other made id q (span_without_hold (span_at made id)) no_span other

-- one hold more and one less
at_held : (made : List Span) (id q : ℕ) → 0 < (span_at made id).holds → q ≡ id → span_at (with_hold made id) q ≡ record (span_at made id) { holds = (span_at made id).holds + 1 }
at_held made id q live here = ap (span_at (with_hold made id)) here ∙ get_or-set_same made id (record (span_at made id) { holds = (span_at made id).holds + 1 }) no_span (made_if_held made id live)

beside_held : (made : List Span) (id q : ℕ) → (q ≡ id → ⊥) → span_at (with_hold made id) q ≡ span_at made q
beside_held made id q other = get_or-set_other made id q (record (span_at made id) { holds = (span_at made id).holds + 1 }) no_span other

less_of_more : (s now : Span) → 0 < s.holds → now ≡ record s { holds = s.holds + 1 } → span_without_hold now ≡ s
less_of_more s now live is =
    let more : Span = record s { holds = s.holds + 1 } in
    let back : s.holds + 1 - 1 ≡ s.holds = omega arith in
    ap span_without_hold is ∙ less_more more (λ e. omega (arith, e, live)) ∙ ap (λ (n : ℕ). record s { holds = n }) back

-- a hold is given back, and the other spans are as they were
given_back : (made now : List Span) (id : ℕ) → 0 < (span_at made id).holds → ((q : ℕ) → span_at now q ≡ span_at (with_hold made id) q) → (q : ℕ) → span_at (without_hold now id) q ≡ span_at made q
given_back made now id live same q =
    let here : span_at now id ≡ record (span_at made id) { holds = (span_at made id).holds + 1 } = same id ∙ at_held made id id live refl in
    elim (cases_eq q id) [
      | inl at ↦ at_released now id q (let e = ap (λ (s : Span). s.holds) here in omega (arith, e)) at ∙ less_of_more (span_at made id) (span_at now id) live here ∙ ap (span_at made) (sym at)
      | inr other ↦ beside_released now id q other ∙ same q ∙ beside_held made id q other
    ]

-- a chain of closes ends where nothing is next
ends : (next : Option ℕ) (x y : Spans) → ReleasesChain next x y → next ≡ None → y ≡ x
ends _ _ _ (all_released x) nothing = refl
ends _ _ _ (releases id at x y own rest) nothing = absurd (cc nothing)

goes_on : (next : Option ℕ) (x y : Spans) → ReleasesChain next x y → (id : ℕ) → next ≡ Some id → ReleasesChain (parent_to_release x.made id) (record x { made = without_hold x.made id }) y
goes_on _ _ _ (all_released x) id is = absurd (cc is)
goes_on _ _ _ (releases k at x y own rest) id is =
    let same : k ≡ id = cc is in
    subst (λ (j : ℕ). ReleasesChain (parent_to_release x.made j) (record x { made = without_hold x.made j }) y) same rest

-- the spans beside the newest
beside_newest : (made : List Span) (new : Span) (q : ℕ) → (q ≡ length made → ⊥) → span_at (made ++ new ∷ []) q ≡ span_at made q
beside_newest made new q other = elim (cases_order q (length made)) [
  | inl here ↦ absurd (other here)
  | inr (inl below) ↦ get_or_append_left made (new ∷ []) no_span q below
  | inr (inr past) ↦ (let long = length_push made new in get_or_past (made ++ new ∷ []) q no_span (omega (arith, long, past)) ∙ sym (get_or_past made q no_span (omega (arith, past))))
]

-- the newest span is closed, and then its parent gives back the hold of its child
module _ (x y z : Spans) (id : ℕ) (newest : IsNewest x y id) (chain : ReleasesChain (Some id) y z) where
  at_newest : span_at y.made id ≡ record { holds = 1; parent = newest.above; site = newest.site }
  at_newest = newest.made.spans id ∙ get_or_push (with_hold_of_child x.made newest.above) (record { holds = 1; parent = newest.above; site = newest.site }) no_span id (length_held x.made newest.above ∙ sym newest.is)

  last : (span_at y.made id).holds ≡ 1
  last = ap (λ (s : Span). s.holds) at_newest

  above : parent_to_release y.made id ≡ newest.above
  above = cond-true {A = Option ℕ} ((span_at y.made id).holds == 1) (span_at y.made id).parent None (eq-eqb (span_at y.made id).holds 1 last) ∙ ap (λ (s : Span). s.parent) at_newest

  rest : ReleasesChain newest.above (record y { made = without_hold y.made id }) z
  rest = subst (λ (o : Option ℕ). ReleasesChain o (record y { made = without_hold y.made id }) z) above (goes_on (Some id) y z chain id refl)

  -- the parent has its hold still
  without : (q : ℕ) → span_at (without_hold y.made id) q ≡ span_at (with_hold_of_child x.made newest.above) q
  without q = elim (cases_eq q id) [
    | inl here ↦ (
        let gone = at_released y.made id q (let e = last in omega (arith, e)) here ∙ less_last (span_at y.made id) last in
        let long = length_held x.made newest.above in
        let is = newest.is in
        gone ∙ sym (get_or_past (with_hold_of_child x.made newest.above) q no_span (omega (arith, long, is, here))))
    | inr other ↦ (
        let long = length_held x.made newest.above in
        let is = newest.is in
        beside_released y.made id q other ∙ newest.made.spans q ∙ beside_newest (with_hold_of_child x.made newest.above) (record { holds = 1; parent = newest.above; site = newest.site }) q (λ e. other (omega (arith, e, long, is))))
  ]

under : (x y z : Spans) (id : ℕ) (newest : IsNewest x y id) → ReleasesChain (Some id) y z → (above : Option ℕ) → newest.above ≡ above → (q : ℕ) → span_at z.made q ≡ span_at x.made q
under x y z id newest chain None is q =
    let ended = ends newest.above (record y { made = without_hold y.made id }) z (rest x y z id newest chain) is in
    ap (λ (w : Spans). span_at w.made q) ended ∙ without x y z id newest chain q ∙ ap (λ (o : Option ℕ). span_at (with_hold_of_child x.made o) q) is
under x y z id newest chain (Some p) is q =
    let live = newest.live p is in
    let now : (k : ℕ) → span_at (without_hold y.made id) k ≡ span_at (with_hold x.made p) k = λ k. without x y z id newest chain k ∙ ap (λ (o : Option ℕ). span_at (with_hold_of_child x.made o) k) is in
    let many : ((span_at (without_hold y.made id) p).holds ≡ 1 → ⊥) = λ one. (let e = ap (λ (s : Span). s.holds) (now p ∙ at_held x.made p p live refl) in omega (arith, e, one, live)) in
    let w : Spans = record y { made = without_hold y.made id } in
    let on = goes_on newest.above w z (rest x y z id newest chain) p is in
    let ended = ends (parent_to_release w.made p) (record w { made = without_hold w.made p }) z on
    (cond-false {A = Option ℕ} ((span_at w.made p).holds == 1) (span_at w.made p).parent None (ne_eqb (span_at w.made p).holds 1 many)) in
    ap (λ (v : Spans). span_at v.made q) ended ∙ given_back x.made (without_hold y.made id) p live now q

-- it is the newest after calls that leave spans as they were
pub stays_newest : (h : HeldSpan) (x w y : Spans) → IsOfNewest x w h → AreAsBefore w y → IsOfNewest x y h
stays_newest None x w y newest same = on x w y newest same
stays_newest (Some h) x w y newest same = record {
  above = newest.above;
  site = newest.site;
  is = newest.is;
  live = newest.live;
  made = on (with_new_span x newest.above newest.site) w y newest.made same;
}

-- what the close of a handle makes
abbrev pub IsReleasedOn : HeldSpan → Spans → Spans → Type 0
IsReleasedOn None y z = z ≡ y
IsReleasedOn (Some h) y z = ReleasesChain (Some h.1) y z

-- a chain of closes leaves entries as they are
same_lanes : (next : Option ℕ) (x y : Spans) → ReleasesChain next x y → y.lanes ≡ x.lanes
same_lanes _ _ _ (all_released x) = refl
same_lanes _ _ _ (releases id at x y own rest) = same_lanes (parent_to_release x.made id) (record x { made = without_hold x.made id }) y rest

pub closes : (h : HeldSpan) (x y z : Spans) → IsOfNewest x y h → IsReleasedOn h y z → AreAsBefore x z
closes None x y z newest did = on x y z newest (unchanged y z did)
closes (Some h) x y z newest did = record {
  spans = under x y z h.1 newest did newest.above refl;
  entries = λ lane. ap (entries_on lane) (same_lanes (Some h.1) y z did) ∙ newest.made.entries lane;
}

-- what an exit makes
abbrev pub IsExitedOn : HeldSpan → ℕ → Spans → Spans → Type 0
IsExitedOn None lane y z = z ≡ y
IsExitedOn (Some h) lane y z = z ≡ with_span_exit y h.1 lane

both : (x y : Spans) (id lane : ℕ) → 0 < (span_at x.made id).holds → ((q : ℕ) → span_at y.made q ≡ span_at (with_span_entry x id lane).made q) → entries_on lane y.lanes ≡ entries_on lane x.lanes ++ id ∷ [] → (q : ℕ) → span_at (with_span_exit y id lane).made q ≡ span_at x.made q
both x y id lane live same lanes q =
    let ids = entries_on lane x.lanes in
    let first = is_in id ids in
    let times = times_in id (entries_on lane y.lanes) in
    let count = ap (times_in id) lanes ∙ count_push (λ k. k == id) ids id in
    let one = cond-true {A = ℕ} (id == id) 1 0 (eq-eqb id id refl) in
    elim (cases_Bool first) [
      | inl again ↦ (
          let some = counted_if_any (λ k. k == id) ids again in
          ap (λ (m : List Span). span_at m q) (cond-false {A = List Span} (times == 1) (without_hold y.made id) y.made (ne_eqb times 1 (λ e. omega (arith, e, count, one, some))))
          ∙ same q ∙ ap (λ (m : List Span). span_at m q) (cond-true {A = List Span} first x.made (with_hold x.made id) again))
      | inr new ↦ (
          let none = none_counted (λ k. k == id) ids new in
          ap (λ (m : List Span). span_at m q) (cond-true {A = List Span} (times == 1) (without_hold y.made id) y.made (eq-eqb times 1 (omega (arith, count, one, none))))
          ∙ given_back x.made y.made id live (λ k. same k ∙ ap (λ (m : List Span). span_at m k) (cond-false {A = List Span} first x.made (with_hold x.made id) new)) q)
    ]

-- the last entry of a span is the one that was made last
without_pushed : {X : Type 0} (p : X → Bool) (xs : List X) (x : X) → p x ≡ true → without_last p (xs ++ x ∷ []) ≡ xs
without_pushed {X} p [] x is = cond-true {A = List X} (p x) [] (x ∷ []) is
without_pushed {X} p (y ∷ ys) x is =
    let one = cond-true {A = ℕ} (p x) 1 0 is in
    let later = any_if_counted p (ys ++ x ∷ []) (let count = count_push p ys x in omega (arith, count, one)) in
    cond-true {A = List X} (list_any p (ys ++ x ∷ [])) (y ∷ without_last p (ys ++ x ∷ [])) (if p y then ys ++ x ∷ [] else y ∷ (ys ++ x ∷ [])) later ∙ ap (λ (zs : List X). y ∷ zs) (without_pushed p ys x is)

entries_both : (x y : Spans) (id lane : ℕ) → ((l : ℕ) → entries_on l y.lanes ≡ entries_on l (with_span_entry x id lane).lanes) → (l : ℕ) → entries_on l (with_span_exit y id lane).lanes ≡ entries_on l x.lanes
entries_both x y id lane lanes l =
    let ids = entries_on lane x.lanes ++ id ∷ [] in
    let less = without_last (λ k. k == id) (entries_on lane y.lanes) in
    elim (cases_eq lane l) [
      | inl here ↦ (
          let pushed : entries_on lane y.lanes ≡ ids = lanes lane ∙ with_same lane ids x.lanes in
          subst (λ (k : ℕ). entries_on k (with_span_exit y id lane).lanes ≡ entries_on k x.lanes) here
          (with_same lane less y.lanes ∙ ap (without_last (λ k. k == id)) pushed ∙ without_pushed (λ k. k == id) (entries_on lane x.lanes) id (eq-eqb id id refl)))
      | inr other ↦ with_other lane l less y.lanes other ∙ lanes l ∙ with_other lane l ids x.lanes other
    ]

-- an entry is exited
pub exits : (h : HeldSpan) (x y z : Spans) (lane : ℕ) → IsLiveOn h x → GainsEntry h lane x y → IsExitedOn h lane y z → AreAsBefore x z
exits None x y z lane live enter exit = on x y z enter (unchanged y z exit)
exits (Some h) x y z lane live enter exit =
    let back : AreAsBefore x (with_span_exit y h.1 lane) = record {
      spans = both x y h.1 lane live enter.spans (enter.entries lane ∙ with_same lane (entries_on lane x.lanes ++ h.1 ∷ []) x.lanes);
      entries = entries_both x y h.1 lane enter.entries;
    } in
    on x (with_span_exit y h.1 lane) z back (unchanged (with_span_exit y h.1 lane) z exit)

-- it is entered still after calls that leave spans as they were
pub stays_entered : (h : HeldSpan) (lane : ℕ) (x w y : Spans) → GainsEntry h lane x w → AreAsBefore w y → GainsEntry h lane x y
stays_entered None lane x w y enter same = on x w y enter same
stays_entered (Some h) lane x w y enter same = on (with_span_entry x h.1 lane) w y enter same

pub opened : (h : HeldSpan) (lane : ℕ) (x y : Spans) → GainsEntry h lane x y → IsOpen h lane y
opened None lane x y enter = tt
opened (Some h) lane x y enter =
    let ids = entries_on lane x.lanes in
    let there = ap (times_in h.1) (enter.entries lane ∙ with_same lane (ids ++ h.1 ∷ []) x.lanes) in
    let push = count_push (λ y. y == h.1) ids h.1 in
    let one = cond-true {A = ℕ} (h.1 == h.1) 1 0 (eq-eqb h.1 h.1 refl) in
    omega (arith, there, push, one)

pub stays_open : (h : HeldSpan) (lane : ℕ) (x y : Spans) → IsOpen h lane x → AreAsBefore x y → IsOpen h lane y
stays_open None lane x y entered same = tt
stays_open (Some h) lane x y entered same = (let e = ap (times_in h.1) (same.entries lane) in omega (arith, e, entered))
