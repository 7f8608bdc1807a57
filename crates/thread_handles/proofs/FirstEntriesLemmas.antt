-- How the history of a span begins whose first handle is released before the others do anything.
use Rattle.std.proofs.Common.{◌≡◌, ◌⊎◌, inl, inr, ⊎_elim, ℕ, ◌+◌, ◌==◌, Bool, true, false, ◌||◌, max, List, [], ◌∷◌, ◌++◌, length, refl, ap, sym, ◌∙◌, subst, arith}
use Rattle.std.proofs.lemmas.Bool.Decides.{nat_tests}
use Rattle.trace_threads.specs.declared.history.Entry.{Entry}
use Rattle.trace_threads.specs.declared.history.HandleAct.{HandleAct}
use Rattle.trace_threads.specs.declared.history.HandleAct.TheVariants.{Clone, Release}
use Rattle.trace_threads.specs.History.{HistoryState, start, entry, has, state_after, may_do, is_legal, IsLegal, entries_by}
use Rattle.trace_threads.proofs.histories.HoldersLemmas.{both, has_back, in_without}
use Rattle.trace_threads.proofs.histories.HistoriesLemmas.{tested}
use Rattle.thread_script.specs.Asks.{Ask, ask, FollowsAsks, clones_asked, numbers_from, clone_entries, clone_entries_from}
use Rattle.thread_handles.proofs.AsksLemmas.{NextIs}

own_case : (e : Entry) (es : List Entry) (b : Bool) → (e.caller == e.caller) ≡ b → b ≡ true → entries_by e.caller (e ∷ es) ≡ [] → ⊥
own_case e es true is eq none = let bad : e ∷ entries_by e.caller es ≡ [] = rw is at none in cc
own_case e es false is eq none = absurd cc

own_entry : (e : Entry) (es : List Entry) → entries_by e.caller (e ∷ es) ≡ [] → ⊥
own_entry e es none = own_case e es (e.caller == e.caller) refl (grind (arith, nat_tests)) none

tail_case : (k : ℕ) (e : Entry) (es : List Entry) (b : Bool) → (e.caller == k) ≡ b → entries_by k (e ∷ es) ≡ [] → entries_by k es ≡ []
tail_case k e es true is none = absurd (let bad : e ∷ entries_by k es ≡ [] = rw is at none in cc)
tail_case k e es false is none = rw is at none

none_after : (k : ℕ) (e : Entry) (es : List Entry) → entries_by k (e ∷ es) ≡ [] → entries_by k es ≡ []
none_after k e es none = tail_case k e es (e.caller == k) refl none

-- where no held handle makes an entry, there is none
quiet : (s : HistoryState) (es : List Entry) → is_legal s es ≡ true → ((k : ℕ) → has k s.held ≡ true → entries_by k es ≡ []) → es ≡ []
quiet s [] l q = refl
quiet s (e ∷ es) l q = absurd (own_entry e es (q e.caller (tested s e (both _ _ l).0).held))

nothing_case : (k last : ℕ) (e : Entry) (es : List Entry) (b : Bool) → (e.caller == k) ≡ b → FollowsAsks k last [] (e ∷ es) → (FollowsAsks k e.at [] es → entries_by k es ≡ []) → entries_by k (e ∷ es) ≡ []
nothing_case k last e es true is f ih = absurd (let g : NextIs k last [] e es = rw is at f in let bad = g.2 in cc)
nothing_case k last e es false is f ih = rw is (ih (rw is at f))

pub follows_nothing : (k last : ℕ) (es : List Entry) → FollowsAsks k last [] es → entries_by k es ≡ []
follows_nothing k last [] f = refl
follows_nothing k last (e ∷ es) f = nothing_case k last e es (e.caller == k) refl f (λ g. follows_nothing k e.at es g)

-- who is held is handle 0, or makes no entry
abbrev Silent : HistoryState → List Entry → Type 0
Silent s log = (k : ℕ) → has k s.held ≡ true → (k ≡ 0) ⊎ (entries_by k log ≡ [])

by_first : (s : HistoryState) (e : Entry) (es : List Entry) → is_legal s (e ∷ es) ≡ true → Silent s (e ∷ es) → e.caller ≡ 0
by_first s e es l q = ⊎_elim (λ (z : e.caller ≡ 0). z) (λ (none : entries_by e.caller (e ∷ es) ≡ []). absurd (own_entry e es none)) (q e.caller (tested s e (both _ _ l).0).held)

follows_first : (asks : List Ask) (last : ℕ) (e : Entry) (es : List Entry) → e.caller ≡ 0 → FollowsAsks 0 last asks (e ∷ es) → NextIs 0 last asks e es
follows_first asks last e es zero_calls f = let hit : (e.caller == 0) ≡ true = grind (arith, nat_tests) in rw hit at f

abbrev first_ask : List Ask → Ask
first_ask [] = ask 0 Release
first_ask (a ∷ asks) = a

abbrev later_asks : List Ask → List Ask
later_asks [] = []
later_asks (a ∷ asks) = asks

entry_is : (e : Entry) (made : ℕ) (a : Ask) (what : HandleAct) → a ≡ ask made what → e.caller ≡ 0 → e.what ≡ a.what → e.at ≡ max a.at made → e ≡ entry 0 made what
entry_is e made a what is c w t =
    let same : e.at ≡ made = t ∙ ap (λ (x : Ask). max x.at made) is ∙ grind arith in
    let does : e.what ≡ what = w ∙ ap (λ (x : Ask). x.what) is in
    (λ i. entry (c i) (same i) (does i))

-- a release of handle 0, and nothing after it
last_at : (s : HistoryState) (made : ℕ) (es : List Entry) → is_legal s (entry 0 made Release ∷ es) ≡ true → Silent s (entry 0 made Release ∷ es) → entries_by 0 es ≡ [] → es ≡ []
last_at s made es l q none =
    quiet (state_after s (entry 0 made Release)) es (both _ _ l).1
    (λ k at. ⊎_elim (λ (z : k ≡ 0). ap (λ (n : ℕ). entries_by n es) z ∙ none) (λ (r : entries_by k (entry 0 made Release ∷ es) ≡ []). none_after k (entry 0 made Release) es r) (q k (in_without k 0 s.held at)))

Begins : HistoryState → ℕ → List ℕ → List Entry → Type 0
Begins s made ns log = (log ≡ clone_entries_from made (s.clones + 1) (length ns)) × (ns ≡ numbers_from (s.clones + 1) (length ns))

next_number : (s : HistoryState) (c n : ℕ) → may_do s c (Clone n) ≡ true → n ≡ s.clones + 1
next_number s c n m = grind (arith, nat_tests)

-- a clone by handle 0 of one that makes no entry
clone_at : (s : HistoryState) (made n : ℕ) (ns : List ℕ) (es : List Entry) → is_legal s (entry 0 made (Clone n) ∷ es) ≡ true → Silent s (entry 0 made (Clone n) ∷ es) → entries_by n (entry 0 made (Clone n) ∷ es) ≡ []
    → Silent (state_after s (entry 0 made (Clone n))) es
clone_at s made n ns es l q none k at =
    ⊎_elim
    (λ (h : has k s.held ≡ true). ⊎_elim (λ (z : k ≡ 0). inl z) (λ (r : entries_by k (entry 0 made (Clone n) ∷ es) ≡ []). inr (none_after k (entry 0 made (Clone n)) es r)) (q k h))
    (λ (same : n ≡ k). inr (ap (λ (j : ℕ). entries_by j es) (sym same) ∙ none_after n (entry 0 made (Clone n)) es none))
    (has_back k n s.held at)

alone : (s : HistoryState) (made : ℕ) (ns : List ℕ) (log : List Entry) → is_legal s log ≡ true → Silent s log → ((n : ℕ) → has n ns ≡ true → entries_by n log ≡ []) → FollowsAsks 0 made (clones_asked made ns ++ ask made Release ∷ []) log → Begins s made ns log
unfolding Begins
alone s made [] [] l q quiets f = absurd cc
alone s made [] (e ∷ es) l q quiets f =
    let c = by_first s e es l q in
    let g = follows_first (ask made Release ∷ []) made e es c f in
    let a_is : g.0 ≡ ask made Release = ap first_ask (sym g.2) in
    let rest_is : g.1 ≡ [] = ap later_asks (sym g.2) in
    let e_is = entry_is e made g.0 Release a_is c g.3 g.4 in
    let none : entries_by 0 es ≡ [] = follows_nothing 0 e.at es (subst (λ (r : List Ask). FollowsAsks 0 e.at r es) rest_is g.5) in
    let es_is : es ≡ [] = last_at s made es (subst (λ (x : Entry). is_legal s (x ∷ es) ≡ true) e_is l) (subst (λ (x : Entry). Silent s (x ∷ es)) e_is q) none in
    ((λ i. e_is i ∷ es_is i), refl)
alone s made (n ∷ ns) [] l q quiets f = absurd cc
alone s made (n ∷ ns) (e ∷ es) l q quiets f =
    let asks = clones_asked made (n ∷ ns) ++ ask made Release ∷ [] in
    let c = by_first s e es l q in
    let g = follows_first asks made e es c f in
    let a_is : g.0 ≡ ask made (Clone n) = ap first_ask (sym g.2) in
    let rest_is : g.1 ≡ clones_asked made ns ++ ask made Release ∷ [] = ap later_asks (sym g.2) in
    let x : Entry = entry 0 made (Clone n) in
    let e_is : e ≡ x = entry_is e made g.0 (Clone n) a_is c g.3 g.4 in
    let l' : is_legal s (x ∷ es) ≡ true = subst (λ (y : Entry). is_legal s (y ∷ es) ≡ true) e_is l in
    let q' : Silent s (x ∷ es) = subst (λ (y : Entry). Silent s (y ∷ es)) e_is q in
    let p = both _ _ l' in
    let next = next_number s 0 n (tested s x p.0).done in
    let hit : (n == n) ≡ true = grind (arith, nat_tests) in
    let mute : entries_by n (x ∷ es) ≡ [] = subst (λ (y : Entry). entries_by n (y ∷ es) ≡ []) e_is (quiets n (rw hit refl)) in
    let f' : FollowsAsks 0 made (clones_asked made ns ++ ask made Release ∷ []) es = subst (λ (r : ℕ × List Ask). FollowsAsks 0 r.0 r.1 es) (λ i. (ap (λ (y : Entry). y.at) e_is i, rest_is i)) g.5 in
    let ih = alone (state_after s x) made ns es p.1 (clone_at s made n ns es l' q' mute) (λ m at. none_after m e es (quiets m (or (n == m) (has m ns) at))) f' in
    ((λ i. (e_is ∙ ap (λ (m : ℕ). entry 0 made (Clone m)) next) i ∷ ih.0 i), (λ i. next i ∷ ih.1 i))
  where
    or : (a b : Bool) → b ≡ true → (a || b) ≡ true
    or true b e = refl
    or false b e = e

in_start : (made k : ℕ) (b : Bool) → (0 == k) ≡ b → (b || false) ≡ true → k ≡ 0
in_start made k true is at = grind (arith, nat_tests)
in_start made k false is at = absurd cc

-- Where the handles that were made make no entry, the history is the clones, numbered from 1, and the release.
pub opened : (made : ℕ) (ns : List ℕ) (log : List Entry) → IsLegal made log → ((n : ℕ) → has n ns ≡ true → entries_by n log ≡ []) → FollowsAsks 0 made (clones_asked made ns ++ ask made Release ∷ []) log
    → (log ≡ clone_entries made (length ns)) × (ns ≡ numbers_from 1 (length ns))
unfolding Begins
opened made ns log l quiets f = alone (start made) made ns log l (λ k at. inl (in_start made k (0 == k) refl at)) quiets f
