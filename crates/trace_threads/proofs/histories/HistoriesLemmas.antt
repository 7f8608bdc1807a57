-- A history with one entry more.
use Rattle.std.proofs.Common.{◌≡◌, ◌≢◌, ⊎_elim, ℕ, ◌+◌, ◌<◌, ◌≤◌, ◌==◌, Bool, true, false, ◌||◌, max, List, [], ◌∷◌, ◌++◌, length, refl, ap, sym, ◌∙◌, subst, arith, true≢false, nat_le}
use Rattle.trace_threads.proofs.Common.{nat_tests, Entry, HandleAct, Clone, Call, Join, Release, HistoryState, start, entry, has, others_in, clone_count_after, held_after, state_after, may, may_do, state_from, is_legal, IsLegal, IsHeld, entries_by, EndedForGood, EndedIsDone, NothingFollows, ends_handle, has_end, WholeIsSeen}
use Rattle.std.proofs.lemmas.List.{append-nil}
use Rattle.trace_threads.specs.History.{is_empty, state_of_history}
use Rattle.trace_threads.proofs.histories.HoldersLemmas.{both, has_more, has_new, has_back, has_without, in_without, Distinct, distinct_more, distinct_without}

pub sum_push : (s : HistoryState) (log : List Entry) (e : Entry) → state_from s (log ++ e ∷ []) ≡ state_after (state_from s log) e
sum_push s [] e = refl
sum_push s (x ∷ log) e = sum_push (state_after s x) log e

pub legal_push : (s : HistoryState) (log : List Entry) (e : Entry) → is_legal s log ≡ true → may (state_from s log) e ≡ true → is_legal s (log ++ e ∷ []) ≡ true
legal_push s [] e l m = rw m refl
legal_push s (x ∷ log) e l m = let p = both (may s x) _ l in rw p.0 (legal_push (state_after s x) log e p.1 m)

in_order : (a l : ℕ) → nat_le l (max a l) ≡ true
in_order a l = grind (arith, nat_tests)

pub may_any : (s : HistoryState) (c a : ℕ) (w : HandleAct) → has c s.held ≡ true → may_do s c w ≡ true → may s (entry c (max a s.last) w) ≡ true
may_any s c a w h m = rw (h, in_order a s.last) m

-- what a legal entry was tested for
pub record Tested (s : HistoryState) (e : Entry) : Type 0 where
  pub held : has e.caller s.held ≡ true
  pub later : s.last ≤ e.at
  pub done : may_do s e.caller e.what ≡ true

pub tested : (s : HistoryState) (e : Entry) → may s e ≡ true → Tested s e
tested s e m =
    let p = both (has e.caller s.held) _ m in
    let q = both (nat_le s.last e.at) _ p.1 in
    record { held = p.0; later = let t = q.0 in grind (arith, nat_tests); done = q.1 }

-- ---- the entries of one handle

by_case : (k : ℕ) (x : Entry) (xs ys : List Entry) (b : Bool) → (x.caller == k) ≡ b → entries_by k (xs ++ ys) ≡ entries_by k xs ++ entries_by k ys → entries_by k (x ∷ (xs ++ ys)) ≡ entries_by k (x ∷ xs) ++ entries_by k ys
by_case k x xs ys true is ih = rw is (ap (λ l. x ∷ l) ih)
by_case k x xs ys false is ih = rw is ih

by_append : (k : ℕ) (xs ys : List Entry) → entries_by k (xs ++ ys) ≡ entries_by k xs ++ entries_by k ys
by_append k [] ys = refl
by_append k (x ∷ xs) ys = by_case k x xs ys (x.caller == k) refl (by_append k xs ys)

pub by_other : (k : ℕ) (log : List Entry) (e : Entry) → e.caller ≢ k → entries_by k (log ++ e ∷ []) ≡ entries_by k log
by_other k log e n = let no : (e.caller == k) ≡ false = grind (arith, nat_tests) in by_append k log (e ∷ []) ∙ rw no (append-nil (entries_by k log))

pub by_own : (k : ℕ) (log : List Entry) (e : Entry) → e.caller ≡ k → entries_by k (log ++ e ∷ []) ≡ entries_by k log ++ e ∷ []
by_own k log e c = let yes : (e.caller == k) ≡ true = grind (arith, nat_tests) in by_append k log (e ∷ []) ∙ rw yes refl

-- ---- who is held after one entry more

-- an entry ends no other handle than this
abbrev pub Spares : ℕ → ℕ → HandleAct → Type 0
Spares k c (Clone n) = Unit {0}
Spares k c (Call op) = Unit {0}
Spares k c (Join m) = k ≢ m
Spares k c Release = k ≢ c

held_still : (k c : ℕ) (h : List ℕ) (w : HandleAct) → Spares k c w → has k h ≡ true → has k (held_after h c w) ≡ true
held_still k c h (Clone n) s e = has_more k n h e
held_still k c h (Call op) s e = e
held_still k c h (Join m) s e = has_without k m h s e
held_still k c h Release s e = has_without k c h s e

pub held_push : (made k : ℕ) (log : List Entry) (e : Entry) → Spares k e.caller e.what → IsHeld made k log → IsHeld made k (log ++ e ∷ [])
held_push made k log e s h = subst (λ (t : HistoryState). has k t.held ≡ true) (sym (sum_push (start made) log e)) (held_still k e.caller (state_of_history made log).held e.what s h)

pub held_new : (made : ℕ) (log : List Entry) (c a n : ℕ) → IsHeld made n (log ++ entry c a (Clone n) ∷ [])
held_new made log c a n = subst (λ (t : HistoryState). has n t.held ≡ true) (sym (sum_push (start made) log (entry c a (Clone n)))) (has_new n (state_of_history made log).held)

-- ---- the numbers of a legal history

-- no number is above that of the clones, and each is held once
pub record Numbered (s : HistoryState) : Type 0 where
  pub within : (k : ℕ) → has k s.held ≡ true → k ≤ s.clones
  pub distinct : Distinct s.held

not_held : (s : HistoryState) (n : ℕ) (b : Bool) → has n s.held ≡ b → n ≡ s.clones + 1 → Numbered s → b ≡ false
not_held s n true is next i = absurd (let le = i.within n is in omega (arith, next, le))
not_held s n false is next i = refl

next_of : (s : HistoryState) (n c : ℕ) → may_do s c (Clone n) ≡ true → n ≡ s.clones + 1
next_of s n c m = grind (arith, nat_tests)

pub numbered_step : (s : HistoryState) (c a : ℕ) (w : HandleAct) → Numbered s → may_do s c w ≡ true → Numbered (state_after s (entry c a w))
numbered_step s c a (Clone n) i m =
    let is = next_of s n c m in record {
      within = λ k at. ⊎_elim (λ (h : has k s.held ≡ true). let le = i.within k h in omega (arith, le)) (λ (h : n ≡ k). omega (arith, is, h)) (has_back k n s.held at);
      distinct = distinct_more n s.held (not_held s n (has n s.held) refl is i) i.distinct;
    }
numbered_step s c a (Call op) i m = record { within = i.within; distinct = i.distinct }
numbered_step s c a (Join j) i m = record { within = λ k at. i.within k (in_without k j s.held at); distinct = distinct_without j s.held i.distinct }
numbered_step s c a Release i m = record { within = λ k at. i.within k (in_without k c s.held at); distinct = distinct_without c s.held i.distinct }

numbered_all : (s : HistoryState) (log : List Entry) → Numbered s → is_legal s log ≡ true → Numbered (state_from s log)
numbered_all s [] i l = i
numbered_all s (e ∷ log) i l =
    let p = both (may s e) _ l in
    numbered_all (state_after s e) log (numbered_step s e.caller e.at e.what i (tested s e p.0).done) p.1

pub numbered_start : (made : ℕ) → Numbered (start made)
numbered_start made = record { within = λ k e. first k (0 == k) refl e; distinct = (refl, tt) }
  where
    first : (k : ℕ) (b : Bool) → (0 == k) ≡ b → (b || false) ≡ true → k ≤ 0
    first k true is e = grind (arith, nat_tests)
    first k false is e = absurd cc

pub numbered : (made : ℕ) (log : List Entry) → IsLegal made log → Numbered (state_of_history made log)
numbered made log l = numbered_all (start made) log (numbered_start made) l

pub distinct : (made : ℕ) (log : List Entry) → IsLegal made log → Distinct (state_of_history made log).held
distinct made log l = (numbered made log l).distinct

-- the number of a new clone is held by nobody
pub fresh : (made : ℕ) (log : List Entry) (c a n k : ℕ) → IsLegal made log → may (state_of_history made log) (entry c a (Clone n)) ≡ true → IsHeld made k log → k ≢ n
fresh made log c a n k l m h =
    let is = next_of (state_of_history made log) n c (tested (state_of_history made log) (entry c a (Clone n)) m).done in
    let le = (numbered made log l).within k h in
    (λ e. omega (arith, is, le, e))

clones_step : (n : ℕ) (w : HandleAct) → n ≤ clone_count_after n w
clones_step n (Clone k) = omega arith
clones_step n (Call op) = omega arith
clones_step n (Join m) = omega arith
clones_step n Release = omega arith

clones_grow : (s : HistoryState) (log : List Entry) → s.clones ≤ (state_from s log).clones
clones_grow s [] = omega arith
clones_grow s (e ∷ log) = let a = clones_step s.clones e.what in let b = clones_grow (state_after s e) log in omega (arith, a, b)

pub none_above : (s : HistoryState) (log : List Entry) (n : ℕ) → Numbered s → is_legal s log ≡ true → (state_from s log).clones < n → entries_by n log ≡ []
none_above s [] n i l lt = refl
none_above s (e ∷ log) n i l lt =
    let p = both (may s e) _ l in
    let t = tested s e p.0 in
    let low = i.within e.caller t.held in
    let grows = clones_grow s (e ∷ log) in
    let less : e.caller < n = omega (arith, low, grows, lt) in
    let miss : (e.caller == n) ≡ false = grind (arith, nat_tests) in
    rw miss (none_above (state_after s e) log n (numbered_step s e.caller e.at e.what i t.done) p.1 lt)

-- the number of a new clone has made no entry
pub fresh_entries : (made : ℕ) (log : List Entry) (c a n : ℕ) → IsLegal made log → may (state_of_history made log) (entry c a (Clone n)) ≡ true → entries_by n log ≡ []
fresh_entries made log c a n l m =
    let is = next_of (state_of_history made log) n c (tested (state_of_history made log) (entry c a (Clone n)) m).done in
    none_above (start made) log n (numbered_start made) l (omega (arith, is))

-- ---- tests of single entries

pub may_clone : (clones n : ℕ) → n ≡ clones + 1 → (n == clones + 1) ≡ true
may_clone clones n e = grind (arith, nat_tests)

pub may_join : (s : HistoryState) (c m : ℕ) → has m s.held ≡ true → m ≢ c → has m s.inside ≡ false → may_do s c (Join m) ≡ true
may_join s c m h n out = let miss : (m == c) ≡ false = grind (arith, nat_tests) in rw (h, miss, out) refl

pub may_release : (s : HistoryState) (c : ℕ) → has c s.inside ≡ false → may_do s c Release ≡ true
may_release s c out = rw out refl

pub counts_none : (h : List ℕ) → (length h == 0) ≡ is_empty h
counts_none [] = refl
counts_none (x ∷ h) = grind (arith, nat_tests)

-- ---- laws

-- who isn't held, and has had a number, isn't held after one entry more
still_gone : (s : HistoryState) (k c : ℕ) (w : HandleAct) → (has k s.held ≡ true → ⊥) → k ≤ s.clones → may_do s c w ≡ true → has k (held_after s.held c w) ≡ true → ⊥
still_gone s k c (Clone n) gone low m at = let is = next_of s n c m in ⊎_elim gone (λ (e : n ≡ k). omega (arith, is, e, low)) (has_back k n s.held at)
still_gone s k c (Call op) gone low m at = gone at
still_gone s k c (Join j) gone low m at = gone (in_without k j s.held at)
still_gone s k c Release gone low m at = gone (in_without k c s.held at)

no_entry : (s : HistoryState) (log : List Entry) (k : ℕ) → is_legal s log ≡ true → (has k s.held ≡ true → ⊥) → k ≤ s.clones → entries_by k log ≡ []
no_entry s [] k l gone low = refl
no_entry s (e ∷ log) k l gone low =
    let p = both (may s e) _ l in
    let t = tested s e p.0 in
    let apart : e.caller ≢ k = λ same. gone (subst (λ (j : ℕ). has j s.held ≡ true) same t.held) in
    let miss : (e.caller == k) ≡ false = grind (arith, nat_tests) in
    let more = clones_step s.clones e.what in
    rw miss (no_entry (state_after s e) log k p.1 (still_gone s k e.caller e.what gone low t.done) (omega (arith, more, low)))

pub legal_rest : (s : HistoryState) (xs ys : List Entry) → is_legal s (xs ++ ys) ≡ true → is_legal (state_from s xs) ys ≡ true
legal_rest s [] ys l = l
legal_rest s (x ∷ xs) ys l = legal_rest (state_after s x) xs ys (both (may s x) _ l).1

pub ended_for_good : EndedForGood
ended_for_good made k xs ys l gone low = by_append k xs ys ∙ ap (λ zs. entries_by k xs ++ zs) (no_entry (state_of_history made xs) ys k (legal_rest (start made) xs ys l) gone low) ∙ append-nil (entries_by k xs)

none_held : (k : ℕ) (h : List ℕ) → is_empty h ≡ true → has k h ≡ true → ⊥
none_held k [] e at = cc
none_held k (x ∷ h) e at = cc

nothing_after : (s : HistoryState) (ys : List Entry) → is_legal s ys ≡ true → is_empty s.held ≡ true → ys ≡ []
nothing_after s [] l e = refl
nothing_after s (y ∷ ys) l e = absurd (none_held y.caller s.held e (tested s y (both (may s y) _ l).0).held)

pub nothing_follows : NothingFollows
nothing_follows made xs ys l e = nothing_after (state_of_history made xs) ys (legal_rest (start made) xs ys l) e

-- ---- the whole history

gone_case : (m x : ℕ) (h : List ℕ) (b : Bool) → (x == m) ≡ b → has m (others_in m h) ≡ false → has m (others_in m (x ∷ h)) ≡ false
gone_case m x h true is ih = rw is ih
gone_case m x h false is ih = rw is (rw is ih)

gone_self : (m : ℕ) (h : List ℕ) → has m (others_in m h) ≡ false
gone_self m [] = refl
gone_self m (x ∷ h) = gone_case m x h (x == m) refl (gone_self m h)

gone_by : (k m : ℕ) (h : List ℕ) → (m == k) ≡ true → has k (others_in m h) ≡ true → ⊥
gone_by k m h is at =
    let same : m ≡ k = grind (arith, nat_tests) in
    true≢false (sym at ∙ subst (λ (j : ℕ). has j (others_in m h) ≡ false) same (gone_self m h))

ended_at : (s : HistoryState) (k c : ℕ) (w : HandleAct) → ends_handle k c w ≡ true → has k (held_after s.held c w) ≡ true → ⊥
ended_at s k c (Clone n) e at = absurd cc
ended_at s k c (Call op) e at = absurd cc
ended_at s k c (Join m) e at = gone_by k m s.held e at
ended_at s k c Release e at = gone_by k c s.held e at

-- who is ended had a number
ended_low : (s : HistoryState) (k c : ℕ) (w : HandleAct) → Numbered s → has c s.held ≡ true → may_do s c w ≡ true → ends_handle k c w ≡ true → k ≤ s.clones
ended_low s k c (Clone n) i h m e = absurd cc
ended_low s k c (Call op) i h m e = absurd cc
ended_low s k c (Join j) i h m e = let same : j ≡ k = grind (arith, nat_tests) in let low = i.within j (both (has j s.held) _ m).0 in omega (arith, same, low)
ended_low s k c Release i h m e = let same : c ≡ k = grind (arith, nat_tests) in let low = i.within c h in omega (arith, same, low)

stays_gone : (s : HistoryState) (log : List Entry) (k : ℕ) → is_legal s log ≡ true → (has k s.held ≡ true → ⊥) → k ≤ s.clones → has k (state_from s log).held ≡ true → ⊥
stays_gone s [] k l gone low at = gone at
stays_gone s (e ∷ log) k l gone low at =
    let p = both (may s e) _ l in
    let more = clones_step s.clones e.what in
    stays_gone (state_after s e) log k p.1 (still_gone s k e.caller e.what gone low (tested s e p.0).done) (omega (arith, more, low)) at

end_case : (s : HistoryState) (e : Entry) (log : List Entry) (k : ℕ) (b : Bool) → Numbered s → is_legal s (e ∷ log) ≡ true → ends_handle k e.caller e.what ≡ b → (b || has_end k log) ≡ true
    → (Numbered (state_after s e) → is_legal (state_after s e) log ≡ true → has_end k log ≡ true → has k (state_from (state_after s e) log).held ≡ true → ⊥) → has k (state_from (state_after s e) log).held ≡ true → ⊥
end_case s e log k true i l is h ih at =
    let p = both (may s e) _ l in
    let t = tested s e p.0 in
    let low = ended_low s k e.caller e.what i t.held t.done is in
    let more = clones_step s.clones e.what in
    stays_gone (state_after s e) log k p.1 (ended_at s k e.caller e.what is) (omega (arith, more, low)) at
end_case s e log k false i l is h ih at =
    let p = both (may s e) _ l in
    ih (numbered_step s e.caller e.at e.what i (tested s e p.0).done) p.1 h at

after_end : (s : HistoryState) (log : List Entry) (k : ℕ) → Numbered s → is_legal s log ≡ true → has_end k log ≡ true → has k (state_from s log).held ≡ true → ⊥
after_end s [] k i l h at = absurd cc
after_end s (e ∷ log) k i l h at = end_case s e log k (ends_handle k e.caller e.what) i l refl h (λ i' l' h'. after_end (state_after s e) log k i' l' h') at

pub legal_first : (s : HistoryState) (xs ys : List Entry) → is_legal s (xs ++ ys) ≡ true → is_legal s xs ≡ true
legal_first s [] ys l = refl
legal_first s (x ∷ xs) ys l = let p = both (may s x) _ l in rw p.0 (legal_first (state_after s x) xs ys p.1)

none_left : (h : List ℕ) → ((k : ℕ) → has k h ≡ true → ⊥) → is_empty h ≡ true
none_left [] f = refl
none_left (x ∷ h) f = let hit : (x == x) ≡ true = grind (arith, nat_tests) in absurd (f x (rw hit refl))

pub whole_is_seen : WholeIsSeen
whole_is_seen made xs ys l ended =
    let first = legal_first (start made) xs ys l in
    let closed = none_left (state_of_history made xs).held (λ k at. after_end (start made) xs k (numbered_start made) first (ended k ((numbered made xs first).within k at)) at) in
    (closed, nothing_follows made xs ys l closed)

-- ---- an ended handle

low_case : (s : HistoryState) (e : Entry) (log : List Entry) (k : ℕ) (b : Bool) → Numbered s → is_legal s (e ∷ log) ≡ true → ends_handle k e.caller e.what ≡ b → (b || has_end k log) ≡ true
    → (Numbered (state_after s e) → is_legal (state_after s e) log ≡ true → has_end k log ≡ true → k ≤ (state_from (state_after s e) log).clones) → k ≤ (state_from (state_after s e) log).clones
low_case s e log k true i l is h ih =
    let p = both (may s e) _ l in
    let t = tested s e p.0 in
    let low = ended_low s k e.caller e.what i t.held t.done is in
    let a = clones_step s.clones e.what in
    let b = clones_grow (state_after s e) log in
    omega (arith, low, a, b)
low_case s e log k false i l is h ih = let p = both (may s e) _ l in ih (numbered_step s e.caller e.at e.what i (tested s e p.0).done) p.1 h

end_low : (s : HistoryState) (log : List Entry) (k : ℕ) → Numbered s → is_legal s log ≡ true → has_end k log ≡ true → k ≤ (state_from s log).clones
end_low s [] k i l h = absurd cc
end_low s (e ∷ log) k i l h = low_case s e log k (ends_handle k e.caller e.what) i l refl h (λ i' l' h'. end_low (state_after s e) log k i' l' h')

pub ended_is_done : EndedIsDone
ended_is_done made k xs ys l h =
    let first = legal_first (start made) xs ys l in
    no_entry (state_of_history made xs) ys k (legal_rest (start made) xs ys l) (λ at. after_end (start made) xs k (numbered_start made) first h at) (end_low (start made) xs k (numbered_start made) first h)
