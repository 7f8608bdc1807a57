-- Whether the numbers of a list differ, told by a set of those that were seen.
use Rattle.trace_lines.proofs.Common.{Bool, GivenLane, List, [], all_differ, ap, arith, cond, drop, drop_more, false, get_or, is_eq, lane_ids, length, list_any, nat_cmp, nat_tests, not, refl, sym, true, ℕ, ◌&&◌, ◌+◌, ◌<◌, ◌==◌, ◌||◌, ◌∙◌, ◌∷◌, ◌≡◌}

-- no number is in the set
abbrev pub all_new : (ℕ → Bool) → List ℕ → Bool
all_new seen [] = true
all_new seen (n ∷ ns) = not (seen n) && all_new seen ns

-- they are not in the set, and they differ from one another
abbrev pub still_differ : (ℕ → Bool) → List ℕ → Bool
still_differ seen ns = all_new seen ns && all_differ ns

one_seen : (same seen new others : Bool) → not (cond same true seen) && (new && not others) ≡ (not seen && new) && not (same || others)
one_seen true true new others = refl
one_seen true false true others = refl
one_seen true false false others = refl
one_seen false true new others = refl
one_seen false false true others = refl
one_seen false false false others = refl

regrouped : (new others differ : Bool) → (new && not others) && differ ≡ new && (not others && differ)
regrouped true others differ = refl
regrouped false others differ = refl

same_number : (n q : ℕ) → is_eq (nat_cmp n q) ≡ (n == q)
same_number n q = grind (arith, nat_tests)

not_seen : (added seen : Bool) → added ≡ not seen → added ≡ true → seen ≡ false
not_seen added true is new = sym new ∙ is
not_seen added false is new = refl

was_seen : (added seen : Bool) → added ≡ not seen → added ≡ false → seen ≡ true
was_seen added true is old = refl
was_seen added false is old = sym old ∙ is

module _ (n : ℕ) (before after : ℕ → Bool) (adds : (q : ℕ) → after q ≡ cond (is_eq (nat_cmp n q)) true (before q)) where
  new_after : (ns : List ℕ) → all_new after ns ≡ all_new before ns && not (list_any (λ m. n == m) ns)
  new_after [] = refl
  new_after (m ∷ ns) = rw (adds m, same_number n m, new_after ns) (one_seen (n == m) (before m) (all_new before ns) (list_any (λ k. n == k) ns))

  -- with the first number in the set, the others are to be told
  goes_on : (ns : List ℕ) → before n ≡ false → still_differ after ns ≡ still_differ before (n ∷ ns)
  goes_on ns first = rw (first, new_after ns) (regrouped (all_new before ns) (list_any (λ m. n == m) ns) (all_differ ns))

-- a number that is in the set
ends : (n : ℕ) (before : ℕ → Bool) (ns : List ℕ) → before n ≡ true → still_differ before (n ∷ ns) ≡ false
ends n before ns again = rw again

module _ (before after : ℕ → Bool) (lanes : List GivenLane) (i : ℕ) (lane : GivenLane) (within : i < length lanes) (is : lane ≡ get_or lanes i lane) (added : Bool) (tells : added ≡ not (before lane.0)) where
  at_lane : drop i lanes ≡ lane ∷ drop (i + 1) lanes
  at_lane = drop_more lanes i lane within ∙ ap (λ l. l ∷ drop (i + 1) lanes) (sym is)

  pub next_lane : added ≡ true → ((q : ℕ) → after q ≡ cond (is_eq (nat_cmp lane.0 q)) true (before q)) → still_differ after (lane_ids (drop (i + 1) lanes)) ≡ still_differ before (lane_ids (drop i lanes))
  next_lane new adds = rw at_lane (goes_on lane.0 before after adds (lane_ids (drop (i + 1) lanes)) (not_seen added (before lane.0) tells new))

  pub same_lane : added ≡ false → still_differ before (lane_ids (drop i lanes)) ≡ false
  same_lane old = rw at_lane (ends lane.0 before (lane_ids (drop (i + 1) lanes)) (was_seen added (before lane.0) tells old))

-- the empty set
pub begins : (seen : ℕ → Bool) (ns : List ℕ) → ((q : ℕ) → seen q ≡ false) → still_differ seen ns ≡ all_differ ns
begins seen ns none = ap (λ new. new && all_differ ns) (nothing_seen ns) where
  nothing_seen : (ns : List ℕ) → all_new seen ns ≡ true
  nothing_seen [] = refl
  nothing_seen (n ∷ ns) = rw (none n) (nothing_seen ns)
