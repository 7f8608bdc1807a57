-- A view is cut in two, two views are made one, and the first view opens the table.
use Rattle.std.proofs.Common.{◌≡◌, ◌≢◌, ◌⊎◌, inl, inr, ⊎_elim, ℕ, zero, suc, ◌<◌, ◌==◌, Bool, true, false, List, [], ◌∷◌, ◌++◌, length, set, refl, ap, sym, ◌∙◌, subst, arith, Some, None, length-set, Option, if◌then◌else◌, nat_lt}
use Rattle.trace_threads.proofs.Common.{nat_tests, IsPrefix, dite, ℕ_discrete, get_elem?, Splits, Joins, opening, at_set, set_here, set_else, at_longer, Making, View, Idle, shared_of, Turn, Earlier, Slot, AllBegin, Staged, Placed, ViewFitsRule, IsHolder, IsHomeOrOut, KeepsRule, KeepsWords, first_view, left_of, right_of, longer_turns, both_of, spent_view}
use mathlib.Core.Option as core
use Rattle.trace_threads.proofs.queue.SeatsLemmas.{prefix_self, fits_set, there, same_view, home_else, no_holder, sides}

abbrev is_at : Option ℕ → ℕ → Bool
is_at None k = false
is_at (Some n) k = k == n

-- the number of one view goes to another place
abbrev moved : (ℕ → ℕ × Bool) → Option ℕ → ℕ × Bool → ℕ → ℕ × Bool
moved place num p k = if is_at num k then p else place k

moved_else : (place : ℕ → ℕ × Bool) (num mine : Option ℕ) (from to q : ℕ × Bool) → Placed place from num → Placed place q mine → from ≢ q → Placed (moved place num to) q mine
moved_else place num None from to q f m n = tt
moved_else place None (Some k) from to q f m n = m
moved_else place (Some j) (Some k) from to q f m n =
    let apart : k ≢ j = λ e. n (sym f ∙ ap place (sym e) ∙ m) in
    let miss : (k == j) ≡ false = grind (arith, nat_tests) in
    rw miss m

moved_here : (place : ℕ → ℕ × Bool) (num : Option ℕ) (to : ℕ × Bool) → Placed (moved place num to) to num
moved_here place None to = tt
moved_here place (Some k) to = let hit : (k == k) ≡ true = grind (arith, nat_tests) in rw hit refl

fst_apart : (a b : ℕ) (x y : Bool) → a ≢ b → ◌≢◌ {A = ℕ × Bool} (a, x) (b, y)
fst_apart a b x y n e = n (ap (λ (p : ℕ × Bool). p.0) e)

-- the fit of a view whose numbers stay where they are
fits_moved : (making : Making) (turns : List Turn) (owner : ℕ → ℕ) (place : ℕ → ℕ × Bool) (tickets j : ℕ) (u : View) (num : Option ℕ) (from to : ℕ × Bool) → Placed place from num → from ≢ (j, false) → from ≢ (j, true)
    → ViewFitsRule making turns owner place tickets j u → ViewFitsRule making turns owner (moved place num to) tickets j u
fits_moved making turns owner place tickets j u num from to p a b f =
    record { same = f.same; begins = f.begins; before = f.before; staged = f.staged; own_entries = f.own_entries; own_place = moved_else place num u.number from to (j, false) p f.own_place a; other = f.other; other_place = moved_else place num u.other from to (j, true) p f.other_place b }

at_end : (l : List View) (a b : View) (j : ℕ) → get_elem? (l ++ a ∷ []) j ≡ core.some b → ((j < length l) × (get_elem? l j ≡ core.some b)) ⊎ ((j ≡ length l) × (a ≡ b))
at_end [] a b zero e = inr (refl, core.some-injective a b e)
at_end [] a b (suc j) e = absurd (core.some-ne-none b (sym e))
at_end (x ∷ xs) a b zero e = inl (omega arith, e)
at_end (x ∷ xs) a b (suc j) e = ⊎_elim (λ t. inl (let l = t.0 in omega (arith, l), t.1)) (λ t. inr (ap suc t.0, t.1)) (at_end xs a b j e)

-- ---- split

module _ (making : Making) (turns : List Turn) (owner : ℕ → ℕ) (place : ℕ → ℕ × Bool) (tickets : ℕ) (home : core.Option Slot) (views : List View) (id : ℕ) (v : View) (live : v.live ≡ true) (r : KeepsRule making turns owner place tickets home views) (at : get_elem? views id ≡ core.some v) where
  fit : ViewFitsRule making turns owner place tickets id v
  fit = r.each id v at

  left_fits : ViewFitsRule making turns owner (moved place v.other (length views, false)) tickets id (left_of v)
  left_fits = record { same = λ _. fit.same live; begins = fit.begins; before = fit.before; staged = fit.staged; own_entries = fit.own_entries; own_place = moved_else place v.other v.number (id, true) (length views, false) (id, false) fit.other_place fit.own_place (λ e. sides id (sym e)); other = tt; other_place = tt }

  right_fits : ViewFitsRule making turns owner (moved place v.other (length views, false)) tickets (length views) (right_of v)
  right_fits = record { same = λ _. fit.same live; begins = fit.begins; before = tt; staged = tt; own_entries = fit.other; own_place = moved_here place v.other (length views, false); other = tt; other_place = tt }

  split_home : IsHomeOrOut making turns home views → IsHomeOrOut making turns home (set views id (left_of v) ++ right_of v ∷ [])
  split_home (inl e) = inl e
  split_home (inr t) =
      dite (ℕ_discrete t.1 id)
      (λ same. inr (t.0, id, left_of v, at_longer (set views id (left_of v)) (right_of v ∷ []) id (left_of v) (set_here views id (left_of v) (there views id v at)), subst (λ (x : View). IsHolder x.stage) (same_view views t.1 id t.2 v same t.3 at) t.4))
      (λ apart. inr (t.0, t.1, t.2, at_longer (set views id (left_of v)) (right_of v ∷ []) t.1 t.2 (set_else views id t.1 (left_of v) apart ∙ t.3), t.4))

  split_each : (j : ℕ) (u : View) → get_elem? (set views id (left_of v) ++ right_of v ∷ []) j ≡ core.some u → ViewFitsRule making turns owner (moved place v.other (length views, false)) tickets j u
  split_each j u e =
      ⊎_elim
      (λ (t : (j < length (set views id (left_of v))) × (get_elem? (set views id (left_of v)) j ≡ core.some u)).
      fits_set making turns owner (moved place v.other (length views, false)) tickets views id (left_of v)
      (λ k y apart x. fits_moved making turns owner place tickets k y v.other (id, true) (length views, false) fit.other_place (fst_apart id k true false (λ s. apart (sym s))) (fst_apart id k true true (λ s. apart (sym s))) (r.each k y x))
      left_fits j u t.1)
      (λ (t : (j ≡ length (set views id (left_of v))) × (right_of v ≡ u)).
      let is : j ≡ length views = t.0 ∙ length-set views id (left_of v) in
      subst (λ (y : ℕ × View). ViewFitsRule making turns owner (moved place v.other (length views, false)) tickets y.0 y.1) (λ i. (sym is i, t.1 i)) right_fits)
      (at_end (set views id (left_of v)) (right_of v) u j e)

  split_ruled : KeepsRule making turns owner (moved place v.other (length views, false)) tickets home (set views id (left_of v) ++ right_of v ∷ [])
  split_ruled = record { capped = r.capped; behind = r.behind; legal = r.legal; at_home = split_home r.at_home; each = split_each }

pub splits : (making : Making) (id : ℕ) (v : View) → v.live ≡ true → Splits (KeepsWords making) id v (left_of v) (right_of v)
splits making id v live s k at = record { turns = k.turns; owner = k.owner; place = moved k.place v.other (length s.views, false); tickets = k.tickets; home = k.home; words = k.words; homes = k.homes; ruled = split_ruled making k.turns k.owner k.place k.tickets k.home s.views id v live k.ruled at }

-- ---- join

longer_case : (xs ys turns : List Turn) (b : Bool) → IsPrefix xs turns → IsPrefix ys turns → IsPrefix (if b then ys else xs) turns
longer_case xs ys turns true p q = q
longer_case xs ys turns false p q = p

all_append : (making : Making) (xs ys : List Earlier) (turns : List Turn) → AllBegin making xs turns → AllBegin making ys turns → AllBegin making (xs ++ ys) turns
all_append making [] ys turns p q = q
all_append making (x ∷ xs) ys turns p q = (p.0, p.1, all_append making xs ys turns p.2 q)

spent_fits : (making : Making) (turns : List Turn) (owner : ℕ → ℕ) (place : ℕ → ℕ × Bool) (tickets j : ℕ) → ViewFitsRule making turns owner place tickets j spent_view
spent_fits making turns owner place tickets j = record { same = λ e. absurd cc; begins = (turns, refl); before = tt; staged = tt; own_entries = tt; own_place = tt; other = tt; other_place = tt }

module _ (making : Making) (turns : List Turn) (owner : ℕ → ℕ) (place : ℕ → ℕ × Bool) (tickets : ℕ) (home : core.Option Slot) (views : List View) (id : ℕ) (v : View) (other : ℕ) (w : View) (live : v.live ≡ true) (live' : w.live ≡ true) (r : KeepsRule making turns owner place tickets home views)
    (at : get_elem? views id ≡ core.some v) (apart : other ≢ id) (at' : get_elem? views other ≡ core.some w) (idle : v.stage ≡ Idle) (idle' : w.stage ≡ Idle) where
  f : ViewFitsRule making turns owner place tickets id v
  f = r.each id v at

  f' : ViewFitsRule making turns owner place tickets other w
  f' = r.each other w at'

  both_fits : ViewFitsRule making turns owner (moved place w.number (id, true)) tickets id (both_of v w)
  both_fits = record {
    same = λ _. f.same live;
    begins = longer_case v.seen w.seen turns (nat_lt (length v.seen) (length w.seen)) f.begins f'.begins;
    before = (f.same live, f.begins, (f'.same live', f'.begins, all_append making v.earlier w.earlier turns f.before f'.before));
    staged = subst (Staged turns owner tickets id (longer_turns v.seen w.seen)) (sym idle) tt;
    own_entries = f.own_entries;
    own_place = moved_else place w.number v.number (other, false) (id, true) (id, false) f'.own_place f.own_place (fst_apart other id false false apart);
    other = f'.own_entries;
    other_place = moved_here place w.number (id, true);
  }

  join_each : (j : ℕ) (u : View) → get_elem? (set (set views id (both_of v w)) other spent_view) j ≡ core.some u → ViewFitsRule making turns owner (moved place w.number (id, true)) tickets j u
  join_each = fits_set making turns owner (moved place w.number (id, true)) tickets (set views id (both_of v w)) other spent_view
      (λ j u off e. ⊎_elim
      (λ (x : (j ≡ id) × (both_of v w ≡ u)). subst (λ (y : ℕ × View). ViewFitsRule making turns owner (moved place w.number (id, true)) tickets y.0 y.1) (λ i. (sym x.0 i, x.1 i)) both_fits)
      (λ (x : (j ≢ id) × (get_elem? views j ≡ core.some u)). fits_moved making turns owner place tickets j u w.number (other, false) (id, true) f'.own_place (fst_apart other j false false (λ s. off (sym s))) (fst_apart other j false true (λ s. off (sym s))) (r.each j u x.1))
      (at_set views id j (both_of v w) u e))
      (spent_fits making turns owner (moved place w.number (id, true)) tickets other)

  join_ruled : KeepsRule making turns owner (moved place w.number (id, true)) tickets home (set (set views id (both_of v w)) other spent_view)
  join_ruled = record {
    capped = r.capped;
    behind = r.behind;
    legal = r.legal;
    at_home = home_else making turns home (set views id (both_of v w)) other w spent_view (set_else views id other (both_of v w) apart ∙ at') (no_holder w.stage idle') (home_else making turns home views id v (both_of v w) at (no_holder v.stage idle) r.at_home);
    each = join_each;
  }

pub joins : (making : Making) (id : ℕ) (v : View) (other : ℕ) (w : View) → v.stage ≡ Idle → v.live ≡ true → w.stage ≡ Idle → w.live ≡ true → Joins (KeepsWords making) id v other w (both_of v w) spent_view
joins making id v other w idle live idle' live' s k at apart there_it =
    let at' : get_elem? s.views other ≡ core.some w = sym (set_else s.views id other (both_of v w) apart) ∙ there_it in
    record { turns = k.turns; owner = k.owner; place = moved k.place w.number (id, true); tickets = k.tickets; home = k.home; words = k.words; homes = k.homes; ruled = join_ruled making k.turns k.owner k.place k.tickets k.home s.views id v other w live live' k.ruled at apart at' idle idle' }

-- ---- make

fits_first : (making : Making) (j : ℕ) (v : View) → get_elem? (first_view making ∷ []) j ≡ core.some v → ViewFitsRule making [] (λ t. 0) (λ k. (0, false)) 0 j v
fits_first making zero v e = subst (ViewFitsRule making [] (λ t. 0) (λ k. (0, false)) 0 0) (core.some-injective (first_view making) v e) (record { same = λ _. refl; begins = prefix_self []; before = tt; staged = tt; own_entries = (refl, refl); own_place = refl; other = tt; other_place = tt })
fits_first making (suc j) v e = absurd (core.some-ne-none v (sym e))

pub opens : (making : Making) → KeepsWords making (opening (0 ∷ 0 ∷ []) (Some (shared_of making []) ∷ []) (first_view making))
opens making = record { turns = []; owner = λ t. 0; place = λ k. (0, false); tickets = 0; home = core.some (Some (shared_of making [])); words = refl; homes = refl; ruled = record { capped = omega arith; behind = omega arith; legal = refl; at_home = inl refl; each = fits_first making } }
