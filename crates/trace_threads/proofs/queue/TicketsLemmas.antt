-- Drawing a ticket, and looking whether it is served.
use Rattle.std.proofs.Common.{◌≡◌, inl, inr, ℕ, ◌+◌, ◌<◌, ◌==◌, Bool, true, false, List, [], ◌∷◌, length, set, refl, ap, sym, ◌∙◌, subst, arith, if◌then◌else◌, MatchBool}
use Rattle.trace_threads.proofs.Common.{nat_tests, get_elem?, either, step, keeps, takes, Allows, set_here, set_again, Making, View, TicketStage, Idle, Waits, Holds, MAX_TURNS, Turn, Slot, SeatValue, entries, home_of, view, Staged, ViewFitsRule, IsHolder, IsHomeOrOut, KeepsRule, KeepsWords, with_stage, Drawn, HasTurn, LookedAs, Looked, Noticed}
use mathlib.Core.Option as core
use Rattle.trace_threads.proofs.queue.SeatsLemmas.{prefix_self, Goes, allows, fits_set, there, same_view, home_else, no_holder, at_own, sides}

-- ---- draw

abbrev drawn_by : (ℕ → ℕ) → ℕ → ℕ → ℕ → ℕ
drawn_by owner n id t = if t == n then id else owner t

drawn_here : (owner : ℕ → ℕ) (n id : ℕ) → drawn_by owner n id n ≡ id
drawn_here owner n id = let yes : (n == n) ≡ true = grind (arith, nat_tests) in rw yes refl

drawn_else : (owner : ℕ → ℕ) (n id t : ℕ) → t < n → drawn_by owner n id t ≡ owner t
drawn_else owner n id t l = let no : (t == n) ≡ false = grind (arith, nat_tests) in rw no refl

staged_drawn : (turns : List Turn) (owner : ℕ → ℕ) (n id j : ℕ) (seen : List Turn) (stage : TicketStage) → Staged turns owner n j seen stage → Staged turns (drawn_by owner n id) (n + 1) j seen stage
staged_drawn turns owner n id j seen Idle s = tt
staged_drawn turns owner n id j seen (Waits t) s = (s.0, omega (arith, s.1), drawn_else owner n id t s.1 ∙ s.2)
staged_drawn turns owner n id j seen (Holds t) s = (s.0, omega (arith, s.1), drawn_else owner n id t s.1 ∙ s.2, s.3)

fits_drawn : (making : Making) (turns : List Turn) (owner : ℕ → ℕ) (place : ℕ → ℕ × Bool) (n id j : ℕ) (u : View) → ViewFitsRule making turns owner place n j u → ViewFitsRule making turns (drawn_by owner n id) place (n + 1) j u
fits_drawn making turns owner place n id j u f = record { same = f.same; begins = f.begins; before = f.before; staged = staged_drawn turns owner n id j u.seen u.stage f.staged; own_entries = f.own_entries; own_place = f.own_place; other = f.other; other_place = f.other_place }

drawn_case : (id : ℕ) (v : View) (c : List (ℕ × Slot)) (old : ℕ) → v.stage ≡ Idle → old < MAX_TURNS
    → (turns : List Turn) (owner : ℕ → ℕ) (place : ℕ → ℕ × Bool) (tickets : ℕ) (home : core.Option Slot) (views : List View) → KeepsRule v.origin turns owner place tickets home views → get_elem? views id ≡ core.some v
    → (b : Bool) → (tickets == old) ≡ b
    → Goes v.origin (λ n. either (n == old) (old + 1) n) 1 id (v, c) (Drawn (step 1 1 old (old + 1) core.none) (v, c)) (length turns ∷ tickets ∷ []) (home ∷ []) views
drawn_case id v c old idle low turns owner place tickets home views r at true is =
    let same : tickets ≡ old = grind (arith, nat_tests) in
    let w = with_stage (Waits old) v in
    let f = r.each id v at in
    let mine : ViewFitsRule v.origin turns (drawn_by owner tickets id) place (tickets + 1) id w = record { same = λ _. refl; begins = f.begins; before = f.before; staged = (omega (arith, r.behind, same), omega (arith, same), ap (drawn_by owner tickets id) (sym same) ∙ drawn_here owner tickets id); own_entries = f.own_entries; own_place = f.own_place; other = f.other; other_place = f.other_place } in
    let ruled : KeepsRule v.origin turns (drawn_by owner tickets id) place (tickets + 1) home (set views id w) = record {
      capped = omega (arith, low, same);
      behind = omega (arith, r.behind);
      legal = r.legal;
      at_home = home_else v.origin turns home views id v w at (no_holder v.stage idle) r.at_home;
      each = fits_set v.origin turns (drawn_by owner tickets id) place (tickets + 1) views id w (λ j u apart e. fits_drawn v.origin turns owner place tickets id j u (r.each j u e)) mine;
    } in (
      w,
      keeps,
      tt,
      record { turns = turns; owner = drawn_by owner tickets id; place = place; tickets = tickets + 1; home = home; words = rw is (ap (λ (k : ℕ). length turns ∷ k ∷ []) (omega (arith, same))); homes = refl; ruled = ruled },
      rw is refl,
    )
drawn_case id v c old idle low turns owner place tickets home views r at false is = (
  v,
  keeps,
  tt,
  record { turns = turns; owner = owner; place = place; tickets = tickets; home = home; words = rw is refl; homes = refl; ruled = subst (KeepsRule v.origin turns owner place tickets home) (sym (set_again views id v at)) r },
  rw is refl,
)

pub draws : (making : Making) (slots id : ℕ) (v : View) (c : List (ℕ × Slot)) (old : ℕ) → v.stage ≡ Idle → v.live ≡ true → old < MAX_TURNS
    → Allows (KeepsWords making) slots id (v, c) 1 (λ n. either (n == old) (old + 1) n) (Drawn (step slots 1 old (old + 1) core.none) (v, c))
draws making slots id v c old idle live low = allows making slots _ 1 id (v, c) (Drawn (step slots 1 old (old + 1) core.none) (v, c)) live (λ turns owner place tickets home views r at. drawn_case id v c old idle low turns owner place tickets home views r at (tickets == old) refl)

-- ---- look

-- where the seat has the ticket that is served and hasn't looked, the slot is at home
is_home : (making : Making) (turns : List Turn) (owner : ℕ → ℕ) (place : ℕ → ℕ × Bool) (tickets : ℕ) (home : core.Option Slot) (views : List View) (id t : ℕ) (v : View)
    → KeepsRule making turns owner place tickets home views → get_elem? views id ≡ core.some v → v.stage ≡ Waits t → owner t ≡ id → length turns ≡ t → home ≡ core.some (home_of making (entries turns))
is_home making turns owner place tickets home views id t v r at is own served = home_in r.at_home
  where
    owned : (h : ℕ) (stage : TicketStage) (seen : List Turn) → IsHolder stage → Staged turns owner tickets h seen stage → h ≡ id
    owned h Idle seen i s = absurd i
    owned h (Waits k) seen i s = absurd i
    owned h (Holds k) seen i s = sym s.2 ∙ ap owner (sym s.0 ∙ served) ∙ own

    home_in : IsHomeOrOut making turns home views → home ≡ core.some (home_of making (entries turns))
    home_in (inl e) = e
    home_in (inr h) =
        let same = owned h.1 h.2.stage h.2.seen h.4 (r.each h.1 h.2 h.3).staged in
        absurd (subst IsHolder (ap (λ (u : View). u.stage) (same_view views h.1 id h.2 v same h.3 at) ∙ is) h.4)

staged_as : (turns : List Turn) (owner : ℕ → ℕ) (tickets j : ℕ) (seen : List Turn) (stage : TicketStage) (t : ℕ) → stage ≡ Waits t → Staged turns owner tickets j seen stage → Staged turns owner tickets j seen (Waits t)
staged_as turns owner tickets j seen stage t e s = subst (Staged turns owner tickets j seen) e s

looked_case : (id t : ℕ) (v : View) → v.stage ≡ Waits t
    → (turns : List Turn) (owner : ℕ → ℕ) (place : ℕ → ℕ × Bool) (tickets : ℕ) (home : core.Option Slot) (views : List View) → KeepsRule v.origin turns owner place tickets home views → get_elem? views id ≡ core.some v
    → (b : Bool) → (length turns == t) ≡ b
    → Goes v.origin (λ n. n) 0 id (v, []) (λ n w. MatchBool (n == t) (HasTurn (v, []) t w) (w ≡ (v, []))) (length turns ∷ tickets ∷ []) (home ∷ []) views
looked_case id t v waits turns owner place tickets home views r at true is =
    let served : length turns ≡ t = grind (arith, nat_tests) in
    let f = r.each id v at in
    let s = staged_as turns owner tickets id v.seen v.stage t waits f.staged in
    let here = is_home v.origin turns owner place tickets home views id t v r at waits s.2 served in
    let w = view v.origin turns [] v.number v.mine v.other v.theirs (Holds t) in
    let mine : ViewFitsRule v.origin turns owner place tickets id w = record { same = λ _. refl; begins = prefix_self turns; before = tt; staged = (served, s.1, s.2, refl); own_entries = f.own_entries; own_place = f.own_place; other = f.other; other_place = f.other_place } in
    let ruled : KeepsRule v.origin turns owner place tickets core.none (set views id w) = record {
      capped = r.capped;
      behind = r.behind;
      legal = r.legal;
      at_home = inr (refl, id, w, set_here views id w (there views id v at), tt);
      each = fits_set v.origin turns owner place tickets views id w (λ j u apart e. r.each j u e) mine;
    } in
    let has : HasTurn (v, []) t (w, (0, home_of v.origin (entries turns)) ∷ []) = record { view = refl; slot = refl; begins = f.begins; before = f.before; legal = r.legal; own_entries = f.own_entries; other = f.other; apart = λ k a b. sides id (sym (at_own place (id, false) v.number k a f.own_place) ∙ at_own place (id, true) v.other k b f.other_place) } in (
      w,
      takes 0 (home_of v.origin (entries turns)),
      ap core.some here,
      record { turns = turns; owner = owner; place = place; tickets = tickets; home = core.none; words = refl; homes = refl; ruled = ruled },
      rw is has,
    )
looked_case id t v waits turns owner place tickets home views r at false is = (
  v,
  keeps,
  tt,
  record { turns = turns; owner = owner; place = place; tickets = tickets; home = home; words = refl; homes = refl; ruled = subst (KeepsRule v.origin turns owner place tickets home) (sym (set_again views id v at)) r },
  rw is refl,
)

looks : (making : Making) (slots id t : ℕ) (v : View) → v.stage ≡ Waits t → v.live ≡ true → Allows (KeepsWords making) slots id (v, []) 0 (λ n. n) (Looked (step slots 0 0 0 core.none) (v, []))
looks making slots id t v waits live =
    let known : Allows (KeepsWords making) slots id (v, []) 0 (λ n. n) (λ n w. LookedAs (v, []) n w (Waits t)) =
    allows making slots (λ n. n) 0 id (v, []) (λ n w. MatchBool (n == t) (HasTurn (v, []) t w) (w ≡ (v, []))) live (λ turns owner place tickets home views r at. looked_case id t v waits turns owner place tickets home views r at (length turns == t) refl) in
    subst (λ (stage : TicketStage). Allows (KeepsWords making) slots id (v, []) 0 (λ n. n) (λ n w. LookedAs (v, []) n w stage)) (sym waits) known

pub looks_as : (making : Making) (slots id t : ℕ) (me : SeatValue) → me.0.stage ≡ Waits t → me.0.live ≡ true → me.1 ≡ [] → Allows (KeepsWords making) slots id me 0 (λ n. n) (Looked (step slots 0 0 0 core.none) me)
looks_as making slots id t me waits live none = subst (λ (c : List (ℕ × Slot)). Allows (KeepsWords making) slots id (me.0, c) 0 (λ n. n) (Looked (step slots 0 0 0 core.none) (me.0, c))) (sym none) (looks making slots id t me.0 waits live)

-- ---- a plain look

pub notices : (making : Making) (slots id : ℕ) (me : SeatValue) → me.0.stage ≡ Idle → me.0.live ≡ true → Allows (KeepsWords making) slots id me 0 (λ n. n) (Noticed (step slots 0 0 0 core.none) me)
notices making slots id me idle live = allows making slots (λ n. n) 0 id me (Noticed (step slots 0 0 0 core.none) me) live (λ turns owner place tickets home views r at.
    let v = me.0 in
    let f = r.each id v at in
    let w = view v.origin turns [] v.number v.mine v.other v.theirs Idle in
    let mine : ViewFitsRule v.origin turns owner place tickets id w = record { same = λ _. refl; begins = prefix_self turns; before = tt; staged = tt; own_entries = f.own_entries; own_place = f.own_place; other = f.other; other_place = f.other_place } in
    let ruled : KeepsRule v.origin turns owner place tickets home (set views id w) = record {
      capped = r.capped;
      behind = r.behind;
      legal = r.legal;
      at_home = home_else v.origin turns home views id v w at (no_holder v.stage idle) r.at_home;
      each = fits_set v.origin turns owner place tickets views id w (λ j u apart e. r.each j u e) mine;
    } in (
      w,
      keeps,
      tt,
      record { turns = turns; owner = owner; place = place; tickets = tickets; home = home; words = refl; homes = refl; ruled = ruled },
      record { view = refl; begins = f.begins; before = f.before; legal = r.legal; own_entries = f.own_entries },
    ))
