-- Passing a turn on, with what its holder did in it.
use Rattle.std.proofs.Common.{◌≡◌, ◌≢◌, inl, ℕ, ◌+◌, ◌%◌, ◌^◌, ◌<◌, ◌==◌, Bool, true, false, List, [], ◌∷◌, ◌++◌, length, set, refl, ap, sym, ◌∙◌, subst, arith, length-append, Some, None, Option, if◌then◌else◌}
use Rattle.trace_threads.proofs.Common.{nat_tests, get_elem?, either, step, gives, Allows, Making, Entry, HandleAct, Clone, Call, Join, Release, View, TicketStage, Idle, Waits, Holds, MAX_TURNS, start, IsLegal, is_legal, may, entries_by, IsHeld, entry, shared_of, Turn, Slot, SeatValue, entries, home_of, AllBegin, Staged, Known, Placed, ViewFitsRule, KeepsRule, KeepsWords, passed_by, view_after, PassedOn, MayEnd, MayTurn, Closed}
use mathlib.Core.Option as core
use Rattle.std.proofs.Math.Nat.{mod-eq_of_lt}
use Rattle.trace_threads.specs.History.{state_of_history}
use Rattle.trace_threads.proofs.histories.HistoriesLemmas.{legal_push, Spares, held_push, by_other, by_own, fresh, fresh_entries, held_new}
use Rattle.trace_threads.proofs.queue.SeatsLemmas.{prefix_self, prefix_more, all_more, Goes, allows, fits_set, at_own, sides}

pub entries_none : (ts : List Turn) → entries (ts ++ None ∷ []) ≡ entries ts
entries_none [] = refl
entries_none (None ∷ ts) = entries_none ts
entries_none (Some e ∷ ts) = ap (λ l. e ∷ l) (entries_none ts)

pub entries_some : (ts : List Turn) (e : Entry) → entries (ts ++ Some e ∷ []) ≡ entries ts ++ e ∷ []
entries_some [] e = refl
entries_some (None ∷ ts) e = entries_some ts e
entries_some (Some x ∷ ts) e = ap (λ l. x ∷ l) (entries_some ts e)

abbrev placed_by : (ℕ → ℕ × Bool) → ℕ → HandleAct → ℕ → ℕ × Bool
placed_by place id (Clone n) k = if k == n then (id, true) else place k
placed_by place id (Call op) k = place k
placed_by place id (Join m) k = place k
placed_by place id Release k = place k

abbrev placed_in : (ℕ → ℕ × Bool) → ℕ → Turn → ℕ → ℕ × Bool
placed_in place id None k = place k
placed_in place id (Some e) k = placed_by place id e.what k

module _ (making : Making) where
  -- a held number at this place keeps its place and its entries, and stays held
  abbrev Leaves : (ℕ → ℕ × Bool) → (ℕ → ℕ × Bool) → List Entry → List Entry → ℕ × Bool → Type 0
  Leaves place new log more q = (k : ℕ) → place k ≡ q → IsHeld making.made_at k log → (new k ≡ place k) × (entries_by k more ≡ entries_by k log) × IsHeld making.made_at k more

  known_more : (place new : ℕ → ℕ × Bool) (log more : List Entry) (q : ℕ × Bool) (mine : List Entry) (num : Option ℕ) → Leaves place new log more q → Known making log mine num → Placed place q num → Known making more mine num × Placed new q num
  known_more place new log more q mine None l k p = (tt, tt)
  known_more place new log more q mine (Some n) l k p = let x = l n p k.1 in ((x.1 ∙ k.0, x.2), x.0 ∙ p)

  pub known_at : (log mine : List Entry) (num : Option ℕ) (k : ℕ) → num ≡ Some k → Known making log mine num → (entries_by k log ≡ mine) × IsHeld making.made_at k log
  known_at log mine num k e h = subst (Known making log mine) e h

  -- an entry leaves the numbers at other places than its caller's and the ended one's alone
  leaves_entry : (place : ℕ → ℕ × Bool) (id : ℕ) (log : List Entry) (e : Entry) (q : ℕ × Bool) (what : HandleAct) → e.what ≡ what → IsLegal making.made_at log → may (state_of_history making.made_at log) (entry e.caller e.at what) ≡ true
      → place e.caller ≢ q → ((m : ℕ) → what ≡ Join m → place m ≢ q) → Leaves place (placed_by place id what) log (log ++ e ∷ []) q
  leaves_entry place id log e q (Clone n) is legal m own joined k at held =
      let apart : e.caller ≢ k = λ same. own (ap place same ∙ at) in
      let new : k ≢ n = fresh making.made_at log e.caller e.at n k legal m held in
      let miss : (k == n) ≡ false = grind (arith, nat_tests) in
      (rw miss refl, by_other k log e apart, held_push making.made_at k log e (subst (Spares k e.caller) (sym is) tt) held)
  leaves_entry place id log e q (Call op) is legal m own joined k at held =
      let apart : e.caller ≢ k = λ same. own (ap place same ∙ at) in
      (refl, by_other k log e apart, held_push making.made_at k log e (subst (Spares k e.caller) (sym is) tt) held)
  leaves_entry place id log e q (Join j) is legal m own joined k at held =
      let apart : e.caller ≢ k = λ same. own (ap place same ∙ at) in
      let other : k ≢ j = λ same. joined j refl (ap place (sym same) ∙ at) in
      (refl, by_other k log e apart, held_push making.made_at k log e (subst (Spares k e.caller) (sym is) other) held)
  leaves_entry place id log e q Release is legal m own joined k at held =
      let apart : e.caller ≢ k = λ same. own (ap place same ∙ at) in
      (refl, by_other k log e apart, held_push making.made_at k log e (subst (Spares k e.caller) (sym is) (λ same. apart (sym same))) held)

leaves_turn : (place : ℕ → ℕ × Bool) (id : ℕ) (v : View) (turns : List Turn) (turn : Turn) (q : ℕ × Bool) → IsLegal v.origin.made_at (entries turns) → MayTurn v (entries turns) turn
    → Placed place (id, false) v.number → Placed place (id, true) v.other → (id, false) ≢ q → (id, true) ≢ q → Leaves v.origin place (placed_in place id turn) (entries turns) (entries (turns ++ turn ∷ [])) q
leaves_turn place id v turns None q legal m own other a b = subst (λ (more : List Entry). Leaves v.origin place place (entries turns) more q) (sym (entries_none turns)) (λ k at held. (refl, refl, held))
leaves_turn place id v turns (Some e) q legal m own other a b =
    subst (λ (more : List Entry). Leaves v.origin place (placed_by place id e.what) (entries turns) more q) (sym (entries_some turns e))
    (leaves_entry v.origin place id (entries turns) e q e.what refl legal m.0 (λ h. a (sym (at_own place (id, false) v.number e.caller m.1 own) ∙ h))
    (λ j is h. b (sym (at_own place (id, true) v.other j (subst (MayEnd v.other) is m.2) other) ∙ h)))

staged_passed : (turns : List Turn) (turn : Turn) (owner : ℕ → ℕ) (tickets id j : ℕ) (seen : List Turn) (stage : TicketStage) → j ≢ id → owner (length turns) ≡ id → Staged turns owner tickets j seen stage → Staged (turns ++ turn ∷ []) owner tickets j seen stage
staged_passed turns turn owner tickets id j seen Idle apart own s = tt
staged_passed turns turn owner tickets id j seen (Waits t) apart own s =
    let other : t ≢ length turns = λ e. apart (sym s.2 ∙ ap owner e ∙ own) in
    (omega (arith, s.0, other, length-append turns (turn ∷ [])), s.1, s.2)
staged_passed turns turn owner tickets id j seen (Holds t) apart own s = absurd (apart (sym s.2 ∙ ap owner (sym s.0) ∙ own))

first_of : (p q : ℕ × Bool) → p ≡ q → p.0 ≡ q.0
first_of p q e = ap (λ (x : ℕ × Bool). x.0) e

fits_passed : (turns : List Turn) (turn : Turn) (owner : ℕ → ℕ) (place : ℕ → ℕ × Bool) (tickets id j : ℕ) (v u : View) → j ≢ id → owner (length turns) ≡ id → IsLegal v.origin.made_at (entries turns) → MayTurn v (entries turns) turn
    → Placed place (id, false) v.number → Placed place (id, true) v.other → ViewFitsRule v.origin turns owner place tickets j u → ViewFitsRule v.origin (turns ++ turn ∷ []) owner (placed_in place id turn) tickets j u
fits_passed turns turn owner place tickets id j v u apart own legal m a b f =
    let l : (side : Bool) → Leaves v.origin place (placed_in place id turn) (entries turns) (entries (turns ++ turn ∷ [])) (j, side) = λ side. leaves_turn place id v turns turn (j, side) legal m a b (λ e. apart (sym (first_of _ _ e))) (λ e. apart (sym (first_of _ _ e))) in
    let x = known_more v.origin place (placed_in place id turn) (entries turns) (entries (turns ++ turn ∷ [])) (j, false) u.mine u.number (l false) f.own_entries f.own_place in
    let y = known_more v.origin place (placed_in place id turn) (entries turns) (entries (turns ++ turn ∷ [])) (j, true) u.theirs u.other (l true) f.other f.other_place in
    record { same = f.same; begins = prefix_more u.seen turns (turn ∷ []) f.begins; before = all_more v.origin u.earlier turns (turn ∷ []) f.before; staged = staged_passed turns turn owner tickets id j u.seen u.stage apart own f.staged; own_entries = x.0; own_place = x.1; other = y.0; other_place = y.1 }

-- the view that made the entry
fits_entry : (v : View) (e : Entry) (owner : ℕ → ℕ) (place : ℕ → ℕ × Bool) (tickets id : ℕ) (what : HandleAct) → e.what ≡ what → IsLegal v.origin.made_at (entries v.seen) → may (state_of_history v.origin.made_at (entries v.seen)) (entry e.caller e.at what) ≡ true
    → v.number ≡ Some e.caller → MayEnd v.other what → ViewFitsRule v.origin v.seen owner place tickets id v → ViewFitsRule v.origin (v.seen ++ Some e ∷ []) owner (placed_by place id what) tickets id (passed_by v (v.seen ++ Some e ∷ []) e what)
fits_entry v e owner place tickets id what is legal m num ends f = entry_by what is m ends
  where
    log : List Entry
    log = entries v.seen

    own : (entries_by e.caller (entries v.seen) ≡ v.mine) × IsHeld v.origin.made_at e.caller (entries v.seen)
    own = known_at v.origin (entries v.seen) v.mine v.number e.caller num f.own_entries

    place_own : place e.caller ≡ (id, false)
    place_own = at_own place (id, false) v.number e.caller num f.own_place

    before : AllBegin v.origin v.earlier (v.seen ++ Some e ∷ [])
    before = all_more v.origin v.earlier v.seen (Some e ∷ []) f.before

    -- its own number has one entry more
    own_more : Spares e.caller e.caller e.what → Known v.origin (entries (v.seen ++ Some e ∷ [])) (v.mine ++ e ∷ []) v.number
    own_more spares =
        subst (λ (ls : List Entry). Known v.origin ls (v.mine ++ e ∷ []) v.number) (sym (entries_some v.seen e))
        (subst (Known v.origin (entries v.seen ++ e ∷ []) (v.mine ++ e ∷ [])) (sym num) (by_own e.caller (entries v.seen) e refl ∙ ap (λ (l : List Entry). l ++ e ∷ []) own.0, held_push v.origin.made_at e.caller (entries v.seen) e spares own.1))

    -- its other number is left alone
    other_more : (w : HandleAct) → e.what ≡ w → may (state_of_history v.origin.made_at (entries v.seen)) (entry e.caller e.at w) ≡ true → ((j : ℕ) → w ≡ Join j → ⊥) → Known v.origin (entries (v.seen ++ Some e ∷ [])) v.theirs v.other × Placed (placed_by place id w) (id, true) v.other
    other_more w is m none =
        let l = leaves_entry v.origin place id (entries v.seen) e (id, true) w is legal m (λ h. sides id (sym place_own ∙ h)) (λ j s h. none j s) in
        let y = known_more v.origin place (placed_by place id w) (entries v.seen) (entries v.seen ++ e ∷ []) (id, true) v.theirs v.other l f.other f.other_place in
        (subst (λ (ls : List Entry). Known v.origin ls v.theirs v.other) (sym (entries_some v.seen e)) y.0, y.1)

    entry_by : (what : HandleAct) → e.what ≡ what → may (state_of_history v.origin.made_at (entries v.seen)) (entry e.caller e.at what) ≡ true → MayEnd v.other what → ViewFitsRule v.origin (v.seen ++ Some e ∷ []) owner (placed_by place id what) tickets id (passed_by v (v.seen ++ Some e ∷ []) e what)
    entry_by (Call op) is m ends =
        let y = other_more (Call op) is m (λ j no. absurd cc) in
        record {
          same = λ _. refl;
          begins = prefix_self (v.seen ++ Some e ∷ []);
          before = before;
          staged = tt;
          own_entries = own_more (subst (Spares e.caller e.caller) (sym is) tt);
          own_place = f.own_place;
          other = y.0;
          other_place = y.1;
        }
    entry_by (Clone n) is m ends =
        let new : e.caller ≢ n = fresh v.origin.made_at (entries v.seen) e.caller e.at n e.caller legal m own.1 in
        let miss : (e.caller == n) ≡ false = grind (arith, nat_tests) in
        let hit : (n == n) ≡ true = grind (arith, nat_tests) in
        record {
          same = λ _. refl;
          begins = prefix_self (v.seen ++ Some e ∷ []);
          before = before;
          staged = tt;
          own_entries = own_more (subst (Spares e.caller e.caller) (sym is) tt);
          own_place = subst (Placed (placed_by place id (Clone n)) (id, false)) (sym num) (rw miss place_own);
          other = subst (λ (ls : List Entry). Known v.origin ls [] (Some n)) (sym (entries_some v.seen e)) (by_other n (entries v.seen) e new ∙ fresh_entries v.origin.made_at (entries v.seen) e.caller e.at n legal m, subst (λ (x : Entry). IsHeld v.origin.made_at n (entries v.seen ++ x ∷ [])) (λ i. entry e.caller e.at (sym is i)) (held_new v.origin.made_at (entries v.seen) e.caller e.at n));
          other_place = rw hit refl;
        }
    entry_by (Join j) is m ends =
        let apart : e.caller ≢ j = λ same. sides id (sym place_own ∙ ap place same ∙ at_own place (id, true) v.other j ends f.other_place) in
        record {
          same = λ _. refl;
          begins = prefix_self (v.seen ++ Some e ∷ []);
          before = before;
          staged = tt;
          own_entries = own_more (subst (Spares e.caller e.caller) (sym is) apart);
          own_place = f.own_place;
          other = tt;
          other_place = tt;
        }
    entry_by Release is m ends =
        let y = other_more Release is m (λ j no. absurd cc) in
        record {
          same = λ _. refl;
          begins = prefix_self (v.seen ++ Some e ∷ []);
          before = before;
          staged = tt;
          own_entries = tt;
          own_place = tt;
          other = y.0;
          other_place = y.1;
        }

fits_own : (v : View) (turn : Turn) (owner : ℕ → ℕ) (place : ℕ → ℕ × Bool) (tickets id : ℕ) → IsLegal v.origin.made_at (entries v.seen) → MayTurn v (entries v.seen) turn → ViewFitsRule v.origin v.seen owner place tickets id v
    → ViewFitsRule v.origin (v.seen ++ turn ∷ []) owner (placed_in place id turn) tickets id (view_after v turn)
fits_own v None owner place tickets id legal m f = record {
  same = λ _. refl;
  begins = prefix_self (v.seen ++ None ∷ []);
  before = all_more v.origin v.earlier v.seen (None ∷ []) f.before;
  staged = tt;
  own_entries = subst (λ (ls : List Entry). Known v.origin ls v.mine v.number) (sym (entries_none v.seen)) f.own_entries;
  own_place = f.own_place;
  other = subst (λ (ls : List Entry). Known v.origin ls v.theirs v.other) (sym (entries_none v.seen)) f.other;
  other_place = f.other_place;
}
fits_own v (Some e) owner place tickets id legal m f = fits_entry v e owner place tickets id e.what refl legal m.0 m.1 m.2 f

legal_turn : (v : View) (turns : List Turn) (turn : Turn) → IsLegal v.origin.made_at (entries turns) → MayTurn v (entries turns) turn → IsLegal v.origin.made_at (entries (turns ++ turn ∷ []))
legal_turn v turns None legal m = ap (is_legal (start v.origin.made_at)) (entries_none turns) ∙ legal
legal_turn v turns (Some e) legal m = ap (is_legal (start v.origin.made_at)) (entries_some turns e) ∙ legal_push (start v.origin.made_at) (entries turns) e legal m.0

-- what the slot has in the turn that comes home
abbrev pub Back : View → Turn → List (ℕ × Slot)
Back v turn = (0, home_of v.origin (entries (v.seen ++ turn ∷ []))) ∷ []

passed_case : (f : ℕ → ℕ) (id t : ℕ) (v : View) (turn : Turn) → ((n : ℕ) → n ≡ t → n < MAX_TURNS → f n ≡ n + 1) → v.stage ≡ Holds t → MayTurn v (entries v.seen) turn
    → (turns : List Turn) (owner : ℕ → ℕ) (place : ℕ → ℕ × Bool) (tickets : ℕ) (home : core.Option Slot) (views : List View) → KeepsRule v.origin turns owner place tickets home views → get_elem? views id ≡ core.some v
    → (length turns ≡ t) × (t < tickets) × (owner t ≡ id) × (v.seen ≡ turns)
    → Goes v.origin f 0 id (v, Back v turn) (λ n w. w ≡ (view_after v turn, [])) (length turns ∷ tickets ∷ []) (home ∷ []) views
passed_case f id t v turn adds holds may turns owner place tickets home views r at s =
    let r' : KeepsRule v.origin v.seen owner place tickets home views = subst (λ (ts : List Turn). KeepsRule v.origin ts owner place tickets home views) (sym s.3) r in
    let long : length v.seen ≡ t = ap length s.3 ∙ s.0 in
    let own : owner (length v.seen) ≡ id = ap owner long ∙ s.2 in
    let fit = r'.each id v at in
    let w = view_after v turn in
    let place' = placed_in place id turn in
    let more = v.seen ++ turn ∷ [] in
    let ruled : KeepsRule v.origin more owner place' tickets (core.some (home_of v.origin (entries more))) (set views id w) = record {
      capped = r.capped;
      behind = omega (arith, long, s.1, length-append v.seen (turn ∷ []));
      legal = legal_turn v v.seen turn r'.legal may;
      at_home = inl refl;
      each = fits_set v.origin more owner place' tickets views id w (λ j u apart e. fits_passed v.seen turn owner place tickets id j v u apart own r'.legal may fit.own_place fit.other_place (r'.each j u e)) (fits_own v turn owner place tickets id r'.legal may fit);
    } in
    let count : f (length turns) ≡ length more = adds (length turns) s.0 (omega (arith, s.0, s.1, r.capped)) ∙ omega (arith, s.0, long, length-append v.seen (turn ∷ [])) in (
      w,
      gives,
      tt,
      record { turns = more; owner = owner; place = place'; tickets = tickets; home = core.some (home_of v.origin (entries more)); words = ap (λ (k : ℕ). k ∷ tickets ∷ []) count; homes = refl; ruled = ruled },
      refl,
    )

passes : (making : Making) (f : ℕ → ℕ) (slots id t : ℕ) (v : View) (turn : Turn) → ((n : ℕ) → n ≡ t → n < MAX_TURNS → f n ≡ n + 1) → v.stage ≡ Holds t → v.live ≡ true → MayTurn v (entries v.seen) turn
    → Allows (KeepsWords making) slots id (v, Back v turn) 0 f (λ n w. w ≡ (view_after v turn, []))
passes making f slots id t v turn adds holds live may = allows making slots f 0 id (v, Back v turn) (λ n w. w ≡ (view_after v turn, [])) live
    (λ turns owner place tickets home views r at. passed_case f id t v turn adds holds may turns owner place tickets home views r at (subst (Staged turns owner tickets id v.seen) holds (r.each id v at).staged))

one_more : (t n : ℕ) → n ≡ t → n < MAX_TURNS → (n + 1) % 2 ^ 64 ≡ n + 1
one_more t n is low = let small : n + 1 < 2 ^ 64 = omega (arith, low) in mod-eq_of_lt small

to_next : (t n : ℕ) → n ≡ t → n < MAX_TURNS → either (n == t) (t + 1) n ≡ n + 1
to_next t n is low = let yes : (n == t) ≡ true = grind (arith, nat_tests) in rw yes (omega (arith, is))

-- as a caller meets it: the slot has the history with this turn, and some handle is held
pub passes_on : (making : Making) (slots id t : ℕ) (me : SeatValue) (turn : Turn) → me.0.stage ≡ Holds t → me.0.live ≡ true → MayTurn me.0 (entries me.0.seen) turn
    → me.1 ≡ (0, Some (shared_of me.0.origin (entries (me.0.seen ++ turn ∷ [])))) ∷ [] → home_of me.0.origin (entries (me.0.seen ++ turn ∷ [])) ≡ Some (shared_of me.0.origin (entries (me.0.seen ++ turn ∷ [])))
    → Allows (KeepsWords making) slots id me 0 (λ n. (n + 1) % 2 ^ 64) (PassedOn (step slots 0 1 0 core.none) me)
passes_on making slots id t me turn holds live may slot full =
    let back : Back me.0 turn ≡ me.1 = ap (λ (x : Slot). (0, x) ∷ []) full ∙ sym slot in
    let base : Allows (KeepsWords making) slots id (me.0, me.1) 0 (λ n. (n + 1) % 2 ^ 64) (λ n w. w ≡ (view_after me.0 turn, [])) = subst (λ (c : List (ℕ × Slot)). Allows (KeepsWords making) slots id (me.0, c) 0 (λ n. (n + 1) % 2 ^ 64) (λ n w. w ≡ (view_after me.0 turn, []))) back (passes making (λ n. (n + 1) % 2 ^ 64) slots id t me.0 turn (one_more t) holds live may) in
    λ s k len at wide. let x = base s k len at wide in (x.0, x.1, x.2, x.3, (turn, slot, x.4))

-- as the last release meets it: the slot is empty, and what it had is told
pub closes : (making : Making) (slots id t : ℕ) (me : SeatValue) (turn : Turn) (said : Slot) → me.0.stage ≡ Holds t → me.0.live ≡ true → MayTurn me.0 (entries me.0.seen) turn
    → me.1 ≡ (0, None) ∷ [] → said ≡ Some (shared_of me.0.origin (entries (me.0.seen ++ turn ∷ []))) → home_of me.0.origin (entries (me.0.seen ++ turn ∷ [])) ≡ None
    → Allows (KeepsWords making) slots id me 0 (λ n. either (n == t) (t + 1) n) (Closed (step slots 0 t (t + 1) (core.some said)) me)
closes making slots id t me turn said holds live may slot is none =
    let back : Back me.0 turn ≡ me.1 = ap (λ (x : Slot). (0, x) ∷ []) none ∙ sym slot in
    let base : Allows (KeepsWords making) slots id (me.0, me.1) 0 (λ n. either (n == t) (t + 1) n) (λ n w. w ≡ (view_after me.0 turn, [])) = subst (λ (c : List (ℕ × Slot)). Allows (KeepsWords making) slots id (me.0, c) 0 (λ n. either (n == t) (t + 1) n) (λ n w. w ≡ (view_after me.0 turn, []))) back (passes making (λ n. either (n == t) (t + 1) n) slots id t me.0 turn (to_next t) holds live may) in
    λ s k len at wide. let x = base s k len at wide in (x.0, x.1, x.2, x.3, (turn, ap core.some is, x.4))
