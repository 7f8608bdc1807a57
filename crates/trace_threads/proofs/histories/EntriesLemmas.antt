-- What one turn of a handle comes to.
use Rattle.std.proofs.Common.{◌≡◌, ◌≢◌, ℕ, zero, suc, ◌+◌, ◌<◌, ◌^◌, Bool, true, false, List, [], ◌∷◌, ◌++◌, length, refl, ap, sym, ◌∙◌, subst, arith, Some, None, Option}
use Rattle.trace_threads.proofs.Common.{IsPrefix, Making, Entry, HandleAct, Clone, Call, Join, Release, Op, View, Idle, move_of, count, open_count_after, start, is_legal, IsLegal, may, may_do, may_move, has, entries_by, IsHeld, HasNoneOpen, written_entry, is_closed, open_count, move_in, SharedSpanValue, shared_of, some_making, reply_at, Turn, Slot, SeatValue, entries, home_of, AllBegin, view_after, passed_by, MayTurn, MayEnd, left_of, right_of, both_of, IsIdle, IsBare, IsAtRest, Begun, MakesEntry, Called, MakesNoEntry, MayFinish, MayClose, IsCloneOf, ClosesWith}
use Rattle.otel_state.specs.declared.op.Op.TheVariants as ops
use Rattle.otel_state.specs.declared.op.OpReply.{OpReply}
use Rattle.trace_threads.specs.History.{state_of_history}
use Rattle.trace_threads.proofs.histories.HoldersLemmas.{few, counted, counted_none}
use Rattle.trace_threads.proofs.histories.OpenEntriesLemmas.{own_count, opens_push}
use Rattle.trace_threads.proofs.histories.HistoriesLemmas.{legal_push, held_push, by_own, by_other, may_any, may_clone, may_join, may_release, Spares, fresh, fresh_entries}
use Rattle.trace_threads.proofs.queue.SeatsLemmas.{prefix_more}
use Rattle.trace_threads.proofs.queue.PassesLemmas.{entries_none, entries_some, known_at}
use Rattle.trace_threads.proofs.queue.TurnLemmas.{home_held}

-- the turn that was passed on is the one that was meant
same_turn : (ts : List Turn) (x y : Turn) → entries (ts ++ x ∷ []) ≡ entries (ts ++ y ∷ []) → x ≡ y
same_turn [] None None e = refl
same_turn [] None (Some b) e = absurd cc
same_turn [] (Some a) None e = absurd cc
same_turn [] (Some a) (Some b) e = cc e
same_turn (None ∷ ts) x y e = same_turn ts x y e
same_turn (Some a ∷ ts) x y e = same_turn ts x y (cc e)

by_seen : (v : View) (seen : List Turn) (e : Entry) (what : HandleAct) → (passed_by v seen e what).seen ≡ seen
by_seen v seen e (Clone n) = refl
by_seen v seen e (Call op) = refl
by_seen v seen e (Join n) = refl
by_seen v seen e Release = refl

by_mine : (v : View) (seen : List Turn) (e : Entry) (what : HandleAct) → (passed_by v seen e what).mine ≡ v.mine ++ e ∷ []
by_mine v seen e (Clone n) = refl
by_mine v seen e (Call op) = refl
by_mine v seen e (Join n) = refl
by_mine v seen e Release = refl

by_idle : (v : View) (seen : List Turn) (e : Entry) (what : HandleAct) → ((passed_by v seen e what).stage ≡ Idle) × ((passed_by v seen e what).live ≡ true) × ((passed_by v seen e what).origin ≡ v.origin)
by_idle v seen e (Clone n) = (refl, refl, refl)
by_idle v seen e (Call op) = (refl, refl, refl)
by_idle v seen e (Join n) = (refl, refl, refl)
by_idle v seen e Release = (refl, refl, refl)

-- ---- what a handle's own entries tell of the whole history

open_of : (made k n : ℕ) (log mine : List Entry) → entries_by k log ≡ mine → open_count mine ≡ n → count k (state_of_history made log).inside ≡ n
open_of made k n log mine own e = own_count made k log ∙ ap open_count own ∙ e

out_of : (made k : ℕ) (log mine : List Entry) → entries_by k log ≡ mine → open_count mine ≡ 0 → HasNoneOpen made k log
out_of made k log mine own e = counted_none k (state_of_history made log).inside (open_of made k 0 log mine own e)

inside_case : (n k : ℕ) (i : List ℕ) → count k i ≡ n → 0 < n → has k i ≡ true
inside_case zero k i e l = absurd (omega (arith, l))
inside_case (suc n) k i e l = counted k n i e

may_own : (made k : ℕ) (log mine : List Entry) (op : Op) → entries_by k log ≡ mine → (op ≡ ops.Exit → 0 < open_count mine) → may_move (state_of_history made log).inside k (move_of op) ≡ true
may_own made k log mine ops.Exit own l = inside_case (open_count mine) k (state_of_history made log).inside (open_of made k (open_count mine) log mine own refl) (l refl)
may_own made k log mine _ own l = refl

pub few_own : (made k : ℕ) (log mine : List Entry) → entries_by k log ≡ mine → length (state_of_history made log).inside < 2 ^ 63 → open_count mine < 2 ^ 63
few_own made k log mine own l = let a = open_of made k (open_count mine) log mine own refl in let b = few k (state_of_history made log).inside in omega (arith, a, b, l)

-- ---- an entry of any kind

module _ (m w : SeatValue) (t : ℕ) (state : SharedSpanValue) (k : ℕ) (num : m.0.number ≡ Some k) (b : Begun m w t state) where
  pub held : (entries_by k (entries w.0.seen) ≡ m.0.mine) × IsHeld m.0.origin.made_at k (entries w.0.seen)
  held = known_at m.0.origin (entries w.0.seen) m.0.mine m.0.number k num b.own_entries

  pub held_in : IsHeld state.making.made_at k state.log
  held_in = subst (λ (s : SharedSpanValue). IsHeld s.making.made_at k s.log) (sym b.state) held.1

  pub own_in : entries_by k state.log ≡ m.0.mine
  own_in = subst (λ (s : SharedSpanValue). entries_by k s.log ≡ m.0.mine) (sym b.state) held.0

  same_origin : w.0.origin ≡ m.0.origin
  same_origin = ap (λ (x : View). x.origin) b.view

  pub is_live : w.0.live ≡ true
  is_live = ap (λ (x : View). x.live) b.view

  module _ (at : ℕ) (what : HandleAct) where
    may_now : may_do (state_of_history m.0.origin.made_at (entries w.0.seen)) k what ≡ true → may (state_of_history m.0.origin.made_at (entries w.0.seen)) (written_entry m.0.origin.made_at (entries w.0.seen) k at what) ≡ true
    may_now can = may_any (state_of_history m.0.origin.made_at (entries w.0.seen)) k at what held.1 can

    may_turn : may_do (state_of_history m.0.origin.made_at (entries w.0.seen)) k what ≡ true → MayEnd m.0.other what → MayTurn w.0 (entries w.0.seen) (Some (written_entry m.0.origin.made_at (entries w.0.seen) k at what))
    may_turn can ends = (
      ap (λ (o : Making). may (state_of_history o.made_at (entries w.0.seen)) (written_entry m.0.origin.made_at (entries w.0.seen) k at what)) same_origin ∙ may_now can,
      ap (λ (x : View). x.number) b.view ∙ num,
      subst (λ (o : Option ℕ). MayEnd o what) (sym (ap (λ (x : View). x.other) b.view)) ends,
    )

    entry_state : (s : SharedSpanValue) → s ≡ shared_of state.making (state.log ++ written_entry state.making.made_at state.log k at what ∷ []) → s ≡ shared_of w.0.origin (entries (w.0.seen ++ Some (written_entry m.0.origin.made_at (entries w.0.seen) k at what) ∷ []))
    entry_state s is = is ∙ ap (λ (x : SharedSpanValue). shared_of x.making (x.log ++ written_entry x.making.made_at x.log k at what ∷ [])) b.state
        ∙ (λ i. shared_of (sym same_origin i) (sym (entries_some w.0.seen (written_entry m.0.origin.made_at (entries w.0.seen) k at what)) i))

    pub entry_turn : may_do (state_of_history m.0.origin.made_at (entries w.0.seen)) k what ≡ true → MayEnd m.0.other what → (s : SharedSpanValue) → s ≡ shared_of state.making (state.log ++ written_entry state.making.made_at state.log k at what ∷ [])
        → home_of w.0.origin (entries (w.0.seen ++ Some (written_entry m.0.origin.made_at (entries w.0.seen) k at what) ∷ [])) ≡ Some (shared_of w.0.origin (entries (w.0.seen ++ Some (written_entry m.0.origin.made_at (entries w.0.seen) k at what) ∷ []))) → MayFinish w.0 s
    entry_turn can ends s is home = (t, Some (written_entry m.0.origin.made_at (entries w.0.seen) k at what), ap (λ (x : View). x.stage) b.view, entry_state s is, home, may_turn can ends)

    pub last_turn : may_do (state_of_history m.0.origin.made_at (entries w.0.seen)) k what ≡ true → MayEnd m.0.other what → (s : SharedSpanValue) → s ≡ shared_of state.making (state.log ++ written_entry state.making.made_at state.log k at what ∷ [])
        → home_of w.0.origin (entries (w.0.seen ++ Some (written_entry m.0.origin.made_at (entries w.0.seen) k at what) ∷ [])) ≡ None → MayClose w.0 t (Some s)
    last_turn can ends s is home = (Some (written_entry m.0.origin.made_at (entries w.0.seen) k at what), ap (λ (x : View). x.stage) b.view, ap (λ (x : SharedSpanValue). Some x) (entry_state s is), home, may_turn can ends)

    -- who isn't ended by it is held afterwards
    pub still_home : Spares k k what → home_of w.0.origin (entries (w.0.seen ++ Some (written_entry m.0.origin.made_at (entries w.0.seen) k at what) ∷ [])) ≡ Some (shared_of w.0.origin (entries (w.0.seen ++ Some (written_entry m.0.origin.made_at (entries w.0.seen) k at what) ∷ [])))
    still_home spares =
        let e = written_entry m.0.origin.made_at (entries w.0.seen) k at what in
        home_held w.0.origin k (entries (w.0.seen ++ Some (written_entry m.0.origin.made_at (entries w.0.seen) k at what) ∷ []))
        (subst (λ (p : Making × List Entry). IsHeld p.0.made_at k p.1) (λ i. (sym same_origin i, sym (entries_some w.0.seen (written_entry m.0.origin.made_at (entries w.0.seen) k at what)) i)) (held_push m.0.origin.made_at k (entries w.0.seen) e spares held.1))

    module _ (s : SharedSpanValue) (is : s ≡ shared_of state.making (state.log ++ written_entry state.making.made_at state.log k at what ∷ [])) (u : SeatValue) (turn : Turn) (back : s ≡ shared_of w.0.origin (entries (w.0.seen ++ turn ∷ []))) (after : u ≡ (view_after w.0 turn, [])) where
      pub after_entry : u ≡ (view_after w.0 (Some (written_entry m.0.origin.made_at (entries w.0.seen) k at what)), [])
      after_entry = after ∙ ap (λ (x : Turn). (view_after w.0 x, [])) (same_turn w.0.seen turn (Some (written_entry m.0.origin.made_at (entries w.0.seen) k at what)) (ap (λ (x : SharedSpanValue). x.log) (sym back ∙ entry_state s is)))

      seen_after : u.0.seen ≡ w.0.seen ++ Some (written_entry m.0.origin.made_at (entries w.0.seen) k at what) ∷ []
      seen_after = ap (λ (x : SeatValue). x.0.seen) after_entry ∙ by_seen w.0 (w.0.seen ++ Some (written_entry m.0.origin.made_at (entries w.0.seen) k at what) ∷ []) (written_entry m.0.origin.made_at (entries w.0.seen) k at what) what

      pub log_after : entries u.0.seen ≡ entries w.0.seen ++ written_entry m.0.origin.made_at (entries w.0.seen) k at what ∷ []
      log_after = ap entries seen_after ∙ entries_some w.0.seen (written_entry m.0.origin.made_at (entries w.0.seen) k at what)

      mine_after : u.0.mine ≡ m.0.mine ++ written_entry m.0.origin.made_at (entries w.0.seen) k at what ∷ []
      mine_after = ap (λ (x : SeatValue). x.0.mine) after_entry ∙ by_mine w.0 (w.0.seen ++ Some (written_entry m.0.origin.made_at (entries w.0.seen) k at what) ∷ []) (written_entry m.0.origin.made_at (entries w.0.seen) k at what) what
          ∙ ap (λ (x : View). x.mine ++ written_entry m.0.origin.made_at (entries w.0.seen) k at what ∷ []) b.view

      pub own_after : entries_by k (entries u.0.seen) ≡ u.0.mine
      own_after = ap (entries_by k) log_after ∙ by_own k (entries w.0.seen) (written_entry m.0.origin.made_at (entries w.0.seen) k at what) refl ∙ ap (λ (l : List Entry). l ++ written_entry m.0.origin.made_at (entries w.0.seen) k at what ∷ []) held.0 ∙ sym mine_after

      idle_by : ((view_after w.0 (Some (written_entry m.0.origin.made_at (entries w.0.seen) k at what))).stage ≡ Idle) × ((view_after w.0 (Some (written_entry m.0.origin.made_at (entries w.0.seen) k at what))).live ≡ true) × ((view_after w.0 (Some (written_entry m.0.origin.made_at (entries w.0.seen) k at what))).origin ≡ w.0.origin)
      idle_by = by_idle w.0 (w.0.seen ++ Some (written_entry m.0.origin.made_at (entries w.0.seen) k at what) ∷ []) (written_entry m.0.origin.made_at (entries w.0.seen) k at what) what

      pub idle_after : IsIdle u
      idle_after = (ap (λ (x : SeatValue). x.1) after_entry, ap (λ (x : SeatValue). x.0.stage) after_entry ∙ idle_by.0, ap (λ (x : SeatValue). x.0.live) after_entry ∙ idle_by.1)

      -- an earlier view's list, which begins what the holder of the turn saw
      module _ (v : View) (begins : IsPrefix v.seen w.0.seen) (mine : m.0.mine ≡ v.mine) (origin : m.0.origin ≡ v.origin) where
        pub made : may_do (state_of_history m.0.origin.made_at (entries w.0.seen)) k what ≡ true → MakesEntry v u.0 k at what
        made can = record {
          between = begins.0;
          ends = seen_after ∙ (λ i. sym begins.1 i ++ Some (written_entry (origin i).made_at (entries (sym begins.1 i)) k at what) ∷ []);
          mine = mine_after ∙ (λ i. mine i ++ written_entry (origin i).made_at (entries (sym begins.1 i)) k at what ∷ []);
          own_entries = own_after;
          legal = subst (λ (p : Making × List Entry). IsLegal p.0.made_at p.1) (λ i. (origin i, sym log_after i)) (legal_push (start m.0.origin.made_at) (entries w.0.seen) (written_entry m.0.origin.made_at (entries w.0.seen) k at what) b.legal (may_now can));
          same = ap (λ (x : SeatValue). x.0.origin) after_entry ∙ idle_by.2 ∙ same_origin ∙ origin;
        }

      pub prefix_after : (xs : List Turn) → IsPrefix xs w.0.seen → IsPrefix xs u.0.seen
      prefix_after xs p = subst (IsPrefix xs) (sym seen_after) (prefix_more xs w.0.seen (Some (written_entry m.0.origin.made_at (entries w.0.seen) k at what) ∷ []) p)

  -- ---- a turn without an entry

  pub empty_turn : (s : SharedSpanValue) → s ≡ state → MayFinish w.0 s
  empty_turn s is = (
    t,
    None,
    ap (λ (x : View). x.stage) b.view,
    is ∙ b.state ∙ (λ i. shared_of (sym same_origin i) (sym (entries_none w.0.seen) i)),
    home_held w.0.origin k (entries (w.0.seen ++ None ∷ [])) (subst (λ (p : Making × List Entry). IsHeld p.0.made_at k p.1) (λ i. (sym same_origin i, sym (entries_none w.0.seen) i)) held.1),
    tt,
  )

  module _ (other : m.0.other ≡ None) (s : SharedSpanValue) (is : s ≡ state) (u : SeatValue) (turn : Turn) (back : s ≡ shared_of w.0.origin (entries (w.0.seen ++ turn ∷ []))) (after : u ≡ (view_after w.0 turn, [])) where
    after_none : u ≡ (view_after w.0 None, [])
    after_none = after ∙ ap (λ (x : Turn). (view_after w.0 x, [])) (same_turn w.0.seen turn None (ap (λ (x : SharedSpanValue). x.log) (sym back ∙ is ∙ b.state) ∙ sym (entries_none w.0.seen)))

    log_still : entries u.0.seen ≡ entries w.0.seen
    log_still = ap (λ (x : SeatValue). entries x.0.seen) after_none ∙ entries_none w.0.seen

    own_still : entries_by k (entries u.0.seen) ≡ u.0.mine
    own_still = ap (entries_by k) log_still ∙ held.0 ∙ sym (ap (λ (x : SeatValue). x.0.mine) after_none ∙ ap (λ (x : View). x.mine) b.view)

    pub rest_after_none : IsAtRest u k
    rest_after_none = (
      (ap (λ (x : SeatValue). x.1) after_none, ap (λ (x : SeatValue). x.0.stage) after_none, ap (λ (x : SeatValue). x.0.live) after_none),
      ap (λ (x : SeatValue). x.0.number) after_none ∙ ap (λ (x : View). x.number) b.view ∙ num,
      ap (λ (x : SeatValue). x.0.other) after_none ∙ ap (λ (x : View). x.other) b.view ∙ other,
      own_still,
    )

    pub refused : MakesNoEntry m.0 u.0 k
    refused = record {
      begins = subst (IsPrefix m.0.seen) (sym (ap (λ (x : SeatValue). x.0.seen) after_none)) (prefix_more m.0.seen w.0.seen (None ∷ []) b.begins);
      mine = ap (λ (x : SeatValue). x.0.mine) after_none ∙ ap (λ (x : View). x.mine) b.view;
      own_entries = own_still;
      legal = ap (is_legal (start m.0.origin.made_at)) log_still ∙ b.legal;
      same = ap (λ (x : SeatValue). x.0.origin) after_none ∙ same_origin;
    }

-- ---- a call

module _ (m w : SeatValue) (t : ℕ) (state : SharedSpanValue) (k : ℕ) (r : IsAtRest m k) (b : Begun m w t state) (at : ℕ) (op : Op) (l : op ≡ ops.Exit → 0 < open_count m.0.mine) where
  pub call_own : may_move (state_of_history state.making.made_at state.log).inside k (move_of op) ≡ true
  call_own = may_own state.making.made_at k state.log m.0.mine op (own_in m w t state k r.1 b) l

  can_call : may_do (state_of_history m.0.origin.made_at (entries w.0.seen)) k (Call op) ≡ true
  can_call = may_own m.0.origin.made_at k (entries w.0.seen) m.0.mine op (held m w t state k r.1 b).0 l

  module _ (s : SharedSpanValue) (is : s ≡ shared_of state.making (state.log ++ written_entry state.making.made_at state.log k at (Call op) ∷ [])) where
    pub call_turn : MayFinish w.0 s
    call_turn = entry_turn m w t state k r.1 b at (Call op) can_call tt s is (still_home m w t state k r.1 b at (Call op) tt)

    module _ (u : SeatValue) (turn : Turn) (back : s ≡ shared_of w.0.origin (entries (w.0.seen ++ turn ∷ []))) (after : u ≡ (view_after w.0 turn, [])) where
      call_after : u ≡ (view_after w.0 (Some (written_entry m.0.origin.made_at (entries w.0.seen) k at (Call op))), [])
      call_after = after_entry m w t state k r.1 b at (Call op) s is u turn back after

      pub call_rest : IsAtRest u k
      call_rest = (
        idle_after m w t state k r.1 b at (Call op) s is u turn back after,
        ap (λ (x : SeatValue). x.0.number) call_after ∙ ap (λ (x : View). x.number) b.view ∙ r.1,
        ap (λ (x : SeatValue). x.0.other) call_after ∙ ap (λ (x : View). x.other) b.view ∙ r.2,
        own_after m w t state k r.1 b at (Call op) s is u turn back after,
      )

      pub called : (place : ℕ) (reply : OpReply) → place ≡ length state.log → reply ≡ reply_at state.making state.log op → Called m.0 u.0 k at op place reply
      unfolding made
      called place reply at_place told = record {
        made = made m w t state k r.1 b at (Call op) s is u turn back after m.0 b.begins refl refl can_call;
        at_place = at_place ∙ ap (λ (x : SharedSpanValue). length x.log) b.state ∙ ap (λ (x : List Turn). length (entries x)) (sym b.begins.1);
        replied = told ∙ ap (λ (x : SharedSpanValue). reply_at x.making x.log op) b.state ∙ ap (λ (x : List Turn). reply_at m.0.origin (entries x) op) (sym b.begins.1);
      }

      pub call_few : length (state_of_history s.making.made_at s.log).inside < 2 ^ 63 → open_count u.0.mine < 2 ^ 63
      call_few f = few_own s.making.made_at k s.log u.0.mine (ap (λ (x : SharedSpanValue). entries_by k x.log) (is ∙ ap (λ (x : SharedSpanValue). shared_of x.making (x.log ++ written_entry x.making.made_at x.log k at (Call op) ∷ [])) b.state) ∙ ap (entries_by k) (sym (log_after m w t state k r.1 b at (Call op) s is u turn back after)) ∙ own_after m w t state k r.1 b at (Call op) s is u turn back after) f

-- ---- a clone, and the seat that is cut off after it

module _ (m w : SeatValue) (t : ℕ) (state : SharedSpanValue) (k : ℕ) (r : IsAtRest m k) (b : Begun m w t state) (at n : ℕ) (is_next : n ≡ (state_of_history state.making.made_at state.log).clones + 1) where
  can_clone : may_do (state_of_history m.0.origin.made_at (entries w.0.seen)) k (Clone n) ≡ true
  can_clone = may_clone (state_of_history m.0.origin.made_at (entries w.0.seen)).clones n (is_next ∙ ap (λ (x : SharedSpanValue). (state_of_history x.making.made_at x.log).clones + 1) b.state)

  module _ (s : SharedSpanValue) (is : s ≡ shared_of state.making (state.log ++ written_entry state.making.made_at state.log k at (Clone n) ∷ [])) where
    pub clone_turn : MayFinish w.0 s
    clone_turn = entry_turn m w t state k r.1 b at (Clone n) can_clone r.2 s is (still_home m w t state k r.1 b at (Clone n) tt)

    module _ (u : SeatValue) (turn : Turn) (back : s ≡ shared_of w.0.origin (entries (w.0.seen ++ turn ∷ []))) (after : u ≡ (view_after w.0 turn, [])) where
      pub clone_after : u ≡ (view_after w.0 (Some (written_entry m.0.origin.made_at (entries w.0.seen) k at (Clone n))), [])
      clone_after = after_entry m w t state k r.1 b at (Clone n) s is u turn back after

      pub clone_live : u.0.live ≡ true
      clone_live = (idle_after m w t state k r.1 b at (Clone n) s is u turn back after).2

      module _ (p q : SeatValue) (left : p ≡ (left_of u.0, u.1)) (right : q ≡ (right_of u.0, [])) where
        clone_idle : IsIdle u
        clone_idle = idle_after m w t state k r.1 b at (Clone n) s is u turn back after

        pub clone_rest : IsAtRest p k
        clone_rest = (
          (ap (λ (x : SeatValue). x.1) left ∙ clone_idle.0, ap (λ (x : SeatValue). x.0.stage) left ∙ clone_idle.1, ap (λ (x : SeatValue). x.0.live) left),
          ap (λ (x : SeatValue). x.0.number) left ∙ ap (λ (x : SeatValue). x.0.number) clone_after ∙ ap (λ (x : View). x.number) b.view ∙ r.1,
          ap (λ (x : SeatValue). x.0.other) left,
          ap (λ (x : SeatValue). entries_by k (entries x.0.seen)) left ∙ own_after m w t state k r.1 b at (Clone n) s is u turn back after ∙ sym (ap (λ (x : SeatValue). x.0.mine) left),
        )

        none_yet : entries_by n (entries u.0.seen) ≡ []
        none_yet =
            let can = may_any (state_of_history m.0.origin.made_at (entries w.0.seen)) k at (Clone n) (held m w t state k r.1 b).1 can_clone in
            let e = written_entry m.0.origin.made_at (entries w.0.seen) k at (Clone n) in
            let apart : k ≢ n = fresh m.0.origin.made_at (entries w.0.seen) k e.at n k b.legal can (held m w t state k r.1 b).1 in
            ap (entries_by n) (log_after m w t state k r.1 b at (Clone n) s is u turn back after) ∙ by_other n (entries w.0.seen) e apart ∙ fresh_entries m.0.origin.made_at (entries w.0.seen) k e.at n b.legal can

        pub clone_given : IsAtRest q n × IsCloneOf p.0 q.0
        clone_given = (
          (
            (ap (λ (x : SeatValue). x.1) right, ap (λ (x : SeatValue). x.0.stage) right, ap (λ (x : SeatValue). x.0.live) right),
            ap (λ (x : SeatValue). x.0.number) right ∙ ap (λ (x : SeatValue). x.0.other) clone_after,
            ap (λ (x : SeatValue). x.0.other) right,
            ap (λ (x : SeatValue). entries_by n (entries x.0.seen)) right ∙ none_yet ∙ sym (ap (λ (x : SeatValue). x.0.mine) right ∙ ap (λ (x : SeatValue). x.0.theirs) clone_after),
          ),
          (
            ap (λ (x : SeatValue). x.0.seen) right ∙ sym (ap (λ (x : SeatValue). x.0.seen) left),
            ap (λ (x : SeatValue). x.0.mine) right ∙ ap (λ (x : SeatValue). x.0.theirs) clone_after,
            ap (λ (x : SeatValue). x.0.origin) right ∙ sym (ap (λ (x : SeatValue). x.0.origin) left),
          ),
        )

        pub clone_made : MakesEntry m.0 p.0 k at (Clone n)
        clone_made =
            let e = made m w t state k r.1 b at (Clone n) s is u turn back after m.0 b.begins refl refl can_clone in
            let e' : MakesEntry m.0 (left_of u.0) k at (Clone n) = record { between = e.between; ends = e.ends; mine = e.mine; own_entries = e.own_entries; legal = e.legal; same = e.same } in
            subst (λ (x : View). MakesEntry m.0 x k at (Clone n)) (sym (ap (λ (x : SeatValue). x.0) left)) e'

-- ---- a join, after the other's seat was taken in

module _ (m o m' w : SeatValue) (t : ℕ) (state : SharedSpanValue) (k j : ℕ) (r : IsAtRest m k) (r' : IsAtRest o j) (met : m' ≡ (both_of m.0 o.0, m.1)) (b : Begun m' w t state) (at : ℕ) (none_open : open_count o.0.mine ≡ 0) where
  pub num_met : m'.0.number ≡ Some k
  num_met = ap (λ (x : SeatValue). x.0.number) met ∙ r.1

  other_met : m'.0.other ≡ Some j
  other_met = ap (λ (x : SeatValue). x.0.other) met ∙ r'.1

  theirs_known : (entries_by j (entries w.0.seen) ≡ m'.0.theirs) × IsHeld m'.0.origin.made_at j (entries w.0.seen)
  theirs_known = known_at m'.0.origin (entries w.0.seen) m'.0.theirs m'.0.other j other_met b.other

  theirs_are : entries_by j (entries w.0.seen) ≡ o.0.mine
  theirs_are = theirs_known.0 ∙ ap (λ (x : SeatValue). x.0.theirs) met

  differ : j ≢ k
  differ e = b.apart j (num_met ∙ ap (λ (x : ℕ). Some x) (sym e)) other_met

  pub join_ended : IsHeld state.making.made_at j state.log × (j ≢ k) × HasNoneOpen state.making.made_at j state.log
  join_ended = (
    subst (λ (s : SharedSpanValue). IsHeld s.making.made_at j s.log) (sym b.state) theirs_known.1,
    differ,
    subst (λ (s : SharedSpanValue). HasNoneOpen s.making.made_at j s.log) (sym b.state) (out_of m'.0.origin.made_at j (entries w.0.seen) o.0.mine theirs_are none_open),
  )

  can_join : may_do (state_of_history m'.0.origin.made_at (entries w.0.seen)) k (Join j) ≡ true
  can_join = may_join (state_of_history m'.0.origin.made_at (entries w.0.seen)) k j theirs_known.1 differ (out_of m'.0.origin.made_at j (entries w.0.seen) o.0.mine theirs_are none_open)

  module _ (s : SharedSpanValue) (is : s ≡ shared_of state.making (state.log ++ written_entry state.making.made_at state.log k at (Join j) ∷ [])) where
    pub join_turn : MayFinish w.0 s
    join_turn = entry_turn m' w t state k num_met b at (Join j) can_join other_met s is (still_home m' w t state k num_met b at (Join j) (λ e. differ (sym e)))

    module _ (u : SeatValue) (turn : Turn) (back : s ≡ shared_of w.0.origin (entries (w.0.seen ++ turn ∷ []))) (after : u ≡ (view_after w.0 turn, [])) where
      join_after : u ≡ (view_after w.0 (Some (written_entry m'.0.origin.made_at (entries w.0.seen) k at (Join j))), [])
      join_after = after_entry m' w t state k num_met b at (Join j) s is u turn back after

      pub join_rest : IsAtRest u k
      join_rest = (
        idle_after m' w t state k num_met b at (Join j) s is u turn back after,
        ap (λ (x : SeatValue). x.0.number) join_after ∙ ap (λ (x : View). x.number) b.view ∙ num_met,
        ap (λ (x : SeatValue). x.0.other) join_after,
        own_after m' w t state k num_met b at (Join j) s is u turn back after,
      )

      both_begin : AllBegin m.0.origin ((m.0.origin, m.0.seen) ∷ (o.0.origin, o.0.seen) ∷ (m.0.earlier ++ o.0.earlier)) w.0.seen
      both_begin = subst (λ (x : SeatValue). AllBegin x.0.origin x.0.earlier w.0.seen) met b.before

      pub join_made : MakesEntry m.0 u.0 k at (Join j)
      join_made = made m' w t state k num_met b at (Join j) s is u turn back after m.0 both_begin.1 (ap (λ (x : SeatValue). x.0.mine) met) (ap (λ (x : SeatValue). x.0.origin) met) can_join

      pub join_theirs : IsPrefix o.0.seen u.0.seen × (entries_by j (entries u.0.seen) ≡ o.0.mine) × (o.0.origin ≡ m.0.origin)
      join_theirs = (
        prefix_after m' w t state k num_met b at (Join j) s is u turn back after o.0.seen both_begin.2.1,
        ap (entries_by j) (log_after m' w t state k num_met b at (Join j) s is u turn back after) ∙ by_other j (entries w.0.seen) (written_entry m'.0.origin.made_at (entries w.0.seen) k at (Join j)) (λ e. differ (sym e)) ∙ theirs_are,
        both_begin.2.0,
      )

-- ---- a release

module _ (m w : SeatValue) (t : ℕ) (state : SharedSpanValue) (k : ℕ) (r : IsAtRest m k) (b : Begun m w t state) (at : ℕ) (none_open : open_count m.0.mine ≡ 0) where
  pub release_own : HasNoneOpen state.making.made_at k state.log
  release_own = out_of state.making.made_at k state.log m.0.mine (own_in m w t state k r.1 b) none_open

  can_release : may_do (state_of_history m.0.origin.made_at (entries w.0.seen)) k Release ≡ true
  can_release = may_release (state_of_history m.0.origin.made_at (entries w.0.seen)) k (out_of m.0.origin.made_at k (entries w.0.seen) m.0.mine (held m w t state k r.1 b).0 none_open)

  module _ (s : SharedSpanValue) (is : s ≡ shared_of state.making (state.log ++ written_entry state.making.made_at state.log k at Release ∷ [])) where
    end_state : s ≡ shared_of w.0.origin (entries (w.0.seen ++ Some (written_entry m.0.origin.made_at (entries w.0.seen) k at Release) ∷ []))
    end_state = entry_state m w t state k r.1 b at Release s is

    home_when : (closed : Bool) → is_closed s.making.made_at s.log ≡ closed → is_closed w.0.origin.made_at (entries (w.0.seen ++ Some (written_entry m.0.origin.made_at (entries w.0.seen) k at Release) ∷ [])) ≡ closed
    home_when closed e = ap (λ (x : SharedSpanValue). is_closed x.making.made_at x.log) (sym end_state) ∙ e

    pub release_turn : is_closed s.making.made_at s.log ≡ false → MayFinish w.0 s
    release_turn e = entry_turn m w t state k r.1 b at Release can_release tt s is (rw (home_when false e) refl)

    pub close_turn : is_closed s.making.made_at s.log ≡ true → MayClose w.0 t (Some s)
    close_turn e = last_turn m w t state k r.1 b at Release can_release tt s is (rw (home_when true e) refl)

    module _ (u : SeatValue) (turn : Turn) (back : s ≡ shared_of w.0.origin (entries (w.0.seen ++ turn ∷ []))) (after : u ≡ (view_after w.0 turn, [])) where
      release_after : u ≡ (view_after w.0 (Some (written_entry m.0.origin.made_at (entries w.0.seen) k at Release)), [])
      release_after = after_entry m w t state k r.1 b at Release s is u turn back after

      pub release_rest : IsIdle u × IsBare u
      release_rest = (idle_after m w t state k r.1 b at Release s is u turn back after, (ap (λ (x : SeatValue). x.0.number) release_after, ap (λ (x : SeatValue). x.0.other) release_after ∙ ap (λ (x : View). x.other) b.view ∙ r.2))

      pub release_made : MakesEntry m.0 u.0 k at Release
      release_made = made m w t state k r.1 b at Release s is u turn back after m.0 b.begins refl refl can_release

      state_is : s ≡ shared_of m.0.origin (entries u.0.seen)
      state_is = is ∙ ap (λ (x : SharedSpanValue). shared_of x.making (x.log ++ written_entry x.making.made_at x.log k at Release ∷ [])) b.state ∙ ap (shared_of m.0.origin) (sym (log_after m w t state k r.1 b at Release s is u turn back after))

      pub release_open : is_closed s.making.made_at s.log ≡ false → ClosesWith m.0.origin (entries u.0.seen) None
      release_open e = ap (λ (x : SharedSpanValue). is_closed x.making.made_at x.log) (sym state_is) ∙ e

      pub release_closed : is_closed s.making.made_at s.log ≡ true → ClosesWith m.0.origin (entries u.0.seen) (Some s)
      release_closed e = (state_is, ap (λ (x : SharedSpanValue). is_closed x.making.made_at x.log) (sym state_is) ∙ e)

abbrev in_some : Slot → SharedSpanValue
in_some None = shared_of some_making []
in_some (Some s) = s

pub some_same : (a b : SharedSpanValue) → Some a ≡ Some b → a ≡ b
some_same a b e = ap in_some e

-- how many entries a handle has open after an entry more
pub made_opens : (v w : View) (k at : ℕ) (what : HandleAct) → MakesEntry v w k at what → open_count w.mine ≡ open_count_after (open_count v.mine) (move_in what)
made_opens v w k at what made = ap open_count made.mine ∙ opens_push v.mine (written_entry v.origin.made_at (entries (v.seen ++ made.between)) k at what)

-- what was seen is legal by the making that is known now
pub made_legal : (v w : View) (k at : ℕ) (what : HandleAct) → MakesEntry v w k at what → IsLegal w.origin.made_at (entries w.seen)
made_legal v w k at what made = ap (λ (o : Making). is_legal (start o.made_at) (entries w.seen)) made.same ∙ made.legal
