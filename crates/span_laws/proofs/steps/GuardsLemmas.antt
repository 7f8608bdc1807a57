-- Each entry of a lane has an open guard, whose handle is unspent and of the guard's scope.
use Rattle.span_laws.proofs.Common.{Bool, List, None, Option, Scope, ScopeGuard, Some, [], and_from, and_parts, ap, arith, borrows, cases_eq, cond, cond-false, cond-true, count_by, count_push, either_after, false, get_or-le-sum_by, id_at, inl, inr, is_borrowed, named_push, named_set, named_within, option_map, pick, refl, slice_set, slot_at, some_is, span_of_scope, subst, suc, sum_by-set, sym, times_in, times_without, true, with_entry_on, with_exit_on, with_item, without_last, zero, ℕ, ◌&&◌, ◌++◌, ◌<◌, ◌==◌, ◌||◌, ◌∙◌, ◌∷◌, ◌≡◌}
use Rattle.std.proofs.lemmas.Bool.{eq-eqb, eqb-true, ne_eqb, true≢false}
use Rattle.span_script.specs.Balance.{guards_span, open_guard_by}
use Rattle.span_laws.proofs.spans.OccurrencesLemmas.{slot_push, slot_kept}

-- an open guard of a span on the lane of an id
abbrev pub is_on : List ℕ → ℕ → ℕ → Option ScopeGuard → Bool
is_on ids l s o = guards_span l s (open_guard_by ids o)

pub record IsGuarded (ids : List ℕ) (hs : List (Option Scope)) (gs : List (Option ScopeGuard)) (es : ℕ → List ℕ) : Type 0 where
  pub still : (n : ℕ) (g : ScopeGuard) → slot_at gs n ≡ Some g → slot_at hs g.handle ≡ Some g.scope
  pub counted : (l s : ℕ) → times_in s (es l) ≡ count_by (is_on ids l s) gs

-- What an effect does to the guards of entries and to entries: nothing, a number passed over for an attach, a guard more with
-- its entry, or a guard less with it.
pub data Enters (ids : List ℕ) (hs : List (Option Scope)) (gs : List (Option ScopeGuard)) (lane : ℕ) : Option ScopeGuard → Option ℕ → Option ℕ → Option ℕ → Option ℕ → Type 0 where
  no_entry : Enters ids hs gs lane None None None None None
  skips : (place : ℕ) → Enters ids hs gs lane None (Some place) None None None
  enters_by : (g : ScopeGuard) → slot_at hs g.handle ≡ Some g.scope → lane ≡ id_at ids g.place → Enters ids hs gs lane (Some g) None None (span_of_scope g.scope) None
  exits_by : (n : ℕ) (g : ScopeGuard) → slot_at gs n ≡ Some g → lane ≡ id_at ids g.place → Enters ids hs gs lane None None (Some n) None (span_of_scope g.scope)

module _ (ids : List ℕ) (hs : List (Option Scope)) (gs : List (Option ScopeGuard)) (es : ℕ → List ℕ) (now : IsGuarded ids hs gs es) where
  -- whether an open guard with that scope is one of a span on a lane
  on_of : (l s : ℕ) (g : ScopeGuard) (scope : Scope) → g.scope ≡ scope → is_on ids l s (Some g) ≡ guards_span l s (open_guard_by ids (Some (record g { scope = scope })))
  on_of l s g scope is = ap (λ (x : Scope). guards_span l s (open_guard_by ids (Some (record g { scope = x })))) is

  entered_by : (g : ScopeGuard) (lane : ℕ) → slot_at hs g.handle ≡ Some g.scope → lane ≡ id_at ids g.place → (scope : Scope) → g.scope ≡ scope → (l s : ℕ) → times_in s (with_entry_on es lane (span_of_scope scope) l) ≡ count_by (is_on ids l s) (gs ++ Some g ∷ [])
  entered_by g lane there at [] is l s =
      let push = count_push (is_on ids l s) gs (Some g) in
      let none = ap (λ b. cond {A = ℕ} b 1 0) (on_of l s g [] is) in
      let before = now.counted l s in
      omega (arith, push, none, before)
  entered_by g lane there at (x ∷ up) is l s =
      let push = count_push (is_on ids l s) gs (Some g) in
      let mine = ap (λ b. cond {A = ℕ} b 1 0) (on_of l s g (x ∷ up) is) in
      let before = now.counted l s in
      elim (cases_eq lane l) [
        | inl here ↦ (
            let e = ap (λ (xs : List ℕ). times_in s xs) (cond-true {A = List ℕ} (lane == l) (es lane ++ x ∷ []) (es l) (eq-eqb lane l here)) in
            let t = count_push (λ y. y == s) (es lane) x in
            let w = ap (λ (k : ℕ). times_in s (es k)) here in
            let b = ap (λ b. cond {A = ℕ} (b && x == s) 1 0) (eq-eqb (id_at ids g.place) l (sym at ∙ here)) in
            omega (arith, push, mine, before, e, t, w, b))
        | inr other ↦ (
            let e = ap (λ (xs : List ℕ). times_in s xs) (cond-false {A = List ℕ} (lane == l) (es lane ++ x ∷ []) (es l) (ne_eqb lane l other)) in
            let b = ap (λ b. cond {A = ℕ} (b && x == s) 1 0) (ne_eqb (id_at ids g.place) l (λ e. other (at ∙ e))) in
            omega (arith, push, mine, before, e, b))
      ]

  exited_by : (n : ℕ) (g : ScopeGuard) (lane : ℕ) → slot_at gs n ≡ Some g → lane ≡ id_at ids g.place → (scope : Scope) → g.scope ≡ scope → (l s : ℕ) → times_in s (with_exit_on es lane (span_of_scope scope) l) ≡ count_by (is_on ids l s) (slice_set gs n None)
  exited_by n g lane there at [] is l s =
      let write = sum_by-set (λ (o : Option ScopeGuard). cond {A = ℕ} (is_on ids l s o) 1 0) gs n None None (named_within gs n g there) in
      let slot = ap (λ (o : Option ScopeGuard). cond {A = ℕ} (is_on ids l s o) 1 0) there in
      let none = ap (λ b. cond {A = ℕ} b 1 0) (on_of l s g [] is) in
      let before = now.counted l s in
      omega (arith, write, slot, none, before)
  exited_by n g lane there at (x ∷ up) is l s =
      let write = sum_by-set (λ (o : Option ScopeGuard). cond {A = ℕ} (is_on ids l s o) 1 0) gs n None None (named_within gs n g there) in
      let slot = ap (λ (o : Option ScopeGuard). cond {A = ℕ} (is_on ids l s o) 1 0) there in
      let mine = ap (λ b. cond {A = ℕ} b 1 0) (on_of l s g (x ∷ up) is) in
      let before = now.counted l s in
      elim (cases_eq lane l) [
        | inl here ↦ (
            let e = ap (λ (xs : List ℕ). times_in s xs) (cond-true {A = List ℕ} (lane == l) (without_last (λ y. y == x) (es lane)) (es l) (eq-eqb lane l here)) in
            let t = times_without (es lane) x s some in
            let w = ap (λ (k : ℕ). times_in s (es k)) here in
            let b = ap (λ b. cond {A = ℕ} (b && x == s) 1 0) (eq-eqb (id_at ids g.place) l (sym at ∙ here)) in
            omega (arith, write, slot, mine, before, e, t, w, b))
        | inr other ↦ (
            let e = ap (λ (xs : List ℕ). times_in s xs) (cond-false {A = List ℕ} (lane == l) (without_last (λ y. y == x) (es lane)) (es l) (ne_eqb lane l other)) in
            let b = ap (λ b. cond {A = ℕ} (b && x == s) 1 0) (ne_eqb (id_at ids g.place) l (λ e. other (at ∙ e))) in
            omega (arith, write, slot, mine, before, e, b))
      ]
    where
      some : 0 < times_in x (es lane)
      some =
          let c = get_or-le-sum_by (λ (o : Option ScopeGuard). cond {A = ℕ} (is_on ids lane x o) 1 0) gs n None (named_within gs n g there) in
          let slot = ap (λ (o : Option ScopeGuard). cond {A = ℕ} (is_on ids lane x o) 1 0) there in
          let mine = ap (λ b. cond {A = ℕ} b 1 0) (on_of lane x g (x ∷ up) is ∙ and_from (id_at ids g.place == lane) (x == x) (eq-eqb (id_at ids g.place) lane (sym at)) (eq-eqb x x refl)) in
          let before = now.counted lane x in
          omega (arith, c, slot, mine, before)

  -- after an effect's guard
  pub guarded_after : (lane : ℕ) (new : Option ScopeGuard) (attach spent entry exit : Option ℕ) → Enters ids hs gs lane new attach spent entry exit → IsGuarded ids hs (either_after gs new attach spent) (with_exit_on (with_entry_on es lane entry) lane exit)
  guarded_after lane _ _ _ _ _ no_entry = now
  guarded_after lane _ _ _ _ _ (skips place) = record {
    still = λ n x is. named_push (λ (y : ScopeGuard). slot_at hs y.handle ≡ Some y.scope) gs None now.still (λ y e. absurd (cc e)) n x is;
    counted = λ l s. (let push = count_push (is_on ids l s) gs None in let before = now.counted l s in omega (arith, push, before));
  }
  guarded_after lane _ _ _ _ _ (enters_by g there at) = record {
    still = λ n x is. named_push (λ (y : ScopeGuard). slot_at hs y.handle ≡ Some y.scope) gs (Some g) now.still (λ y e. subst (λ (z : ScopeGuard). slot_at hs z.handle ≡ Some z.scope) (some_is g y e) there) n x is;
    counted = entered_by g lane there at g.scope refl;
  }
  guarded_after lane _ _ _ _ _ (exits_by n g there at) = record {
    still = λ m x is. now.still m x (named_set gs n m x is);
    counted = exited_by n g lane there at g.scope refl;
  }

  -- after a handle more
  pub guarded_more : (new : Option Scope) → IsGuarded ids (with_item hs (option_map Some new)) gs es
  guarded_more None = now
  guarded_more (Some scope) = record { still = λ n g is. slot_push hs (Some scope) g.handle g.scope (now.still n g is); counted = now.counted }

  -- after one less that no guard names
  pub guarded_less : (k : ℕ) → is_borrowed gs k ≡ false → IsGuarded ids (slice_set hs k None) gs es
  guarded_less k free = record { still = λ n g is. slot_kept hs k g.handle g.scope (λ e. true≢false (sym (eq-eqb g.handle k e) ∙ unnamed gs n g free is)) (now.still n g is); counted = now.counted }
    where
      unnamed : (gs : List (Option ScopeGuard)) (n : ℕ) (g : ScopeGuard) → is_borrowed gs k ≡ false → slot_at gs n ≡ Some g → (g.handle == k) ≡ false
      unnamed [] n g free is = absurd (cc is)
      unnamed (o ∷ gs) zero g free is = sym (ap (borrows k) is) ∙ first (borrows k o) (is_borrowed gs k) free
        where
          first : (a b : Bool) → (a || b) ≡ false → a ≡ false
          first true b e = e
          first false b e = refl
      unnamed (o ∷ gs) (suc n) g free is = unnamed gs n g (second (borrows k o) (is_borrowed gs k) free) is
        where
          second : (a b : Bool) → (a || b) ≡ false → b ≡ false
          second true b e = absurd (cc e)
          second false b e = e

  -- an entry's span is named by an unspent handle
  pub entry_named : (l s : ℕ) → 0 < times_in s (es l) → (k : ℕ) × (up : Scope) × (slot_at hs k ≡ Some (s ∷ up))
  entry_named l s some =
      let before = now.counted l s in
      let found = pick (is_on ids l s) gs None (omega (arith, some, before)) in
      by_slot found.0 (slot_at gs found.0) refl found.2
    where
      by_scope : (g : ScopeGuard) (scope : Scope) → g.scope ≡ scope → slot_at hs g.handle ≡ Some scope → is_on ids l s (Some g) ≡ true → (k : ℕ) × (up : Scope) × (slot_at hs k ≡ Some (s ∷ up))
      by_scope g [] is there passes = absurd (true≢false (sym passes ∙ on_of l s g [] is))
      by_scope g (x ∷ up) is there passes =
          let same = eqb-true x s (and_parts (id_at ids g.place == l) (x == s) (sym (on_of l s g (x ∷ up) is) ∙ passes)).1 in
          (g.handle, up, there ∙ ap (λ (y : ℕ). Some (y ∷ up)) same)

      by_slot : (n : ℕ) (o : Option ScopeGuard) → slot_at gs n ≡ o → is_on ids l s o ≡ true → (k : ℕ) × (up : Scope) × (slot_at hs k ≡ Some (s ∷ up))
      by_slot n None there passes = absurd (true≢false (sym passes))
      by_slot n (Some g) there passes = by_scope g g.scope refl (now.still n g there) passes
