-- A span's open entries are at most its open guards.
use Rattle.span_laws.proofs.Common.{AllByRecursion, Bool, List, None, Option, Scope, ScopeGuard, Some, SpanOp, [], ap, arith, cases_lt, cond, count_by, count_push, deed, either_after, false, fold, if◌then◌else◌, inl, inr, is_in, is_open, named_within, pick, refl, slice_set, slot_at, slot_open, span_of_scope, subst, sum_by-set, sym, true, ℕ, ◌++◌, ◌+◌, ◌-◌, ◌==◌, ◌||◌, ◌∙◌, ◌∷◌, ◌≡◌, ◌≤◌}
use Rattle.std.proofs.lemmas.Bool.{true≢false}
use Rattle.span_laws.proofs.steps.GuardsLemmas.{IsGuarded, Enters, no_entry, skips, enters_by, exits_by}
use Rattle.span_laws.proofs.records.RecordingLemmas.{turned_by}
use Rattle.span_laws.proofs.steps.StepsLemmas.{KeepsEntries, Turns}
use Rattle.span_laws.proofs.records.StoriesLemmas.{turned}

-- an open guard of an entry of a span
abbrev pub is_own : ℕ → Scope → Bool
is_own s [] = false
is_own s (x ∷ up) = x == s

abbrev pub guards_span : ℕ → Option ScopeGuard → Bool
guards_span s None = false
guards_span s (Some g) = is_own s g.scope

abbrev pub guards_of : List (Option ScopeGuard) → ℕ → ℕ
guards_of gs s = count_by (guards_span s) gs

-- a span that is no more open has none
pub guards_shut : (ids : List ℕ) (hs : List (Option Scope)) (gs : List (Option ScopeGuard)) (es : ℕ → List ℕ) → IsGuarded ids hs gs es → (s : ℕ) → is_open hs s ≡ false → guards_of gs s ≡ 0
guards_shut ids hs gs es now s shut = elim (cases_lt 0 (guards_of gs s)) [
  | inl some ↦ (let found = pick (guards_span s) gs None some in absurd (by_slot found.0 (slot_at gs found.0) refl found.2))
  | inr none ↦ omega (arith, none)
]
  where
    by_scope : (g : ScopeGuard) (scope : Scope) → g.scope ≡ scope → slot_at hs g.handle ≡ Some scope → is_own s scope ≡ true → ⊥
    by_scope g [] is there passes = true≢false (sym passes)
    by_scope g (x ∷ up) is there passes = true≢false (sym (slot_open hs g.handle s (x ∷ up) there (ap (λ b. b || is_in s up) passes)) ∙ shut)

    by_slot : (n : ℕ) (o : Option ScopeGuard) → slot_at gs n ≡ o → guards_span s o ≡ true → ⊥
    by_slot n None there passes = true≢false (sym passes)
    by_slot n (Some g) there passes = by_scope g g.scope refl (now.still n g there) passes

-- ops that turn no entry
stands_still : (n : ℕ) (exits enters : Bool) → enters ≡ false → exits ≡ false → (if exits then n - 1 else if enters then n + 1 else n) ≡ n
stands_still n false false unentered unleft = refl
stands_still n false true unentered unleft = absurd (cc unentered)
stands_still n true enters unentered unleft = absurd (cc unleft)

entries_kept : (ds : List SpanOp) (f : ℕ → ℕ) (s : ℕ) → AllByRecursion KeepsEntries ds → fold (λ f d. turned_by d f) f ds s ≡ f s
entries_kept [] f s all = refl
entries_kept (d ∷ ds) f s all = entries_kept ds (turned_by d f) s all.1 ∙ by_test (d.span == s)
  where
    by_test : (b : Bool) → (if b then turned (deed d.op) (f s) else f s) ≡ f s
    by_test true = stands_still (f s) (deed d.op).exits (deed d.op).enters all.0.0 all.0.1
    by_test false = refl

module _ (ids : List ℕ) (hs : List (Option Scope)) (gs : List (Option ScopeGuard)) (lane : ℕ) where
  -- after an effect
  abbrev all_turned : List SpanOp → ℕ → ℕ
  all_turned ds s = fold (λ f d. turned_by d f) (guards_of gs) ds s

  by_entry : (g : ScopeGuard) (scope : Scope) → g.scope ≡ scope → (ds : List SpanOp) → Turns (span_of_scope scope) None ds → (s : ℕ) → all_turned ds s ≤ guards_of (gs ++ Some g ∷ []) s
  by_entry g [] is ds turns s = let same = entries_kept ds (guards_of gs) s turns in let push = count_push (guards_span s) gs (Some g) in omega (arith, same, push)
  by_entry g (x ∷ up) is ds turns s =
      let push = count_push (guards_span s) gs (Some g) in
      let mine = ap (λ (scope : Scope). cond {A = ℕ} (is_own s scope) 1 0) is in
      subst (λ (ds : List SpanOp). all_turned ds s ≤ guards_of (gs ++ Some g ∷ []) s) (sym turns) (by_test (x == s) (push ∙ ap (λ n. guards_of gs s + n) mine))
    where
      by_test : (b : Bool) → guards_of (gs ++ Some g ∷ []) s ≡ guards_of gs s + cond b 1 0 → (if b then guards_of gs s + 1 else guards_of gs s) ≤ guards_of (gs ++ Some g ∷ []) s
      by_test true is = omega (arith, is)
      by_test false is = omega (arith, is)

  by_exit : (n : ℕ) (g : ScopeGuard) → slot_at gs n ≡ Some g → (scope : Scope) → g.scope ≡ scope → (ds : List SpanOp) → Turns None (span_of_scope scope) ds → (s : ℕ) → all_turned ds s ≤ guards_of (slice_set gs n None) s
  by_exit n g there scope is ds turns s =
      let write = sum_by-set (λ (o : Option ScopeGuard). cond {A = ℕ} (guards_span s o) 1 0) gs n None None (named_within gs n g there) in
      let slot = ap (λ (o : Option ScopeGuard). cond {A = ℕ} (guards_span s o) 1 0) there in
      let mine = ap (λ (scope : Scope). cond {A = ℕ} (is_own s scope) 1 0) is in
      by_scope scope ds turns (omega (arith, write, slot, mine))
    where
      by_scope : (scope : Scope) (ds : List SpanOp) → Turns None (span_of_scope scope) ds → guards_of (slice_set gs n None) s + cond (is_own s scope) 1 0 ≡ guards_of gs s → all_turned ds s ≤ guards_of (slice_set gs n None) s
      by_scope [] ds turns fewer = let same = entries_kept ds (guards_of gs) s turns in omega (arith, same, fewer)
      by_scope (x ∷ up) ds turns fewer = subst (λ (ds : List SpanOp). all_turned ds s ≤ guards_of (slice_set gs n None) s) (sym turns) (by_test (x == s) fewer)
        where
          by_test : (b : Bool) → guards_of (slice_set gs n None) s + cond b 1 0 ≡ guards_of gs s → (if b then guards_of gs s - 1 else guards_of gs s) ≤ guards_of (slice_set gs n None) s
          by_test true is = omega (arith, is)
          by_test false is = omega (arith, is)

  pub turns_within : (new : Option ScopeGuard) (attach spent entry exit : Option ℕ) → Enters ids hs gs lane new attach spent entry exit → (ds : List SpanOp) → Turns entry exit ds → (s : ℕ) → all_turned ds s ≤ guards_of (either_after gs new attach spent) s
  turns_within _ _ _ _ _ (skips place) ds turns s = let same = entries_kept ds (guards_of gs) s turns in let push = count_push (guards_span s) gs None in omega (arith, same, push)
  turns_within _ _ _ _ _ no_entry ds turns s = let same = entries_kept ds (guards_of gs) s turns in omega (arith, same)
  turns_within _ _ _ _ _ (enters_by g there at) ds turns s = by_entry g g.scope refl ds turns s
  turns_within _ _ _ _ _ (exits_by n g there at) ds turns s = by_exit n g there g.scope refl ds turns s
