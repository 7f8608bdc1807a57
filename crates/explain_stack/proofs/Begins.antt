-- What a scene begins with.
use Rattle.std.proofs.Common.{◌≡◌, ℕ, zero, suc, ◌<◌, ◌≤◌, List, [], ◌∷◌, ◌++◌, length, Some, None, refl, sym, ap, subst, ◌∙◌, arith, slice_get, sum_by}
use Rattle.std.specs.Prelude.{IfSome}
use Rattle.std.proofs.lemmas.List.Sums.{sum_by-cons}
use Rattle.trace_base.specs.declared.lane.Lane.{Lane}
use Rattle.trace_base.specs.Gate.{WorldValue, AreSame}
use Rattle.trace_base.specs.Spans.{Spans}
use Rattle.span_registry.specs.Registering.{no_spans}
use Rattle.explain_stack.specs.Order.{Stands}

nothing : {X : Type 0} (xs : List X) → length xs ≡ 0 → xs ≡ []
nothing [] e = refl
nothing (x ∷ xs) e = absurd (cc e)

-- there is one subscriber, and it is as the one that was added
module _ {S : Type 0} (same : S → S → Type 0) (first : S) where
  the_one : (xs : List S) → AreSame same (first ∷ []) xs → (t : S) (d : ℕ) → slice_get xs d ≡ Some t → same first t
  the_one [] are t d there = absurd (cc there)
  the_one (x ∷ []) are t zero there = (let e : x ≡ t = cc there in subst (λ (s : S). same first s) e (are.each 0 first x refl refl))
  the_one (x ∷ []) are t (suc d) there = absurd (cc there)
  the_one (x ∷ y ∷ xs) are t d there = absurd (let c = are.count in omega (arith, c))

  one_sum : (f : S → ℕ) → ((t : S) → same first t → f t ≡ 0) → (xs : List S) → AreSame same (first ∷ []) xs → sum_by f xs ≡ 0
  one_sum f none [] are = refl
  one_sum f none (x ∷ []) are = (let e = none x (are.each 0 first x refl refl) in omega (arith, e, sum_by-cons f x []))
  one_sum f none (x ∷ y ∷ xs) are = absurd (let c = are.count in omega (arith, c))

  pub begins : (spans : S → Spans) (kept : S → ℕ → ℕ → ℕ) (is_whole : S → Type 0) → ((s t : S) → same s t → spans t ≡ spans s) → ((s t : S) → same s t → kept t ≡ kept s) → ((s t : S) → same s t → is_whole s → is_whole t)
      → is_whole first → spans first ≡ no_spans → ((lane number : ℕ) → kept first lane number ≡ 0)
      → (before : List S) → length before ≡ 0 → (world : WorldValue S) → AreSame same (before ++ first ∷ []) world.subscribers → (site_count : ℕ) → site_count ≤ length world.sites
      → (lane other : Lane) (dispatch : ℕ) → dispatch ≡ length before → lane.default ≡ Some dispatch → other.default ≡ None → (other.id ≡ lane.id → ⊥) → Stands spans kept is_whole dispatch 0 site_count world lane other
  begins spans kept is_whole same_spans same_kept same_whole whole none nothing_kept before empty world are_more site_count declared lane other dispatch is default none_other apart =
      let are : AreSame same (first ∷ []) world.subscribers = subst (λ (xs : List S). AreSame same (xs ++ first ∷ []) world.subscribers) (nothing before empty) are_more in
      let count = are.count in
      record {
        there = omega (arith, count, is, empty);
        whole = λ d t there. same_whole first t (the_one world.subscribers are t d there) whole;
        few = λ d t there. (let e = ap (λ (x : Spans). length x.made) (same_spans first t (the_one world.subscribers are t d there) ∙ none) in omega (arith, e));
        declared = declared;
        attached = λ number. (
            let e = one_sum (λ s. kept s lane.id number) (λ t is. ap (λ (k : ℕ → ℕ → ℕ). k lane.id number) (same_kept first t is) ∙ nothing_kept lane.id number) world.subscribers are in
            omega (arith, e));
        in_world = subst (λ o. IfSome o (λ d. d < length world.subscribers)) (sym default) (omega (arith, count, is, empty));
        attached_other = λ number. (
            let e = one_sum (λ s. kept s other.id number) (λ t is. ap (λ (k : ℕ → ℕ → ℕ). k other.id number) (same_kept first t is) ∙ nothing_kept other.id number) world.subscribers are in
            omega (arith, e));
        other_in_world = subst (λ o. IfSome o (λ d. d < length world.subscribers)) (sym none_other) tt;
        apart = apart;
      }
