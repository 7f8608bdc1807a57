-- A binary search and one move put a directive at its place in a table.
use Rattle.std.specs.declared.cmp.Ordering.{Ordering}
use Rattle.std.specs.declared.cmp.Ordering.TheVariants.{Less, Equal, Greater}
use Rattle.env_directives.proofs.Common.{ordering_reverse, ordering_index, match_ordering, AllByRecursion, AllWithin, refill, IsStrictlySortedBy, IsNonDecreasingBy, IsTotalOrder, tied_back, alike_right, take-append-le, sorted_tail, Less-from_sorted, with_item_in_order}
use Rattle.std.specs.Ordering.{is_lt}
use Rattle.std.proofs.Common.{refl, sym, ◌∙◌, ap, arith, get_or, ◌≡◌, ℕ, ◌+◌, ◌<◌, ◌≤◌, suc, zero, List, [], ◌∷◌, length, slice_set, insert, drop}
use Rattle.std.proofs.lemmas.List.{take_all}
use Rattle.std.proofs.lemmas.List.Sorted.{searchable_from_sorted}

module _ {T : Type 0} {cmp : T → T → Ordering} (order : IsTotalOrder cmp) where
  pub greater : (d e : T) → cmp e d ≡ Less → cmp d e ≡ Greater
  greater d e h = order.antisymm d e ∙ ap ordering_reverse h

  pub less : (d e : T) → cmp e d ≡ Greater → cmp d e ≡ Less
  less d e h = order.antisymm d e ∙ ap ordering_reverse h

  pub at_less : (d e : T) (es : List T) → cmp d e ≡ Less → with_item_in_order cmp d (e ∷ es) ≡ d ∷ e ∷ es
  at_less d e es h = ap (λ r. match_ordering r (d ∷ e ∷ es) (d ∷ es) (e ∷ with_item_in_order cmp d es)) h

  pub at_equal : (d e : T) (es : List T) → cmp d e ≡ Equal → with_item_in_order cmp d (e ∷ es) ≡ d ∷ es
  at_equal d e es h = ap (λ r. match_ordering r (d ∷ e ∷ es) (d ∷ es) (e ∷ with_item_in_order cmp d es)) h

  pub at_greater : (d e : T) (es : List T) → cmp d e ≡ Greater → with_item_in_order cmp d (e ∷ es) ≡ e ∷ with_item_in_order cmp d es
  at_greater d e es h = ap (λ r. match_ordering r (d ∷ e ∷ es) (d ∷ es) (e ∷ with_item_in_order cmp d es)) h

  -- where the search found an equal one
  pub replaced : (d : T) (es : List T) (i : ℕ) → IsStrictlySortedBy cmp es → i < length es
      → ((x : T) → cmp (get_or es i x) d ≡ Equal) → slice_set es i d ≡ with_item_in_order cmp d es
  replaced d [] i s l h = absurd (omega arith)
  replaced d (e ∷ es) zero s l h = sym (at_equal d e es (tied_back order e d (h d)))
  replaced d (e ∷ es) (suc i) s l h =
      let before : cmp e d ≡ Less = sym (alike_right order (get_or es i d) d e (h d)) ∙ Less-from_sorted cmp (e ∷ es) 0 (suc i) d s (omega arith) l in
      ap (λ xs. e ∷ xs) (replaced d es i (sorted_tail cmp e es s) (omega arith) h) ∙ sym (at_greater d e es (greater d e before))

  -- where it found the place between the smaller ones and the greater ones
  pub inserted : (d : T) (es : List T) (i : ℕ) → i ≤ length es
      → AllWithin (λ y. cmp y d ≡ Less) es 0 i → AllWithin (λ y. cmp y d ≡ Greater) es i (length es) → insert es i d ≡ with_item_in_order cmp d es
  inserted d [] zero l below above = refl
  inserted d [] (suc i) l below above = absurd (omega arith)
  inserted d (e ∷ es) zero l below above = sym (at_less d e es (less d e (above 0 d (omega arith) (omega arith))))
  inserted d (e ∷ es) (suc i) l below above =
      ap (λ xs. e ∷ xs) (inserted d es i (omega arith) (λ k x lo hi. below (suc k) x (omega arith) (omega arith)) (λ k x lo hi. above (suc k) x (omega arith) (omega arith)))
      ∙ sym (at_greater d e es (greater d e (below 0 d (omega arith) (omega arith))))

  -- one directive more keeps what holds of it and of all others
  all_placed : (P : T → Type 0) (d : T) (es : List T) → P d → AllByRecursion P es → AllByRecursion P (with_item_in_order cmp d es)
  all_placed P d [] p h = (p, tt)
  all_placed P d (e ∷ es) p h = by (cmp d e) refl (all_placed P d es p h.1)
    where
      by : (r : Ordering) → cmp d e ≡ r → AllByRecursion P (with_item_in_order cmp d es) → AllByRecursion P (with_item_in_order cmp d (e ∷ es))
      by Less is rest = rw (at_less d e es is) (p, h)
      by Equal is rest = rw (at_equal d e es is) (p, h.1)
      by Greater is rest = rw (at_greater d e es is) (h.0, rest)

  pub implied : (P Q : T → Type 0) (es : List T) → ((x : T) → P x → Q x) → AllByRecursion P es → AllByRecursion Q es
  implied P Q [] f h = tt
  implied P Q (e ∷ es) f h = (f e h.0, implied P Q es f h.1)

  -- the table stays in its order
  pub sorted_placed : (d : T) (es : List T) → IsStrictlySortedBy cmp es → IsStrictlySortedBy cmp (with_item_in_order cmp d es)
  unfolding IsStrictlySortedBy
  sorted_placed d [] s = (tt, tt)
  sorted_placed d (e ∷ es) s = by (cmp d e) refl (sorted_placed d es s.1)
    where
      by : (r : Ordering) → cmp d e ≡ r → IsStrictlySortedBy cmp (with_item_in_order cmp d es) → IsStrictlySortedBy cmp (with_item_in_order cmp d (e ∷ es))
      by Less is rest = rw (at_less d e es is) ((is, implied (λ y. cmp e y ≡ Less) (λ y. cmp d y ≡ Less) es (λ y h. order.trans d e y is h) s.0), s)
      by Equal is rest = rw (at_equal d e es is) (implied (λ y. cmp e y ≡ Less) (λ y. cmp d y ≡ Less) es (λ y h. order.congr d e y is ∙ h) s.0, s.1)
      by Greater is rest = rw (at_greater d e es is) (all_placed (λ y. cmp e y ≡ Less) d es (order.antisymm e d ∙ ap ordering_reverse is) s.0, rest)

  -- a search for d finds the smaller ones before the greater ones
  pub searchable : (d : T) (es : List T) → IsStrictlySortedBy cmp es → IsNonDecreasingBy (λ y. ordering_index (cmp y d)) es
  searchable d es s = searchable_from_sorted order (λ y. y) es d
      (λ k x low high. ap is_lt (order.antisymm (get_or es (k + 1) x) (get_or es k x) ∙ ap ordering_reverse (Less-from_sorted cmp es k (k + 1) x s (omega arith) high)))

-- a write of as many items as there are
pub refilled : {X : Type 0} (xs ws : List X) → length ws ≡ length xs → refill (length xs) xs ws ≡ ws
refilled xs ws same = take-append-le (length xs) ws (drop (length ws) xs) (omega arith) ∙ take_all (length xs) ws (omega arith)
