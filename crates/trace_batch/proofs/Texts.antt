-- The texts of a list's items.
use Rattle.std.proofs.Common.{◌≡◌, ◌≢◌, ℕ, ◌+◌, suc, List, [], ◌∷◌, ◌++◌, map, take, drop, refl, ap, sym, ◌∙◌, arith}
use Rattle.std.specs.List.{All}
use Rattle.std.proofs.lemmas.List.{map-append, take-append-drop}
use Rattle.std.proofs.lemmas.List.Elements.{All-drop}
use Rattle.trace_batch.specs.declared.item.Item.{Item}
use Rattle.trace_batch.specs.Merges.{sent_of, of_lane}
use Rattle.trace_batch.proofs.Lanes.{of_own, of_other, of_append}

module _ {F : Type 0} where
  abbrev pub AllOf : ℕ → List (Item F) → Type 0
  AllOf l xs = All (λ (i : Item F). i.lane ≡ l) xs

  all_tail : (l : ℕ) (x : Item F) (xs : List (Item F)) → AllOf l (x ∷ xs) → AllOf l xs
  all_tail l x xs a k d h = a (suc k) d (omega arith)

  pub all_drop : (l k : ℕ) (xs : List (Item F)) → AllOf l xs → AllOf l (drop k xs)
  all_drop l k xs a = All-drop (λ (i : Item F). i.lane ≡ l) k xs a

module _ {F : Type 0} (text : F → ℕ → ℕ → List ℕ) where
  pub sent_all : (list : List (Item F)) (i : ℕ) → map (sent_of text) (take i list) ++ map (sent_of text) (drop i list) ≡ map (sent_of text) list
  sent_all list i = sym (map-append (sent_of text) (take i list) (drop i list)) ∙ ap (map (sent_of text)) (take-append-drop i list)

  pub of_own_texts : (l : ℕ) (xs : List (Item F)) → AllOf l xs → of_lane l (map (sent_of text) xs) ≡ map (sent_of text) xs
  of_own_texts l [] a = refl
  of_own_texts l (x ∷ xs) a =
      of_append l (sent_of text x ∷ []) (map (sent_of text) xs) ∙ ap (λ ys. ys ++ of_lane l (map (sent_of text) xs)) (of_own l (sent_of text x) (a 0 x (omega arith)))
      ∙ ap (λ ys. sent_of text x ∷ ys) (of_own_texts l xs (all_tail l x xs a))

  pub of_other_texts : (l m : ℕ) (xs : List (Item F)) → l ≢ m → AllOf l xs → of_lane m (map (sent_of text) xs) ≡ []
  of_other_texts l m [] n a = refl
  of_other_texts l m (x ∷ xs) n a =
      of_append m (sent_of text x ∷ []) (map (sent_of text) xs) ∙ ap (λ ys. ys ++ of_lane m (map (sent_of text) xs)) (of_other m (sent_of text x) (λ e. n (sym (a 0 x (omega arith)) ∙ e)))
      ∙ of_other_texts l m xs n (all_tail l x xs a)
