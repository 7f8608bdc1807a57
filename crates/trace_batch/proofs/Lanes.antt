-- What a list has of a lane, when an item joins.
use Rattle.std.proofs.Common.{◌≡◌, ◌≢◌, ℕ, ◌==◌, cond, List, [], ◌∷◌, ◌++◌, ap, sym, ◌∙◌, append_assoc, eq-eqb, ne_eqb}
use Rattle.std.proofs.lemmas.List.{append-nil}
use Rattle.std.proofs.lemmas.List.Elements.{filter-append}
use Rattle.trace_batch.specs.declared.item.Sent.{Sent}
use Rattle.trace_batch.specs.Merges.{of_lane}

pub of_own : (l : ℕ) (x : Sent) → x.lane ≡ l → of_lane l (x ∷ []) ≡ x ∷ []
of_own l x e = ap (λ b. cond b (x ∷ []) []) (eq-eqb x.lane l e)

pub of_other : (l : ℕ) (x : Sent) → x.lane ≢ l → of_lane l (x ∷ []) ≡ []
of_other l x n = ap (λ b. cond b (x ∷ []) []) (ne_eqb x.lane l n)

pub of_append : (l : ℕ) (xs ys : List Sent) → of_lane l (xs ++ ys) ≡ of_lane l xs ++ of_lane l ys
of_append l xs ys = filter-append (λ (s : Sent). s.lane == l) xs ys

pub of_more : (l : ℕ) (got items : List Sent) (x : Sent) → of_lane l (got ++ (items ++ x ∷ [])) ≡ of_lane l (got ++ items) ++ of_lane l (x ∷ [])
of_more l got items x = ap (of_lane l) (sym (append_assoc got items (x ∷ []))) ∙ of_append l (got ++ items) (x ∷ [])

pub of_more_own : (l : ℕ) (got items : List Sent) (x : Sent) → x.lane ≡ l → of_lane l (got ++ (items ++ x ∷ [])) ≡ of_lane l (got ++ items) ++ x ∷ []
of_more_own l got items x e = of_more l got items x ∙ ap (λ ys. of_lane l (got ++ items) ++ ys) (of_own l x e)

pub of_more_other : (l : ℕ) (got items : List Sent) (x : Sent) → x.lane ≢ l → of_lane l (got ++ (items ++ x ∷ [])) ≡ of_lane l (got ++ items)
of_more_other l got items x n = of_more l got items x ∙ ap (λ ys. of_lane l (got ++ items) ++ ys) (of_other l x n) ∙ append-nil (of_lane l (got ++ items))

-- an item that goes from the front of what is held to the end of what was taken
pub of_moved : (l : ℕ) (got items : List Sent) (x : Sent) → of_lane l ((got ++ x ∷ []) ++ items) ≡ of_lane l (got ++ (x ∷ items))
of_moved l got items x = ap (of_lane l) (append_assoc got (x ∷ []) items)
