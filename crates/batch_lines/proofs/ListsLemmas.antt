-- The lists of the lanes, when the next record joins.
use Rattle.std.proofs.Common.{◌≡◌, ◌≢◌, ◌==◌, ℕ, zero, suc, ◌+◌, ◌<◌, List, [], ◌∷◌, ◌++◌, length, get_or, set, cond, refl, ap, sym, ◌∙◌, subst, arith, eq-eqb, ne_eqb, ⊎_elim}
use Rattle.std.specs.List.{All, filter}
use Rattle.std.proofs.lemmas.Bool.{cases_eq}
use Rattle.std.proofs.lemmas.List.{append-nil, get_or-set_same, get_or-set_other}
use Rattle.std.proofs.lemmas.List.Elements.{filter-append}
use Rattle.otel_base.specs.declared.record.Record.{Record}
use Rattle.trace_batch.specs.declared.item.Item.{Item}
use Rattle.batch_lines.specs.declared.finished.FinishedSpan.{FinishedSpan}
use Rattle.batch_lines.specs.Items.{item_of, items_from, items_of, items_on_lane}

on_own : (l : ℕ) (x : Item FinishedSpan) → x.lane ≡ l → items_on_lane l (x ∷ []) ≡ x ∷ []
on_own l x e = ap (λ b. cond b (x ∷ []) []) (eq-eqb x.lane l e)

on_other : (l : ℕ) (x : Item FinishedSpan) → x.lane ≢ l → items_on_lane l (x ∷ []) ≡ []
on_other l x n = ap (λ b. cond b (x ∷ []) []) (ne_eqb x.lane l n)

on_append : (l : ℕ) (xs ys : List (Item FinishedSpan)) → items_on_lane l (xs ++ ys) ≡ items_on_lane l xs ++ items_on_lane l ys
on_append l xs ys = filter-append (λ (i : Item FinishedSpan). i.lane == l) xs ys

-- one record more
items_more : (n : ℕ) (rs : List Record) (r : Record) (lanes : List ℕ) (lane place : ℕ) → length rs < length lanes → get_or lanes (length rs) 0 ≡ lane → place ≡ n + length rs + 1
    → items_from n (rs ++ r ∷ []) lanes ≡ items_from n rs lanes ++ item_of lane place r ∷ []
items_more n [] r [] lane place less is at = absurd (omega arith)
items_more n [] r (l ∷ ls) lane place less is at = ap (λ (p : ℕ × ℕ). item_of p.0 p.1 r ∷ []) (λ i. (is i, (let e : n + 1 ≡ place = omega arith in e) i))
items_more n (x ∷ rs) r [] lane place less is at = absurd (omega arith)
items_more n (x ∷ rs) r (l ∷ ls) lane place less is at =
    ap (λ (ys : List (Item FinishedSpan)). item_of l (n + 1) x ∷ ys) (items_more (n + 1) rs r ls lane place (omega arith) is (omega arith))

-- one empty list more
pub none_more : (xs : List (List (Item FinishedSpan))) → ((k : ℕ) → get_or xs k [] ≡ []) → (k : ℕ) → get_or (xs ++ [] ∷ []) k [] ≡ []
none_more [] none zero = refl
none_more [] none (suc k) = refl
none_more (x ∷ xs) none zero = none zero
none_more (x ∷ xs) none (suc k) = none_more xs (λ j. none (suc j)) k

-- the next record joins the list of its lane, and no other
pub joined_list : (lists new : List (List (Item FinishedSpan))) (rs : List Record) (r : Record) (lanes : List ℕ) (lane place : ℕ) → length rs < length lanes → get_or lanes (length rs) 0 ≡ lane
    → place ≡ length rs + 1 → lane < length lists → ((k : ℕ) → get_or lists k [] ≡ items_on_lane k (items_of rs lanes)) → new ≡ set lists lane (get_or lists lane [] ++ item_of lane place r ∷ [])
    → (k : ℕ) → get_or new k [] ≡ items_on_lane k (items_of (rs ++ r ∷ []) lanes)
joined_list lists new rs r lanes lane place less is at within each changed k =
    let x : Item FinishedSpan = item_of lane place r in
    let more : items_on_lane k (items_of (rs ++ r ∷ []) lanes) ≡ items_on_lane k (items_of rs lanes) ++ items_on_lane k (x ∷ []) =
    ap (items_on_lane k) (items_more 0 rs r lanes lane place less is (omega arith)) ∙ on_append k (items_of rs lanes) (x ∷ []) in
    ap (λ (xs : List (List (Item FinishedSpan))). get_or xs k []) changed
    ∙ ⊎_elim
    (λ (own : k ≡ lane).
    ap (λ (l : ℕ). get_or (set lists lane (get_or lists lane [] ++ x ∷ [])) l []) own
    ∙ get_or-set_same lists lane (get_or lists lane [] ++ x ∷ []) [] within
    ∙ ap (λ (l : ℕ). get_or lists l [] ++ x ∷ []) (sym own)
    ∙ ap (λ (ys : List (Item FinishedSpan)). ys ++ x ∷ []) (each k)
    ∙ ap (λ (ys : List (Item FinishedSpan)). items_on_lane k (items_of rs lanes) ++ ys) (sym (on_own k x (sym own))))
    (λ (other : k ≢ lane).
    get_or-set_other lists lane k (get_or lists lane [] ++ x ∷ []) [] other
    ∙ each k
    ∙ sym (append-nil (items_on_lane k (items_of rs lanes)))
    ∙ ap (λ (ys : List (Item FinishedSpan)). items_on_lane k (items_of rs lanes) ++ ys) (sym (on_other k x (λ e. other (sym e)))))
    (cases_eq k lane)
    ∙ sym more

-- the items of a lane are of that lane
pub all_on_lane : (l : ℕ) (xs : List (Item FinishedSpan)) → All (λ (i : Item FinishedSpan). i.lane ≡ l) (items_on_lane l xs)
all_on_lane l [] = λ k d h. absurd (omega arith)
all_on_lane l (x ∷ xs) = ⊎_elim
    (λ (own : x.lane ≡ l). subst (All (λ (i : Item FinishedSpan). i.lane ≡ l)) (sym (on_append l (x ∷ []) xs ∙ ap (λ (ys : List (Item FinishedSpan)). ys ++ items_on_lane l xs) (on_own l x own))) (first x own (items_on_lane l xs) (all_on_lane l xs)))
    (λ (other : x.lane ≢ l). subst (All (λ (i : Item FinishedSpan). i.lane ≡ l)) (sym (on_append l (x ∷ []) xs ∙ ap (λ (ys : List (Item FinishedSpan)). ys ++ items_on_lane l xs) (on_other l x other))) (all_on_lane l xs))
    (cases_eq x.lane l)
  where
    first : (x : Item FinishedSpan) → x.lane ≡ l → (ys : List (Item FinishedSpan)) → All (λ (i : Item FinishedSpan). i.lane ≡ l) ys → All (λ (i : Item FinishedSpan). i.lane ≡ l) (x ∷ ys)
    first x own ys all zero d h = own
    first x own ys all (suc k) d h = all k d (omega arith)
