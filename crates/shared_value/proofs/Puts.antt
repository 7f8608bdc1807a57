-- What the writer has put in place.
use Rattle.std.proofs.Common.{◌≡◌, ◌+◌, Result, Ok, Err, MatchResult, List, [], ◌∷◌, ◌++◌, fold, refl, ap, sym, subst, ◌∙◌, arith}
use Rattle.value_reader.specs.declared.numbered.Numbered.{Numbered}
use Rattle.value_reader.specs.declared.numbered.InPlace.{InPlace}
use Rattle.value_reader.specs.declared.order.View.{View}
use Rattle.value_reader.specs.Order.{in_place, EndsWith}
use Rattle.shared_value.specs.Puts.{Put, IsPut}
use Rattle.shared_value.proofs.Lists.{prefix_whole}
use Rattle.shared_value.proofs.Steps.{ends_more}

-- the value that was put last stands behind all others, which the writer had seen
pub put_behind : {A : Type 0} (v w : View A) (s s' : InPlace A) (t : Numbered A) → EndsWith v.seen (in_place s) → t.number ≡ (in_place s).number + 1 → in_place s' ≡ t → Put v s s' w → IsPut v t.value w s'
put_behind {A} v w s s' t writer next is put =
    let whole : v.seen ≡ put.values = prefix_whole v.seen put.values put.begins (omega (arith, writer.count, put.ends.count)) in
    let number = ap (λ (u : Numbered A). u.number) is ∙ next in
    record {
      ends = subst (λ (xs : List A). EndsWith xs (in_place s')) (sym put.put) (ends_more put.values (in_place s) (in_place s') put.ends number);
      all = put.put ∙ (ap (λ (xs : List A). xs ++ (in_place s').value ∷ []) (sym whole) ∙ ap (λ (u : Numbered A). v.seen ++ u.value ∷ []) is);
    }

-- of what is to be put in place the last counts
last_counts : {A B : Type 0} (value : A → B) (b : B) (xs : List A) (a : A) → fold (λ _ x. value x) b (xs ++ a ∷ []) ≡ value a
last_counts value b [] a = refl
last_counts value b (x ∷ xs) a = last_counts value (value x) xs a

-- what is put in place next: the last of what is pending
pub next_is : {A B : Type 0} (value : A → B) (now next : B) (xs ys : List A) (a : A) → ys ≡ xs ++ a ∷ [] → next ≡ fold (λ _ x. value x) now ys → next ≡ value a
next_is value now next xs ys a is told = told ∙ (ap (λ zs. fold (λ _ x. value x) now zs) is ∙ last_counts value now xs a)

-- two facts about one result
pub on_both : {A E : Type 0} (P P' : A → Type 0) (Q Q' : E → Type 0) (G H : Type 0) (r : Result A E) → MatchResult r P Q → MatchResult r P' Q' → ((x : A) → P x → P' x → G) → ((e : E) → Q e → Q' e → H) → MatchResult r (λ _. G) (λ _. H)
on_both P P' Q Q' G H (Ok x) p p' f g = f x p p'
on_both P P' Q Q' G H (Err e) q q' f g = g e q q'
