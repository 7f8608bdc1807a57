-- The first value is in place, and known to all.
use Rattle.std.proofs.Common.{◌≡◌, List, [], ◌∷◌, length, All, ap, sym, subst, ◌∙◌, ⊎_elim, arith}
use Rattle.std.proofs.lemmas.List.Elements.{All-nil, All-cons}
use Rattle.core.specs.List.{AllClonesOf}
use Rattle.std.specs.Arc.{arc_value}
use Rattle.std.specs.declared.alloc.Global.{Global}
use Rattle.std.specs.declared.sync.Arc.{Arc}
use Rattle.value_reader.specs.declared.numbered.Numbered.{Numbered}
use Rattle.value_reader.specs.declared.order.View.{View}
use Rattle.value_reader.specs.Knowing.{IsLast, IsFirst}

-- copies of the first value are of the first value
pub all_first : {A : Type 0} (first : A) (t : Numbered A) (copies : List (Arc (Numbered A) Global)) → IsFirst first t → All (λ c. arc_value c ≡ t) copies → All (λ c. IsFirst first (arc_value c)) copies
all_first {A} first t copies is all = λ k d low. subst (λ (u : Numbered A). IsFirst first u) (sym (all k d low)) is

-- what points to a value, and what was copied of it, points to that value
pub clones_same : {A : Type 0} (t : Numbered A) (c : Arc (Numbered A) Global) (copies : List (Arc (Numbered A) Global)) → arc_value c ≡ t → AllClonesOf (λ x y. arc_value y ≡ arc_value x) c copies → All (λ d. arc_value d ≡ t) copies
clones_same {A} t c [] is all = All-nil (λ (e : Arc (Numbered A) Global). arc_value e ≡ t)
clones_same {A} t c (d ∷ ds) is all =
    All-cons (λ (e : Arc (Numbered A) Global). arc_value e ≡ t) d ds (⊎_elim (λ (same : d ≡ c). ap arc_value same ∙ is) (λ (clone : arc_value d ≡ arc_value c). clone ∙ is) all.0) (clones_same t c ds is all.1)

-- where nothing has replaced the first value, that is the last one
pub first_is_last : {A : Type 0} (first : A) (v : View A) (t u : Numbered A) → t ≡ u → u.number ≡ 0 → u.value ≡ first → v.seen ≡ [] → IsLast first v t
first_is_last {A} first v t u is zeroth value none =
    let number = ap (λ (n : Numbered A). n.number) is ∙ zeroth in
    record {
      ends = record { count = ap length none ∙ sym number; last = λ k some. absurd (omega (arith, number, some)) };
      alone = λ _. ap (λ (n : Numbered A). n.value) is ∙ value;
    }
