-- Who comes, and who looks, keeps the rule of the values.
use Rattle.std.proofs.Common.{◌≡◌, ◌≢◌, ℕ, List, [], ◌∷◌, ◌++◌, set, refl, subst, ⊎_elim}
use mathlib.Core.Option.{some}
use mathlib.Core.List.{IsPrefix}
use lib.ListN.{get_elem?}
use Rattle.crossbeam_utils.specs.Register.{Admits, Turns}
use Rattle.atomic_table.proofs.Lists.{at_set, at_snoc}
use Rattle.value_reader.specs.declared.numbered.InPlace.{InPlace}
use Rattle.value_reader.specs.declared.order.View.{View}
use Rattle.value_reader.specs.Order.{view_of, newcomer, KeepsOrder, SeesAll}
use Rattle.value_reader.proofs.Lists.{prefix_self}

abbrev pub Each : {A : Type 0} → List A → List (View A) → Type 0
Each {A} values views = (j : ℕ) (v : View A) → get_elem? views j ≡ some v → IsPrefix v.seen values

pub each_set : {A : Type 0} (values : List A) (views : List (View A)) (seat : ℕ) (w : View A) → Each values views → IsPrefix w.seen values → Each values (set views seat w)
each_set {A} values views seat w each here j u e =
    ⊎_elim (λ (t : (j ≡ seat) × (w ≡ u)). subst (λ (z : View A). IsPrefix z.seen values) t.1 here) (λ (t : (j ≢ seat) × (get_elem? views j ≡ some u)). each j u t.1) (at_set views seat j w u e)

pub each_more : {A : Type 0} (values : List A) (views : List (View A)) (w : View A) → Each values views → IsPrefix w.seen values → Each values (views ++ w ∷ [])
each_more {A} values views w each here j u e =
    ⊎_elim (each j u) (λ (same : w ≡ u). subst (λ (z : View A). IsPrefix z.seen values) same here) (at_snoc views w u j e)

pub none_begins : {A : Type 0} (values : List A) → IsPrefix [] values
none_begins values = (values, refl)

pub admits : {A : Type 0} → Admits (λ (s : InPlace A) (views : List (View A)). KeepsOrder s views) newcomer
admits s views k = record { values = k.values; ends = k.ends; each = each_more k.values views newcomer k.each (none_begins k.values) }

pub looks : {A : Type 0} (seat : ℕ) (v : View A) → Turns KeepsOrder seat v (λ s. s) SeesAll
looks seat v s views k at = (
  view_of k.values,
  record { values = k.values; ends = k.ends; each = each_set k.values views seat (view_of k.values) k.each (prefix_self k.values) },
  record { begins = k.each seat v at; ends = k.ends },
)
