-- Each step of the writer keeps the rule of the values.
use Rattle.std.proofs.Common.{◌≡◌, ◌≢◌, ℕ, ◌+◌, List, [], ◌∷◌, ◌++◌, length, Some, slice_get, set, refl, ap, sym, subst, ◌∙◌, ⊎_elim, arith, length-append}
use mathlib.Core.Option.{some}
use mathlib.Core.List.{IsPrefix}
use lib.ListN.{get_elem?}
use Rattle.crossbeam_utils.specs.Register.{TurnsAt, Forks, Merges}
use Rattle.atomic_table.proofs.Lists.{at_set}
use Rattle.value_reader.specs.declared.numbered.Numbered.{Numbered}
use Rattle.value_reader.specs.declared.numbered.InPlace.{InPlace}
use Rattle.value_reader.specs.declared.order.View.{View}
use Rattle.value_reader.specs.Order.{view_of, newcomer, in_place, EndsWith, KeepsOrder}
use Rattle.value_reader.proofs.Lists.{prefix_self}
use Rattle.value_reader.proofs.Steps.{each_set, each_more, none_begins}
use Rattle.shared_value.specs.Puts.{Put}
use Rattle.shared_value.proofs.Lists.{prefix_more, get_last}

pub ends_more : {A : Type 0} (values : List A) (t u : Numbered A) → EndsWith values t → u.number ≡ t.number + 1 → EndsWith (values ++ u.value ∷ []) u
ends_more values t u ends next = record {
  count = omega (arith, length-append values (u.value ∷ []), ends.count, next);
  last = λ k is.
      let len : length values ≡ k = omega (arith, ends.count, next, is) in
      subst (λ (n : ℕ). slice_get (values ++ u.value ∷ []) n ≡ Some u.value) len (get_last values u.value);
}

starts : {A : Type 0} (s : InPlace A) → (in_place s).number ≡ 0 → KeepsOrder s (newcomer ∷ [])
starts s none = record {
  values = [];
  ends = record { count = sym none; last = λ k is. absurd (omega (arith, none, is)) };
  each = each_more [] [] newcomer (λ j u e. absurd cc) (none_begins _);
}

pub starts_with : {A : Type 0} (s : InPlace A) (t : Numbered A) → in_place s ≡ t → t.number ≡ 0 → KeepsOrder s (newcomer ∷ [])
starts_with {A} s t is none = starts s (ap (λ (u : Numbered A). u.number) is ∙ none)

puts : {A : Type 0} (seat : ℕ) (v : View A) (s next : InPlace A) → (in_place next).number ≡ (in_place s).number + 1 → TurnsAt KeepsOrder seat v s next Put
puts seat v s next number views k at =
    let value = (in_place next).value in let more = k.values ++ value ∷ [] in (
      view_of more,
      record {
        values = more;
        ends = ends_more k.values (in_place s) (in_place next) k.ends number;
        each = each_set more views seat (view_of more) (λ j u e. prefix_more u.seen k.values value (k.each j u e)) (prefix_self more);
      },
      record { values = k.values; begins = k.each seat v at; ends = k.ends; put = refl },
    )

pub puts_next : {A : Type 0} (seat : ℕ) (v : View A) (s next : InPlace A) (t : Numbered A) → in_place next ≡ t → t.number ≡ (in_place s).number + 1 → TurnsAt KeepsOrder seat v s next Put
puts_next {A} seat v s next t is number = puts seat v s next (ap (λ (u : Numbered A). u.number) is ∙ number)

pub forks : {A : Type 0} (seat : ℕ) (v : View A) → Forks KeepsOrder seat v v v
forks seat v s views k at = let here = k.each seat v at in
    record { values = k.values; ends = k.ends; each = each_more k.values (set views seat v) v (each_set k.values views seat v k.each here) here }

pub merges : {A : Type 0} (seat : ℕ) (v : View A) (other : ℕ) (w : View A) → Merges KeepsOrder seat v other w w newcomer
merges seat v other w s views k at apart there =
    let told : IsPrefix w.seen k.values = ⊎_elim (λ (t : (other ≡ seat) × (w ≡ w)). absurd (apart t.0)) (λ (t : (other ≢ seat) × (get_elem? views other ≡ some w)). k.each other w t.1) (at_set views seat other w w there) in
    record { values = k.values; ends = k.ends; each = each_set k.values (set views seat w) other newcomer (each_set k.values views seat w k.each told) (none_begins k.values) }
