-- The rule of the values, and what each step tells.
use Rattle.std.specs.Prelude.{◌≡◌, ℕ, suc, List, [], length, slice_get, Some}
use Rattle.std.specs.Arc.{arc_value}
use mathlib.Core.Option.{some}
use mathlib.Core.List.{IsPrefix}
use lib.ListN.{get_elem?}
use Rattle.value_reader.specs.declared.numbered.Numbered.{Numbered}
use Rattle.value_reader.specs.declared.numbered.InPlace.{InPlace}
use Rattle.value_reader.specs.declared.order.View.{View}

abbrev pub view_of : {A : Type 0} → List A → View A
view_of seen = record { seen = seen }

-- who has looked at nothing yet
abbrev pub newcomer : {A : Type 0} → View A
newcomer = view_of []

-- what is in place
abbrev pub in_place : {A : Type 0} → InPlace A → Numbered A
in_place s = arc_value s.last

-- the values that replaced the first end with this one, whose number is how many they are
pub record EndsWith {A : Type 0} (values : List A) (t : Numbered A) : Type 0 where
  pub count : length values ≡ t.number
  pub last : (k : ℕ) → t.number ≡ suc k → slice_get values k ≡ Some t.value

-- There is one list of the values that replaced the first. It ends with the one in place, and begins with what each has seen
pub record KeepsOrder {A : Type 0} (s : InPlace A) (views : List (View A)) : Type 0 where
  pub values : List A
  pub ends : EndsWith values (in_place s)
  pub each : (j : ℕ) (v : View A) → get_elem? views j ≡ some v → IsPrefix v.seen values

-- all values are seen, which begin with what had been seen
pub record SeesAll {A : Type 0} (v : View A) (s s' : InPlace A) (w : View A) : Type 0 where
  pub begins : IsPrefix v.seen w.seen
  pub ends : EndsWith w.seen (in_place s')
