-- What the writer knows, and what it puts in place.
use Rattle.std.specs.Prelude.{◌≡◌, List, [], ◌∷◌, ◌++◌, Result, MatchResult}
use mathlib.Core.List.{IsPrefix}
use Rattle.value_reader.specs.declared.numbered.InPlace.{InPlace}
use Rattle.value_reader.specs.declared.order.View.{View}
use Rattle.value_reader.specs.Order.{in_place, EndsWith}

-- a value is put behind all others, which begin with what the writer had seen
pub record Put {A : Type 0} (v : View A) (s s' : InPlace A) (w : View A) : Type 0 where
  pub values : List A
  pub begins : IsPrefix v.seen values
  pub ends : EndsWith values (in_place s)
  pub put : w.seen ≡ values ++ (in_place s').value ∷ []

-- the writer has seen all values
abbrev pub KnowsAll : {A : Type 0} → View A → InPlace A → Type 0
KnowsAll v s = EndsWith v.seen (in_place s)

-- a value was put behind all others
pub record IsPut {A : Type 0} (v : View A) (value : A) (w : View A) (s' : InPlace A) : Type 0 where
  pub ends : EndsWith w.seen (in_place s')
  pub all : w.seen ≡ v.seen ++ value ∷ []

-- all is as before
abbrev pub LeavesAsBefore : {A : Type 0} → View A → InPlace A → View A → InPlace A → Type 0
LeavesAsBefore v s w s' = (w ≡ v) × (s' ≡ s)

-- What came of a value that was to be put in place: it stands behind all others, or all is as before.
abbrev pub PutsOrLeaves : {A U E : Type 0} → View A → InPlace A → A → Result U E → View A → InPlace A → Type 0
PutsOrLeaves v s value result w s' = MatchResult result (λ _. IsPut v value w s') (λ _. LeavesAsBefore v s w s')
