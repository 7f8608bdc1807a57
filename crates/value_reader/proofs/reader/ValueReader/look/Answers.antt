-- What is found is later, and what was seen begins what is seen then.
use Rattle.std.proofs.Common.{◌≡◌, option_map, Some, ap, sym, subst, ◌∙◌, arith}
use Rattle.std.specs.Arc.{arc_value}
use Rattle.left_right.specs.Sides.{view}
use Rattle.value_reader.specs.declared.numbered.Numbered.{Numbered}
use Rattle.value_reader.specs.Knowing.{ReaderValue, FindsLater}
use Rattle.value_reader.proofs.Firsts.{sees_more, first_is, found_at}
use Rattle.value_reader.proofs.reader.ValueReader.look.Goals as goal

pub returns-in-Some-later-clause-begins : goal.returns-in-Some-later-clause-begins
returns-in-Some-later-clause-begins g c =
    let told = subst (λ o. FindsLater (view c.in-Some.reader.place) (view c.find-reader.result.0.place) c.deref-in-Some.result.now.number (option_map arc_value o)) c.in-Some-later.is c.find-reader.ensures in
    let was : c.self.inside.reader ≡ Some c.in-Some.reader = sym c.take.ensures.value ∙ c.in-Some.is in
    sees_more _ _ _ _ _ (ap (λ (k : ReaderValue g.row.T.Denot). k.values) c.self.view_is) (ap (option_map (λ r. r.place.me.0.client)) was) told.0

pub returns-in-Some-later-clause-first : goal.returns-in-Some-later-clause-first
returns-in-Some-later-clause-first g c = first_is _ _ _ (ap (λ (k : ReaderValue g.row.T.Denot). k.values) c.self.view_is)

pub returns-in-Some-later-clause-later : goal.returns-in-Some-later-clause-later
returns-in-Some-later-clause-later g c =
    let told = subst (λ o. FindsLater (view c.in-Some.reader.place) (view c.find-reader.result.0.place) c.deref-in-Some.result.now.number (option_map arc_value o)) c.in-Some-later.is c.find-reader.ensures in
    let is = ap (λ (n : Numbered g.row.T.Denot). n.number) c.deref-in-Some.ensures in
    let number = ap (λ (k : ReaderValue g.row.T.Denot). k.number) c.self.view_is in
    omega (arith, told.1, is, number)

pub invariant_of-self : goal.invariant_of-self
invariant_of-self g c =
    let told = subst (λ o. FindsLater (view c.in-Some.reader.place) (view c.find-reader.result.0.place) c.deref-in-Some.result.now.number (option_map arc_value o)) c.in-Some-later.is c.find-reader.ensures in
    found_at _ _ _ _ told.1 told.2

pub returns-in_default-later-clause-begins : goal.returns-in_default-later-clause-begins
returns-in_default-later-clause-begins g c =
    let told = subst (λ o. FindsLater (view c.in-Some.reader.place) (view c.find-reader.result.0.place) c.deref-in-Some.result.now.number (option_map arc_value o)) c.in_default-later.is c.find-reader.ensures in
    let was : c.self.inside.reader ≡ Some c.in-Some.reader = sym c.take.ensures.value ∙ c.in-Some.is in
    sees_more _ _ _ _ _ (ap (λ (k : ReaderValue g.row.T.Denot). k.values) c.self.view_is) (ap (option_map (λ r. r.place.me.0.client)) was) told

pub returns-in_default-later-clause-first : goal.returns-in_default-later-clause-first
returns-in_default-later-clause-first g c = first_is _ _ _ (ap (λ (k : ReaderValue g.row.T.Denot). k.values) c.self.view_is)
