-- The value that a test was asked of.
use Rattle.std.proofs.Common.{rules, ◌≡◌, get_or, set, None, Ok, refl, sym, ap, subst, ◌∙◌}
use Rattle.std.specs.Fn.{FnOnceReturnsAt}
use Rattle.std.proofs.lemmas.Option.{same_Some}
use Rattle.sparse_slots.proofs.SlotsLemmas.{read_value}
use Rattle.sparse_slots.proofs.Slots.take_if.Goals as goal

pub returns-in-Err : goal.returns-in-Err
returns-in-Err g c =
    let held = read_value c.self.inside.places.items c.deref.result.now c.self.inside.live.items c.args.number c.in_ok-place.field-0.now c.in_ok-value_at.field-0.now (search rules) c.in_ok-place.ensures.lookup.3 (search rules) in
    (c.in_ok-value_at.field-0.now, ap (λ s. get_or s.items c.args.number None) (sym c.self.view_is) ∙ held, c.in-Err.ensures, refl)

pub returns : goal.returns
returns g c =
    let held = read_value c.self.inside.places.items c.deref.result.now c.self.inside.live.items c.args.number c.in_ok-place.field-0.now c.in_ok-value_at.field-0.now (search rules) c.in_ok-place.ensures.lookup.3 (search rules) in
    let same = same_Some c.in_ok-value_at.field-0.now c.take_at.result (sym held ∙ c.take_at.ensures.value) in
    let allowed : c.ask.result ≡ Ok tt = (search rules) in
    (ap (λ s. get_or s.items c.args.number None) (sym c.self.view_is) ∙ c.take_at.ensures.value, subst (λ x. FnOnceReturnsAt g.F.FnOnce c.args.test x (Ok tt)) same (subst (λ r. FnOnceReturnsAt g.F.FnOnce c.args.test c.in_ok-value_at.field-0.now r) allowed c.ask.ensures), c.take_at.ensures.spent ∙ ap (λ s. set s.items c.args.number None) c.self.view_is)
