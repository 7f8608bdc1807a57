-- The spans that the lane is in, with an entry less.
use Rattle.std.proofs.Common.{sym, ap, subst, ◌∙◌, List, ℕ, [], refl, arith, ◌<◌, ◌==◌}
use Rattle.std.proofs.lemmas.Bool.{eqb-true}
use Rattle.span_registry.proofs.Common.{Entries, times_in, any_if_counted, counted_if_any}
use Rattle.span_registry.proofs.LaneSpansLemmas.{kept_firsts, is_first}
use Rattle.span_registry.proofs.lane_entries.LaneEntries.remove.Goals as goal

pub remove_if-requires : goal.remove_if-requires
remove_if-requires c only =
    let ids = c.self.inside.ids.items in
    let one = eqb-true (times_in c.args.id ids) 1 (ap (λ (xs : List ℕ). times_in c.args.id xs == 1) (sym c.as_slice.ensures.value) ∙ sym c.is_only-only.ensures ∙ only) in
    let there = any_if_counted (λ x. x == c.args.id) ids (omega (arith, one)) in
    subst (λ (xs : List ℕ). 0 < times_in c.args.id xs) (sym c.self.invariant) (counted_if_any (λ x. x == c.args.id) _ (is_first [] ids c.args.id refl there))

pub invariant_of-self : goal.invariant_of-self
invariant_of-self c =
    kept_firsts c.self.inside.ids.items c.self.inside.spans.items c.args.id c.is_only-only.result c.remove_last.new.ids.items c.remove_if.new.spans.items c.self.invariant
    (subst (λ (e : Entries). 0 < times_in c.args.id e.ids) (sym c.self.view_is) c.requires)
    (c.is_only-only.ensures ∙ ap (λ (xs : List ℕ). times_in c.args.id xs == 1) c.as_slice.ensures.value) c.remove_last.ensures c.remove_if.ensures
