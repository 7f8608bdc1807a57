-- The last pair of the span goes, or there is none.
use Rattle.std.proofs.Common.{◌∙◌, ap, refl, sym, List, ℕ}
use Rattle.std.specs.List.{remove}
use Rattle.env_filter.proofs.Common.{LevelFilter, without_last, LaneLevels, open_levels, is_of_span}
use Rattle.env_filter.proofs.kept.LevelsLemmas.{pair_none, pair_removed}
use Rattle.env_filter.proofs.levels.Levels.take_off.Goals as goal

pub returns-in-Some : goal.returns-in-Some
returns-in-Some c =
    ap (λ (xs : List ℕ). open_levels xs c.remove-in-Some.new.self.items) c.remove.ensures.items
    ∙ ap (λ (ls : List LevelFilter). open_levels (remove c.self.inside.spans.items c.in-Some.at) ls) c.remove-in-Some.ensures.items
    ∙ pair_removed c.self.inside.spans.items c.self.inside.levels.items c.args.id c.in-Some.at c.self.invariant
    (rw c.as_slice.ensures.value at c.in-Some.ensures.within) (rw c.as_slice.ensures.value at c.in-Some.ensures.is)
    (rw c.as_slice.ensures.value at c.in-Some.ensures.last)
    ∙ ap (λ (l : LaneLevels). without_last (is_of_span c.args.id) l.opened) c.self.view_is

pub returns-in_default : goal.returns-in_default
returns-in_default c =
    sym (ap (λ (l : LaneLevels). l.opened) c.self.view_is) ∙ pair_none c.self.inside.spans.items c.self.inside.levels.items c.args.id (rw c.as_slice.ensures.value at (c.in_default.ensures.none refl))
    ∙ ap (λ (l : LaneLevels). without_last (is_of_span c.args.id) l.opened) c.self.view_is
