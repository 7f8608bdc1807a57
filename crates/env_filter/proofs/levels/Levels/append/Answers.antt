-- Both lists grow by one.
use Rattle.std.proofs.Common.{◌∙◌, ap, List, ℕ, ◌++◌, ◌∷◌, []}
use Rattle.env_filter.proofs.Common.{LevelFilter, OpenLevel, LaneLevels, open_levels}
use Rattle.env_filter.proofs.kept.LevelsLemmas.{pair_append}
use Rattle.env_filter.proofs.levels.Levels.append.Goals as goal

pub returns : goal.returns
returns c =
    let e : OpenLevel = record { span = c.args.id; level = c.args.level } in
    ap (λ (xs : List ℕ). open_levels xs c.push_in_room-2.new.items.items) c.push_in_room.ensures
    ∙ ap (λ (ls : List LevelFilter). open_levels (c.self.inside.spans.items ++ c.args.id ∷ []) ls) c.push_in_room-2.ensures
    ∙ pair_append c.self.inside.spans.items c.self.inside.levels.items c.args.id c.args.level c.self.invariant
    ∙ ap (λ (l : LaneLevels). l.opened ++ e ∷ []) c.self.view_is
