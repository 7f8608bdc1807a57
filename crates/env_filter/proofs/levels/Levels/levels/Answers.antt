-- The levels are those of the pairs.
use Rattle.std.proofs.Common.{◌∙◌, ap, map}
use Rattle.env_filter.proofs.Common.{OpenLevel, LaneLevels}
use Rattle.env_filter.proofs.kept.LevelsLemmas.{pair_levels}
use Rattle.env_filter.proofs.levels.Levels.levels.Goals as goal

pub returns : goal.returns
returns c = c.as_slice.ensures.value ∙ pair_levels c.self.inside.spans.items c.self.inside.levels.items c.self.invariant ∙ ap (λ (l : LaneLevels). map (λ (e : OpenLevel). e.level) l.opened) c.self.view_is
