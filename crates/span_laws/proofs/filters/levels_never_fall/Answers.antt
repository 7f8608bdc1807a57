use Rattle.span_laws.proofs.levels.LevelsLemmas.{level_never_falls, level_kept}
use Rattle.span_laws.proofs.filters.levels_never_fall.Goals as goal

pub returns-clause-level : goal.returns-clause-level
returns-clause-level c = level_never_falls

pub returns-clause-kept : goal.returns-clause-kept
returns-clause-kept c = level_kept
