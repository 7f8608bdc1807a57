-- What was met stays met.
use Rattle.env_filter.proofs.kept.RisingLevelsLemmas.{level_rises, level_stays}
use Rattle.env_filter.proofs.laws.rises.Goals as goal

pub returns-clause-level : goal.returns-clause-level
returns-clause-level c = level_rises

pub returns-clause-stays : goal.returns-clause-stays
returns-clause-stays c = level_stays
